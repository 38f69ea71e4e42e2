-- What only the code of this crate says (own), beside `Endpoints`.
use Rattle.std.specs.Prelude.{◌≡◌, ◌⊎◌}
use Rattle.wl_cli.specs.declared.arguments.OptionFault.{OptionFault}
use Rattle.wl_cli.specs.declared.arguments.OptionFault.TheVariants.{Listen, Memory}

abbrev pub IsListenFault : OptionFault → Type 0
IsListenFault why = (why ≡ Memory) ⊎ (why ≡ Listen)
