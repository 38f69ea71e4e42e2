-- What only the code of this crate says (own), beside `Daemon`.
use Rattle.std.specs.Prelude.{◌≡◌, ◌⊎◌, List, codes}
use Rattle.clap.specs.Words.{Row}
use Rattle.wl_cli.specs.Numbers.{HasNumberTo, MayHaveNumberTo}
use Rattle.wl_cli.specs.declared.arguments.OptionFault.{OptionFault}
use Rattle.wl_cli.specs.declared.arguments.OptionFault.TheVariants as fault
use Rattle.wl_cli.specs.declared.daemon.DaemonNumbers.{DaemonNumbers}

abbrev pub IsEpochFault : OptionFault → Type 0
IsEpochFault why = (why ≡ fault.Memory) ⊎ (why ≡ fault.TwoEpochs)

-- the options' texts say these numbers
pub record HasNumbers (rows : List Row) (numbers : DaemonNumbers) : Type 0 where
  pub connections : HasNumberTo 1000000 (codes "connections") rows numbers.connections
  pub per_address : MayHaveNumberTo 1000000 (codes "per-address") rows numbers.per_address
  pub managers : HasNumberTo 10000000 (codes "managers") rows numbers.managers
  pub idle : HasNumberTo 86400 (codes "idle") rows numbers.idle
  pub loops : MayHaveNumberTo 64 (codes "loops") rows numbers.loops
