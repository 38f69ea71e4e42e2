-- What only the code of this crate says (own), beside `Words`.
use Rattle.std.specs.Prelude.{◌≡◌}
use Rattle.clap.specs.Values.{kind_of}
use Rattle.clap.specs.declared.error.kind.ErrorKind.{ErrorKind}
use Rattle.clap.specs.declared.error.kind.ErrorKind.TheVariants.{ArgumentConflict, ValueValidation}
use Rattle.wl_cli.specs.declared.arguments.OptionFault.{OptionFault}
use Rattle.wl_cli.specs.declared.arguments.OptionFault.TheVariants as fault
use Rattle.wl_cli.specs.declared.job.UsageFault.{UsageFault}
use Rattle.wl_cli.specs.declared.job.UsageFault.TheVariants.{Usage, Memory}

abbrev pub kind_for : OptionFault → ErrorKind
kind_for fault.TwoEpochs = ArgumentConflict
kind_for fault.Listen = ValueValidation
kind_for fault.Log = ValueValidation
kind_for fault.Status = ValueValidation
kind_for fault.Memory = ValueValidation

-- this option's error, unless memory ran out
abbrev pub IsUsageError : OptionFault → UsageFault → Type 0
IsUsageError why (Usage error) = kind_of error ≡ kind_for why
IsUsageError why Memory = Unit {0}
