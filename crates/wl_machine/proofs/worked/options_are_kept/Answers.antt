use Rattle.std.proofs.Common.{refl}
use Rattle.wl_machine.proofs.worked.options_are_kept.Goals as goal

pub returns : goal.returns
returns c = record { waits = refl; free = refl; stolen = refl }
