use Rattle.std.proofs.Common.{refl}
use Rattle.wl_machine.proofs.worked.ends_are_made.Goals as goal

pub returns : goal.returns
returns c = record { next = refl; taken = refl; code = refl; untold = refl; told = refl; terminated = refl }
