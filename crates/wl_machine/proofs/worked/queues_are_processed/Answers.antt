use Rattle.std.proofs.Common.{refl}
use Rattle.wl_machine.proofs.worked.queues_are_processed.Goals as goal

pub returns : goal.returns
returns c = record { reader = refl; shared = refl; names = refl }
