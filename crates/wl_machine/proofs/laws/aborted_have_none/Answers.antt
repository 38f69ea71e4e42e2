use Rattle.wl_machine.proofs.Standing.{aborted_have_none}
use Rattle.wl_machine.proofs.laws.aborted_have_none.Goals as goal

pub returns : goal.returns
returns c = aborted_have_none
