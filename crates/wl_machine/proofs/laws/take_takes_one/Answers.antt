use Rattle.wl_machine.proofs.OneMove.{take_takes_one}
use Rattle.wl_machine.proofs.laws.take_takes_one.Goals as goal

pub returns : goal.returns
returns c = take_takes_one
