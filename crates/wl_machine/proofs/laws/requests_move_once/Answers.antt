use Rattle.wl_machine.proofs.OneMove.{requests_move_once}
use Rattle.wl_machine.proofs.laws.requests_move_once.Goals as goal

pub returns : goal.returns
returns c = requests_move_once
