use Rattle.wl_script.proofs.Scripts.{in_turn}
use Rattle.wl_script.proofs.laws.lines_are_answered_in_turn.Goals as goal

pub returns : goal.returns
returns c = in_turn
