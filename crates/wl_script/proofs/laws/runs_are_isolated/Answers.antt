use Rattle.wl_world.proofs.Isolation.{isolated}
use Rattle.wl_script.proofs.Replies.{runs_are_isolated}
use Rattle.wl_script.proofs.laws.runs_are_isolated.Goals as goal

pub returns : goal.returns
returns c = runs_are_isolated isolated
