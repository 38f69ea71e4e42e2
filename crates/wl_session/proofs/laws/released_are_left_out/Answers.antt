use Rattle.wl_session.proofs.Lookup.{observed_are_left, observed_decide_notices}
use Rattle.wl_session.proofs.laws.released_are_left_out.Goals as goal

pub returns-clause-left : goal.returns-clause-left
returns-clause-left c = observed_are_left

pub returns-clause-notices : goal.returns-clause-notices
returns-clause-notices c = observed_decide_notices
