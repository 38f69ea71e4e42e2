use Rattle.std.proofs.Common.{◌≡◌, take, filter}
use Rattle.wl_session.specs.LastReported.{is_live, due_notices}
use Rattle.wl_session.proofs.last_reported.due_notices.Given as goal

abbrev pub invariant-loop-observation : goal.invariant-loop-observation
invariant-loop-observation l = l.notices ≡ due_notices l.outcome (filter is_live l.last_reported)
    (take l.observation-index l.observed)
