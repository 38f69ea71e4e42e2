use Rattle.wl_index.proofs.Untaken.{Passing}
use Rattle.wl_index.proofs.requests.Requests.nth_untaken.Given as goal

-- so many are passed, and the next are from a grant sequence on
abbrev pub invariant-loop-passed : goal.invariant-loop-passed
invariant-loop-passed l = Passing l.owner l.i l.passed l.low l.self.entries
