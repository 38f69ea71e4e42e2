use Rattle.std.proofs.Common.{◌≡◌, ℕ, ◌<◌, ◌≤◌}
use Rattle.slab.specs.Slab.{get}
use Rattle.wl_loops.specs.Sweeps.{Watched}
use Rattle.wl_loops.proofs.served.watch_all.Given as goal

-- those below the key were looked at, and the others are as they were
abbrev pub invariant-loop-key : goal.invariant-loop-key
invariant-loop-key g l = record {
  below : (k : ℕ) → k < l.key → Watched (λ one. one.connection.liveness) l.now l.sent l.limits (get l.fn.served k)
      (get l.served k);
  rest : (k : ℕ) → l.key ≤ k → get l.served k ≡ get l.fn.served k;
}
