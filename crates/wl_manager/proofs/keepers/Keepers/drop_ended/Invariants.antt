use Rattle.std.proofs.Common.{◌≡◌, ◌≤◌, ◌-◌, length, take, ℕ, cond}
use Rattle.std.specs.Prelude.{None}
use Rattle.wl_manager.specs.Keepers.{seat_at}
use Rattle.wl_manager.specs.inner.Keepers.{ends_request}
use Rattle.wl_manager.proofs.keepers.Keepers.drop_ended.Given as goal

abbrev pub invariant-loop-i : goal.invariant-loop-i
invariant-loop-i l = (l.i ≤ length l.changes) × ((id : ℕ) → seat_at id l.self
    ≡ cond (ends_request id (take l.i l.changes)) None (seat_at id l.initial.self))

abbrev pub decreases-loop-i : goal.decreases-loop-i
decreases-loop-i l = length l.changes - l.i
