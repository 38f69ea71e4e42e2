use Rattle.std.proofs.Common.{◌≡◌, ◌≤◌, ◌-◌, length, take, ℕ}
use Rattle.wl_machine.specs.Laws.{phases_of}
use Rattle.wl_manager.specs.Keepers.{phases_at, cells_at}
use Rattle.wl_manager.specs.inner.Keepers.{after}
use Rattle.wl_manager.proofs.keepers.Keepers.publish_all.Given as goal

abbrev pub invariant-loop-i : goal.invariant-loop-i
invariant-loop-i l = (l.i ≤ length l.changes) × ((id : ℕ) → phases_at id l.self
    ≡ after (phases_of id (take l.i l.changes)) (phases_at id l.initial.self))
    × ((id : ℕ) → cells_at id l.self ≡ cells_at id l.initial.self)

abbrev pub decreases-loop-i : goal.decreases-loop-i
decreases-loop-i l = length l.changes - l.i
