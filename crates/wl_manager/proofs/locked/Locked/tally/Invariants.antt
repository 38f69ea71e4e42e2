use Rattle.std.proofs.Common.{◌≡◌, ◌+◌, ◌≤◌}
use Rattle.std.specs.Prelude.{vec_len}
use Rattle.wl_manager.proofs.locked.Locked.tally.Given as goal

abbrev pub invariant-loop-leaving : goal.invariant-loop-leaving
invariant-loop-leaving g l =
    (l.self.opened ≡ l.opened) × (l.opened ≤ l.self.handed + vec_len l.leavings) × (l.self.book ≡ l.initial.self.book)
    × (l.self.kept ≡ l.initial.self.kept) × (l.self.next ≡ l.initial.self.next)

abbrev pub decreases-loop-leaving : goal.decreases-loop-leaving
decreases-loop-leaving g l = vec_len l.leavings
