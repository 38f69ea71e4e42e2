use Rattle.std.proofs.Common.{◌≡◌, ◌-◌, ◌^◌, length}
use Rattle.wl_machine.specs.Step.{untaken_numbers}
use Rattle.wl_manager.specs.Aborts.{Found, taken}
use Rattle.wl_manager.specs.inner.Aborts.{Tried}
use Rattle.wl_manager.proofs.Trying.{up_to}
use Rattle.wl_manager.proofs.locked.abort.abort_granted.Given as goal

abbrev pub invariant-loop-id : goal.invariant-loop-id
invariant-loop-id g l =
    (found : Found) × Tried l.initial.book l.initial.keepers l.agent l.signal l.reason l.book l.keepers found
    (up_to l.after (untaken_numbers l.initial.book.state l.agent l.signal)) × (l.taken ≡ length (taken found))

abbrev pub decreases-loop-id : goal.decreases-loop-id
decreases-loop-id g l = 2 ^ 64 - l.after
