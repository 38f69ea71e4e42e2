use Rattle.std.proofs.Common.{◌≡◌, ◌+◌, ◌*◌, ◌≤◌, ◌<◌, ◌∷◌, ℕ, List, length}
use Rattle.std.specs.List.{AllByRecursion}
use Rattle.wl_machine.specs.Grants.{Lists, lists_of}
use Rattle.wl_index.specs.inner.Locks.{Underway}
use Rattle.wl_index.specs.inner.Queues.{Placed}
use Rattle.wl_index.specs.inner.Rows.{held_of, pending_of, tags_of}
use Rattle.wl_index.proofs.locks.process_queue.Given as goal

abbrev pub invariant-loop-number : goal.invariant-loop-number
invariant-loop-number l = record {
  underway : (target : Lists) (stay : List (List ℕ))
      → Underway target stay l.fn.queues (lists_of (held_of l.fn.requests.entries) (pending_of l.fn.requests.entries)
      l.fn.event.changes) (l.place ∷ l.fn.event.touched)
      → Underway target stay l.queues (lists_of (held_of l.requests.entries) (pending_of l.requests.entries)
      l.event.changes) (l.place ∷ l.event.touched);
  touched : l.event.touched ≡ l.fn.event.touched;
  next : l.requests.next ≡ l.fn.requests.next;
  tags : tags_of l.requests.entries ≡ tags_of l.fn.requests.entries;
  below : (n : ℕ) → AllByRecursion (λ (e : Placed). e.0 < n) l.fn.queues
      → AllByRecursion (λ (e : Placed). e.0 < n) l.queues;
  room : length (held_of l.requests.entries) + 2 * length (pending_of l.requests.entries) ≤ l.event.room;
}

abbrev pub decreases-loop-number : goal.decreases-loop-number
decreases-loop-number l = length (pending_of l.requests.entries)
