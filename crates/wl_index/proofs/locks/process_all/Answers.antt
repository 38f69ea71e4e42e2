use Rattle.std.proofs.Common.{◌≡◌, ◌∙◌, ◌∷◌, length, ap, subst, refl, nat_cmp, arith}
use Rattle.std.specs.List.Sorted.{IsSorted}
use Rattle.wl_machine.specs.Grants.{Lists, lists_of}
use Rattle.wl_index.specs.inner.Event.{Happened}
use Rattle.wl_index.specs.inner.Locks.{Stands, Underway}
use Rattle.wl_index.specs.inner.Rows.{held_of, pending_of}
use Rattle.wl_index.proofs.Lists.{sorted_least, sorted_next}
use Rattle.wl_index.proofs.Processing.{start}
use Rattle.wl_index.proofs.locks.process_all.Goals.{In-Some}
use Rattle.wl_index.proofs.locks.process_all.Goals as goal

pub loop-place-init : goal.loop-place-init
loop-place-init c = record {
  underway = λ target stay u. u;
  sorted = c.requires.due.1;
  next = refl;
  tags = refl;
  below = λ n all. all;
  room = c.requires.room;
}

-- the touched, with the first of them
touched : (c : In-Some) → c.loop-place.event.touched ≡ c.in-Some.place ∷ c.next_touched.new.self.touched
touched c = ap (λ (h : Happened). h.touched) c.in-Some.ensures.some

changes : (c : In-Some) → c.loop-place.event.changes ≡ c.next_touched.new.self.changes
changes c = ap (λ (h : Happened). h.changes) c.in-Some.ensures.some

pub process_queue-requires-clause-due : goal.process_queue-requires-clause-due
process_queue-requires-clause-due c =
    let l = c.loop-place in
    let at = (goal.at.process_queue-requires-clause-due c).In-Some in
    let old : Lists = lists_of (held_of c.args.requests.now.entries) (pending_of c.args.requests.now.entries)
    c.args.event.now.changes in
    let stands = (l.invariant.underway _ _ (start c.args.queues.now old c.args.event.now.touched
    c.requires.due.0)).stands in (
      subst (Stands l.queues (held_of l.requests.entries) (pending_of l.requests.entries)) (touched at) stands,
      sorted_least c.in-Some.place c.next_touched.new.self.touched
          (subst (IsSorted nat_cmp) (touched at) l.invariant.sorted),
    )

pub process_queue-requires-clause-room : goal.process_queue-requires-clause-room
process_queue-requires-clause-room c =
    let room = c.loop-place.invariant.room in
    let same = ap (λ (h : Happened). h.room) c.in-Some.ensures.some in
    omega (arith, room, same)

pub loop-place-smaller : goal.loop-place-smaller
loop-place-smaller c =
    let at = (goal.at.loop-place-smaller c).In-Some in
    let one = ap length (touched at) in
    let same = ap length c.process_queue.ensures.touched in
    omega (arith, one, same)

pub loop-place-preserved : goal.loop-place-preserved
loop-place-preserved c =
    let l = c.loop-place in
    let at = (goal.at.loop-place-preserved c).In-Some in
    record {
      underway = λ target stay u. c.process_queue.ensures.underway target stay
          (rw (← touched at, ← changes at) (l.invariant.underway target stay u));
      sorted = rw c.process_queue.ensures.touched (sorted_next c.in-Some.place c.next_touched.new.self.touched
          (subst (IsSorted nat_cmp) (touched at) l.invariant.sorted));
      next = c.process_queue.ensures.next ∙ l.invariant.next;
      tags = c.process_queue.ensures.tags ∙ l.invariant.tags;
      below = λ n all. c.process_queue.ensures.below n (l.invariant.below n all);
      room = c.process_queue.ensures.room;
    }

pub returns-clause-underway : goal.returns-clause-underway
returns-clause-underway c target stay u =
    let l = c.loop-place in
    let n = c.in_default.ensures.none in
    rw (ap (λ (h : Happened). h.changes) n.1) (subst (Underway target stay l.queues
    (lists_of (held_of l.requests.entries) (pending_of l.requests.entries) l.event.changes)) n.0
    (l.invariant.underway target stay u))
