use Rattle.std.proofs.Common.{◌≡◌, ◌∙◌, ◌≤◌, ◌∷◌, [], ℕ, List, length, ap, subst, sym, refl, true, arith}
use Rattle.std.specs.List.{AllByRecursion, list_any}
use Rattle.wl_machine.specs.declared.rows.PendingRow.{PendingRow}
use Rattle.wl_machine.specs.Grants.{Lists, lists_of}
use Rattle.wl_index.specs.inner.Event.{Happened}
use Rattle.wl_index.specs.inner.Locks.{Stands}
use Rattle.wl_index.specs.inner.NameQueue.{after_grant}
use Rattle.wl_index.specs.inner.Queues.{without_idle}
use Rattle.wl_index.specs.inner.Rows.{held_of, pending_of}
use Rattle.wl_index.proofs.Processing.{Granting, below_updated, granted_all, granting, one_granted, retired, start}
use Rattle.wl_index.proofs.Processing.{below_left}
use Rattle.wl_index.proofs.Rows.{is_request}
use Rattle.wl_index.proofs.QueueProcessing.{Step, next_listed, step_meets}
use Rattle.wl_index.proofs.locks.process_queue.Goals.{In-Some, After-note, In_default}
use Rattle.wl_index.proofs.locks.process_queue.Goals as goal

pub loop-number-init : goal.loop-number-init
loop-number-init c = record {
  underway = λ target stay u. u;
  touched = refl;
  next = refl;
  tags = refl;
  below = λ n all. all;
  room = c.requires.room;
}

-- what the queues say of the lists, before this grant
stands : (c : In-Some)
    → let l = c.loop-number in
    Stands l.queues (held_of l.requests.entries) (pending_of l.requests.entries) (c.args.place ∷ l.event.touched)
stands c =
    let old : Lists = lists_of (held_of c.args.requests.now.entries) (pending_of c.args.requests.now.entries)
    c.args.event.now.changes in
    (c.loop-number.invariant.underway _ _ (start c.args.queues.now old (c.args.place ∷ c.args.event.now.touched)
    c.requires.due.0)).stands

grants : (c : In-Some)
    → let l = c.loop-number in
    Granting c.args.place c.in-Some.number l.queues (lists_of (held_of l.requests.entries)
    (pending_of l.requests.entries) l.event.changes)
grants c =
    let l = c.loop-number in
    granting c.args.place c.in-Some.number (c.args.place ∷ l.event.touched) l.queues
    (lists_of (held_of l.requests.entries) (pending_of l.requests.entries) l.event.changes) (stands c)
    c.in-Some.ensures.number

waits : (c : In-Some) → list_any (is_request c.in-Some.number) (pending_of c.loop-number.requests.entries) ≡ true
waits c =
    let l = c.loop-number in
    let g = grants c in
    next_listed g.name_queue (lists_of (held_of l.requests.entries) (pending_of l.requests.entries) l.event.changes)
    c.in-Some.number g.matches g.granted

pub grant-requires-in-Some : goal.grant-requires-in-Some
grant-requires-in-Some c = waits (goal.at.grant-requires-in-Some c).In-Some

step : (c : After-note)
    → let l = c.loop-number in
    let at = (goal.at.loop-number-preserved c).In-Some in
    Step (grants at).name_queue (after_grant (grants at).name_queue)
    (lists_of (held_of l.requests.entries) (pending_of l.requests.entries) l.event.changes)
    (lists_of (held_of c.grant-in-Some.new.self.entries) (pending_of c.grant-in-Some.new.self.entries)
    c.note.new.self.changes)
step c =
    let at = (goal.at.loop-number-preserved c).In-Some in
    let g = grants at in
    step_meets g.name_queue (after_grant g.name_queue) _ _ c.in-Some.number g.matches g.granted refl
    c.grant-in-Some.ensures.apart c.grant-in-Some.ensures.held c.grant-in-Some.ensures.pending
    (ap (λ (h : Happened). h.changes) c.note.ensures)

some_wait : (number : ℕ) (l : List PendingRow) → list_any (is_request number) l ≡ true → 1 ≤ length l
some_wait number [] is = absurd (cc is)
some_wait number (r ∷ l) is = omega arith

pub note-requires : goal.note-requires
note-requires c =
    let l = c.loop-number in
    let some = some_wait c.in-Some.number (pending_of l.requests.entries) (waits (goal.at.note-requires c).In-Some) in
    let room = l.invariant.room in
    omega (arith, some, room)

pub loop-number-smaller : goal.loop-number-smaller
loop-number-smaller c = let fewer = (step (goal.at.loop-number-smaller c).After-note).fewer in omega (arith, fewer)

pub loop-number-preserved : goal.loop-number-preserved
loop-number-preserved c =
    let l = c.loop-number in
    let at = goal.at.loop-number-preserved c in
    let g = grants at.In-Some in
    let s = step at.After-note in
    let place = c.args.place in
    let queues = c.in-Some.ensures.granted in
    let touched = ap (λ (h : Happened). h.touched) c.note.ensures in
    let above = subst (AllByRecursion (λ q. place ≤ q)) (sym l.invariant.touched) c.requires.due.1 in
    let fewer = s.fewer in
    let more = s.more in
    let room = l.invariant.room in
    let left = ap (λ (h : Happened). h.room) c.note.ensures in
    record {
      underway = λ target stay u. rw (queues, touched) (one_granted place l.event.touched target stay l.queues _ _
          g.name_queue g.there above s (l.invariant.underway target stay u));
      touched = touched ∙ l.invariant.touched;
      next = c.grant-in-Some.ensures.next ∙ l.invariant.next;
      tags = c.grant-in-Some.ensures.tags ∙ l.invariant.tags;
      below = λ n all. rw queues (below_updated n place after_grant l.queues (l.invariant.below n all));
      room = omega (arith, fewer, more, room, left);
    }

pub returns-clause-underway : goal.returns-clause-underway
returns-clause-underway c = λ target stay u.
    let l = c.loop-number in
    let lists : Lists = lists_of (held_of l.requests.entries) (pending_of l.requests.entries) l.event.changes in
    let now = l.invariant.underway target stay u in
    let left = c.retire.ensures.queues ∙ ap (without_idle c.args.place) c.in_default.ensures.unchanged in
    retired c.args.place l.event.touched target stay l.queues c.retire.new.self lists left c.retire.ensures.are
    (granted_all c.args.place (c.args.place ∷ l.event.touched) l.queues lists now.stands c.in_default.ensures.number)
    now

pub returns-clause-below : goal.returns-clause-below
returns-clause-below c = λ n all.
    rw (c.retire.ensures.queues, c.in_default.ensures.unchanged)
    (below_left n c.args.place c.loop-number.queues (c.loop-number.invariant.below n all))
