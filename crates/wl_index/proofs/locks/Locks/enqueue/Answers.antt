use Rattle.std.proofs.Common.{◌≡◌, ◌∙◌, ◌+◌, ◌<◌, ◌∷◌, ◌++◌, [], List, ap, subst, sym, refl, nat_cmp, Some, arith}
use Rattle.std.specs.Prelude.{filter}
use Rattle.std.specs.List.{AllByRecursion}
use Rattle.std.specs.Map.{lookup}
use Rattle.std.specs.BTreeMap.{is_at}
use Rattle.wl_index.specs.declared.request.Stage.TheVariants.{Pending}
use Rattle.wl_index.specs.inner.Event.{Happened}
use Rattle.wl_index.specs.inner.Locks.{request_for}
use Rattle.wl_index.specs.inner.Queues.{Placed, IsBelow, with_joined, place_of}
use Rattle.wl_index.specs.inner.Rows.{Entry, Rows, other, request_row, held_of, pending_of}
use Rattle.wl_index.proofs.Boards.{board_as, enqueued_room, below_joined}
use Rattle.wl_index.proofs.Enqueuing.{last_gone, last_there, queues_below}
use Rattle.wl_index.proofs.Rows.{held_more, live_count, pending_more}
use Rattle.wl_index.proofs.Standing.{Enqueued, enqueued}
use Rattle.wl_index.proofs.locks.Locks.enqueue.Goals.{In_ok-number, After-retract, After-touch}
use Rattle.wl_index.proofs.locks.Locks.enqueue.Goals as goal

rows_same : (rows : Rows) (es : List Entry) (n : _) → es ≡ rows.entries → n ≡ rows.next
    → record { entries = es; next = n } ≡ rows
rows_same rows es n one two = rw (one, two) refl

-- the entry that comes
abbrev entry : In_ok-number → Entry
entry c = (c.self.inside.requests.next, request_for c.args.agent c.args.ask.now)

pushed : (c : In_ok-number) → c.push.new.self.entries ≡ c.self.inside.requests.entries ++ entry c ∷ []
pushed c =
    let named : c.in-Ok.name ≡ c.args.ask.now.name = c.in-Ok.ensures.made ∙ c.as_str.ensures in
    c.in_ok-number.ensures.entries ∙ ap (λ n. c.self.inside.requests.entries
    ++ (
      c.self.inside.requests.next,
      record {
        agent = c.args.agent;
        name = n;
        mode = c.args.ask.now.mode;
        signal = c.args.ask.now.signal;
        stage = Pending;
      },
    ) ∷ []) named

pub push-requires-2-clause-places : goal.push-requires-2-clause-places
push-requires-2-clause-places c = subst (λ n. AllByRecursion (λ (e : Placed). e.0 < n) c.self.inside.queues)
    (sym c.in_ok-number.ensures.number) c.self.invariant.below

pub push-requires-2-clause-below : goal.push-requires-2-clause-below
push-requires-2-clause-below c =
    let i = c.self.inside in
    subst (λ n. AllByRecursion (λ (e : Placed). IsBelow n e.1) i.queues) (sym c.in_ok-number.ensures.number)
    (queues_below i.requests.next i.requests.entries i.event.touched i.queues c.in_ok-number.ensures.below
    c.self.invariant.stands.each)

pub retract-requires-clause-waits : goal.retract-requires-clause-waits
retract-requires-clause-waits c =
    let at = (goal.at.retract-requires-clause-waits c).In_ok-number in
    let e = entry at in (
      e.1,
      subst (λ n. lookup (is_at (nat_cmp n)) c.push.new.self.entries ≡ Some e.1) (sym c.in_ok-number.ensures.number)
          (ap (lookup (is_at (nat_cmp e.0))) (pushed at) ∙ last_there c.self.inside.requests.entries e
          c.in_ok-number.ensures.below),
      refl,
    )

-- taken back, the requests are as they were
undone : (c : After-retract) → c.retract.new.self ≡ c.self.inside.requests
undone c =
    let at = (goal.at.invariant_of-self-in_default-push c).In_ok-number in
    let number = c.in_ok-number.ensures.number in
    c.retract.ensures ∙ rows_same c.self.inside.requests (filter (other c.in_ok-number.number) c.push.new.self.entries)
    c.in_ok-number.number
    (ap (λ n. filter (other n) c.push.new.self.entries) number
    ∙ ap (filter (other c.self.inside.requests.next)) (pushed at)
    ∙ last_gone c.self.inside.requests.entries (entry at) c.in_ok-number.ensures.below) number

pub invariant_of-self-in_default-push : goal.invariant_of-self-in_default-push
invariant_of-self-in_default-push c =
    let is = c.self.invariant in
    let back = undone (goal.at.invariant_of-self-in_default-push c).After-retract in
    let queues = c.in_default-push.ensures.err in
    let room = is.room in
    let wide = c.reserve.ensures.room in
    record {
      ordered = rw back is.ordered;
      stands = rw (back, queues, c.reserve.ensures.touched) is.stands;
      below = rw (back, queues) is.below;
      room = rw back (omega (arith, room, wide));
    }

pub returns-in_default-push-clause-err : goal.returns-in_default-push-clause-err
returns-in_default-push-clause-err c = rw (
  ← c.self.view_is,
  undone (goal.at.returns-in_default-push-clause-err c).After-retract,
  c.in_default-push.ensures.err,
  c.reserve.ensures.changes,
) refl

-- what its coming makes of the queues
joins : (c : After-touch) → c.push-2.new.self ≡ with_joined c.args.ask.now.name c.self.inside.requests.next
    c.args.ask.now.mode c.self.inside.queues
joins c =
    subst (λ n. c.push-2.new.self ≡ with_joined c.args.ask.now.name n c.args.ask.now.mode c.self.inside.queues)
    c.in_ok-number.ensures.number
    (subst (λ name. c.push-2.new.self ≡ with_joined name c.in_ok-number.number c.args.ask.now.mode c.self.inside.queues)
    c.as_str-2.ensures c.in-Ok-push.ensures.with_joined)

comes : (c : After-touch)
    → let at = (goal.at.invariant_of-self-2 c).In_ok-number in
    Enqueued c.self.inside.queues c.push-2.new.self (held_of c.self.inside.requests.entries)
    (pending_of c.self.inside.requests.entries ++ request_row (entry at) ∷ [])
    (c.in-Ok-push.place ∷ c.reserve.new.self.touched) c.args.ask.now.name
comes c =
    let i = c.self.inside in
    let at = (goal.at.invariant_of-self-2 c).In_ok-number in
    let place = subst (λ name. place_of name c.push-2.new.self ≡ Some c.in-Ok-push.place) c.as_str-2.ensures
    c.in-Ok-push.ensures.place in
    enqueued i.queues c.push-2.new.self c.in-Ok-push.place (held_of i.requests.entries) (pending_of i.requests.entries)
    c.reserve.new.self.touched (request_row (entry at)) (rw c.reserve.ensures.touched c.self.invariant.stands)
    (joins c) c.push-2.ensures.are place

pub invariant_of-self-2 : goal.invariant_of-self-2
invariant_of-self-2 c =
    let i = c.self.inside in
    let at = goal.at.invariant_of-self-2 c in
    let e = entry at.In_ok-number in
    let entries = pushed at.In_ok-number in
    let touched = ap (λ (h : Happened). h.touched) c.touch.ensures in
    let left = ap (λ (h : Happened). h.room) c.touch.ensures in
    let more = enqueued_room i.requests.entries i.requests.next e.1 refl in
    let count = live_count i.requests.entries in
    let len = c.len-live.ensures.entries in
    let room = c.in_ok-reserve.ensures.ok in
    record {
      ordered = c.in_ok-number.ensures.ordered;
      stands = rw (
        entries,
        held_more i.requests.entries i.requests.next e.1 refl,
        pending_more i.requests.entries i.requests.next e.1 refl,
        touched,
      ) (comes at.After-touch).stands;
      below = rw c.in_ok-number.ensures.next (subst (AllByRecursion (λ (x : Placed). x.0 < i.requests.next + 1))
          (sym (joins at.After-touch)) (below_joined c.args.ask.now.name i.requests.next c.args.ask.now.mode i.queues
          c.self.invariant.below));
      room = rw entries (omega (arith, more, count, len, room, left));
    }

pub returns-clause-enqueued : goal.returns-clause-enqueued
returns-clause-enqueued c =
    let at = goal.at.returns-clause-enqueued c in
    rw (← c.self.view_is) (board_as _ _ _ _ _ (pushed at.In_ok-number) c.in_ok-number.ensures.next
    (comes at.After-touch).names (ap (λ (h : Happened). h.changes) c.touch.ensures ∙ c.reserve.ensures.changes))

pub returns-clause-below : goal.returns-clause-below
returns-clause-below c = rw (← c.self.view_is) c.in_ok-number.ensures.below
