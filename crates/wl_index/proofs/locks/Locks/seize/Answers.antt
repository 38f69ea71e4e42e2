use Rattle.std.proofs.Common.{◌≡◌, ◌∙◌, [], ap, subst, sym, Some, arith}
use Rattle.std.specs.Option.{IsSome}
use Rattle.wl_index.specs.inner.Event.{Happened}
use Rattle.wl_index.specs.inner.Locks.{Board, WaitsAlone}
use Rattle.wl_machine.specs.Grants.{locks}
use Rattle.wl_index.specs.inner.NameQueue.{after_seize}
use Rattle.wl_index.specs.inner.Queues.{names_of, place_of}
use Rattle.wl_index.specs.inner.Rows.{held_of, pending_of, request_row}
use Rattle.wl_number_map.proofs.Keyed.{found}
use Rattle.wl_index.proofs.Boards.{same_tags_ordered, seized_room}
use Rattle.wl_index.proofs.Ends.{Waiter, any_from, live_named, one_seized, seized_keeps, waiter}
use Rattle.wl_index.proofs.InUse.{names_updated}
use Rattle.wl_index.proofs.Processing.{below_updated, free_at}
use Rattle.wl_index.proofs.Rows.{is_request}
use Rattle.wl_index.proofs.locks.Locks.seize.Goals.{After-place, After-unwrap-place}
use Rattle.wl_index.proofs.locks.Locks.seize.Goals as goal

-- the request that waits
waits : (c : After-place) → Waiter c.args.number c.args.name.now c.self.inside.requests.entries
waits c = waiter c.args.number c.args.name.now c.self.inside.requests.entries c.self.invariant.ordered
    (subst (λ (b : Board). WaitsAlone c.args.number c.args.name.now (pending_of b.entries)) (sym c.self.view_is)
    c.requires.waits)

gone : (c : After-place) → locks c.args.name.now (held_of c.self.inside.requests.entries) ≡ []
gone c = subst (λ (b : Board). locks c.args.name.now (held_of b.entries) ≡ []) (sym c.self.view_is) c.requires.gone

pub unwrap-place-requires : goal.unwrap-place-requires
unwrap-place-requires c =
    let at = (goal.at.unwrap-place-requires c).After-place in
    let i = c.self.inside in
    let w = waits at in
    subst IsSome (sym (c.place.ensures.place ∙ ap (λ n. place_of n i.queues) (sym w.named)))
    (live_named c.args.number w.request i.requests.entries i.queues i.event.touched
    (found c.args.number i.requests.entries w.request c.self.invariant.ordered w.there) c.self.invariant.stands)

-- where the name's queue stands
place : (c : After-unwrap-place) → place_of c.args.name.now c.self.inside.queues ≡ Some c.unwrap-place.result
place c = sym c.place.ensures.place ∙ c.unwrap-place.ensures

pub seize-requires : goal.seize-requires
seize-requires c =
    let at = goal.at.seize-requires c in
    let i = c.self.inside in
    free_at c.args.name.now c.unwrap-place.result i.queues (held_of i.requests.entries) (pending_of i.requests.entries)
    i.event.touched c.self.invariant.stands (place at.After-unwrap-place) (gone at.After-place)

pub grant-requires : goal.grant-requires
grant-requires c =
    let w = waits (goal.at.grant-requires c).After-place in
    any_from (is_request c.args.number) (pending_of c.self.inside.requests.entries)
    (request_row (c.args.number, w.request)) w.only

pub note_at-requires : goal.note_at-requires
note_at-requires c =
    let i = c.self.inside in
    let w = waits (goal.at.note_at-requires c).After-place in
    let left = seized_room c.args.number (request_row (c.args.number, w.request)) (held_of i.requests.entries)
    (held_of c.grant.new.self.entries) (pending_of i.requests.entries) (pending_of c.grant.new.self.entries) w.only
    c.grant.ensures.held c.grant.ensures.pending in
    let room = c.self.invariant.room in
    omega (arith, left, room)

pub invariant_of-self : goal.invariant_of-self
invariant_of-self c =
    let at = goal.at.invariant_of-self c in
    let i = c.self.inside in
    let is = c.self.invariant in
    let w = waits at.After-place in
    let queues = c.seize.ensures.queues in
    let touched = ap (λ (h : Happened). h.touched) c.note_at.ensures in
    let now = ap (λ (h : Happened). h.room) c.note_at.ensures in
    let left = seized_room c.args.number (request_row (c.args.number, w.request)) (held_of i.requests.entries)
    (held_of c.grant.new.self.entries) (pending_of i.requests.entries) (pending_of c.grant.new.self.entries) w.only
    c.grant.ensures.held c.grant.ensures.pending in
    let room = is.room in
    record {
      ordered = same_tags_ordered c.grant.new.self.entries i.requests.entries c.grant.ensures.tags is.ordered;
      stands = rw (queues, touched) (one_seized c.args.number c.unwrap-place.result c.args.name.now i.requests.entries
          c.grant.new.self.entries i.queues i.event.touched is.ordered w (place at.After-unwrap-place)
          (gone at.After-place) c.grant.ensures.held c.grant.ensures.pending is.stands);
      below = rw (queues, c.grant.ensures.next) (below_updated i.requests.next c.unwrap-place.result
          (after_seize c.args.number) i.queues is.below);
      room = omega (arith, left, room, now);
    }

pub returns-clause-held : goal.returns-clause-held
returns-clause-held c = rw (← c.self.view_is) c.grant.ensures.held

pub returns-clause-pending : goal.returns-clause-pending
returns-clause-pending c = rw (← c.self.view_is) c.grant.ensures.pending

pub returns-clause-changes : goal.returns-clause-changes
returns-clause-changes c = rw (← c.self.view_is) (ap (λ (h : Happened). h.changes) c.note_at.ensures)

pub returns-clause-names : goal.returns-clause-names
returns-clause-names c = rw (← c.self.view_is) (ap names_of c.seize.ensures.queues
    ∙ names_updated c.unwrap-place.result (after_seize c.args.number) (seized_keeps c.args.number) c.self.inside.queues)
