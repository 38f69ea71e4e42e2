use Rattle.std.proofs.Common.{◌≡◌, ◌∙◌, ap, subst, sym, nat_cmp, Some, arith}
use Rattle.std.specs.Option.{IsSome}
use Rattle.std.specs.Map.{lookup}
use Rattle.std.specs.BTreeMap.{is_at}
use Rattle.wl_index.specs.inner.Event.{Happened}
use Rattle.wl_index.specs.inner.Locks.{Board}
use Rattle.wl_index.specs.inner.NameQueue.{without}
use Rattle.wl_index.specs.inner.Queues.{names_of, place_of}
use Rattle.wl_number_map.proofs.Keyed.{Found, found}
use Rattle.wl_index.proofs.Boards.{board_as, ended_room}
use Rattle.wl_index.proofs.Ends.{live_named, one_ended, without_keeps}
use Rattle.wl_index.proofs.InUse.{names_updated}
use Rattle.wl_index.proofs.Processing.{below_updated}
use Rattle.wl_index.proofs.locks.Locks.end.Goals.{After-unwrap-request, After-unwrap-place}
use Rattle.wl_index.proofs.locks.Locks.end.Goals as goal

pub unwrap-request-requires : goal.unwrap-request-requires
unwrap-request-requires c =
    subst IsSome (sym c.remove.ensures.value) (subst (λ (b : Board). IsSome
    (lookup (is_at (nat_cmp c.args.number)) b.entries)) (sym c.self.view_is) c.requires)

-- the entry that ends
ending : (c : After-unwrap-request) → Found c.args.number c.self.inside.requests.entries c.unwrap-request.result
ending c = found _ _ _ c.remove.ensures.ordered (sym c.remove.ensures.value ∙ c.unwrap-request.ensures)

pub unwrap-place-requires : goal.unwrap-place-requires
unwrap-place-requires c =
    let at = (goal.at.unwrap-place-requires c).After-unwrap-request in
    let i = c.self.inside in
    subst IsSome (sym (c.place.ensures.place ∙ ap (λ n. place_of n i.queues) c.as_str.ensures))
    (live_named c.args.number c.unwrap-request.result i.requests.entries i.queues i.event.touched (ending at)
    c.self.invariant.stands)

-- where its name's queue stands
place : (c : After-unwrap-place) → place_of c.unwrap-request.result.name c.self.inside.queues
    ≡ Some c.unwrap-place.result
place c = sym (c.place.ensures.place ∙ ap (λ n. place_of n c.self.inside.queues) c.as_str.ensures)
    ∙ c.unwrap-place.ensures

pub note_at-requires : goal.note_at-requires
note_at-requires c =
    let at = (goal.at.note_at-requires c).After-unwrap-request in
    let i = c.self.inside in
    let less = ended_room c.args.number c.unwrap-request.result i.requests.entries (ending at) in
    let room = c.self.invariant.room in
    omega (arith, less, room)

pub invariant_of-self : goal.invariant_of-self
invariant_of-self c =
    let at = goal.at.invariant_of-self c in
    let i = c.self.inside in
    let is = c.self.invariant in
    let f = ending at.After-unwrap-request in
    let entries = c.remove.ensures.entries in
    let queues = c.remove-2.ensures.queues in
    let touched = ap (λ (h : Happened). h.touched) c.note_at.ensures in
    let left = ap (λ (h : Happened). h.room) c.note_at.ensures in
    let less = ended_room c.args.number c.unwrap-request.result i.requests.entries f in
    let room = is.room in
    record {
      ordered = c.remove.ensures.still_ordered;
      stands = rw (entries, queues, touched) (one_ended c.args.number c.unwrap-request.result c.unwrap-place.result
          i.requests.entries i.queues i.event.touched f (place at.After-unwrap-place) is.stands);
      below = rw (queues, c.remove.ensures.next) (below_updated i.requests.next c.unwrap-place.result
          (without c.args.number) i.queues is.below);
      room = rw entries (omega (arith, less, room, left));
    }

pub returns : goal.returns
returns c =
    let i = c.self.inside in
    rw (← c.self.view_is) (board_as _ _ _ _ _ c.remove.ensures.entries c.remove.ensures.next
    (ap names_of c.remove-2.ensures.queues ∙ names_updated c.unwrap-place.result (without c.args.number)
    (without_keeps c.args.number) i.queues) (ap (λ (h : Happened). h.changes) c.note_at.ensures))
