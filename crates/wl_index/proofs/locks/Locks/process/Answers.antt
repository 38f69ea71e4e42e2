use Rattle.std.proofs.Common.{◌∙◌, ◌==◌, [], ℕ, List, ap, sym}
use Rattle.std.specs.Prelude.{filter}
use Rattle.wl_machine.specs.Grants.{Lists, in_use, lists_of, process_queues}
use Rattle.wl_index.specs.inner.Locks.{Stands, Underway}
use Rattle.wl_index.specs.inner.Queues.{names_of}
use Rattle.wl_index.specs.inner.Rows.{held_of, pending_of}
use Rattle.wl_index.proofs.Boards.{same_tags_ordered}
use Rattle.wl_index.proofs.Processing.{Arrived, any_order, arrived, start}
use Rattle.wl_index.proofs.locks.Locks.process.Goals.{After-sort, After-process_all}
use Rattle.wl_index.proofs.locks.Locks.process.Goals as goal

-- the lists before any queue is processed
abbrev before : After-sort → Lists
before c = let i = c.self.inside in lists_of (held_of i.requests.entries) (pending_of i.requests.entries)
    c.sort.new.self.changes

stands : (c : After-sort) → let i = c.self.inside in Stands i.queues (held_of i.requests.entries)
    (pending_of i.requests.entries) c.sort.new.self.touched
stands c =
    let i = c.self.inside in
    any_order i.queues (before c) i.event.touched c.sort.new.self.touched (λ p. sym (c.sort.ensures.same (λ q. q == p)))
    c.self.invariant.stands

pub process_all-requires-clause-due : goal.process_all-requires-clause-due
process_all-requires-clause-due c = (
  stands (goal.at.process_all-requires-clause-due c).After-sort,
  c.sort.ensures.sorted,
)

pub process_all-requires-clause-room : goal.process_all-requires-clause-room
process_all-requires-clause-room c = rw c.sort.ensures.room c.self.invariant.room

abbrev target : After-sort → Lists
target c = process_queues (before c) (names_of c.self.inside.queues)

abbrev stay : After-sort → List (List ℕ)
stay c = filter (in_use (target c).held (target c).pending) (names_of c.self.inside.queues)

processed : (c : After-process_all)
    → let at = (goal.at.invariant_of-self c).After-sort in
    Underway (target at) (stay at) c.process_all.new.queues
    (lists_of (held_of c.process_all.new.requests.entries) (pending_of c.process_all.new.requests.entries)
    c.process_all.new.event.changes) []
processed c =
    let at = (goal.at.invariant_of-self c).After-sort in
    c.process_all.ensures.underway (target at) (stay at) (start c.self.inside.queues (before at) c.sort.new.self.touched
    (stands at))

pub invariant_of-self : goal.invariant_of-self
invariant_of-self c =
    let at = (goal.at.invariant_of-self c).After-process_all in
    record {
      ordered = same_tags_ordered c.process_all.new.requests.entries c.self.inside.requests.entries
          c.process_all.ensures.tags c.self.invariant.ordered;
      stands = rw c.process_all.ensures.touched (processed at).stands;
      below = rw c.process_all.ensures.next (c.process_all.ensures.below c.self.inside.requests.next
          c.self.invariant.below);
      room = c.process_all.ensures.room;
    }

done : (c : After-process_all)
    → let at = (goal.at.invariant_of-self c).After-sort in
    Arrived (target at) (stay at) c.process_all.new.queues (lists_of (held_of c.process_all.new.requests.entries)
    (pending_of c.process_all.new.requests.entries) c.process_all.new.event.changes)
done c = arrived _ _ _ _ (processed c)

pub returns-clause-processed : goal.returns-clause-processed
returns-clause-processed c =
    let i = c.self.inside in
    rw (← c.self.view_is) ((done (goal.at.returns-clause-processed c).After-process_all).lists
    ∙ ap (λ cs. process_queues (lists_of (held_of i.requests.entries) (pending_of i.requests.entries) cs)
    (names_of i.queues)) c.sort.ensures.changes)

pub returns-clause-names : goal.returns-clause-names
returns-clause-names c =
    let d = done (goal.at.returns-clause-names c).After-process_all in
    rw (← c.self.view_is) (d.names ∙ ap (λ (t : Lists). filter (in_use t.held t.pending)
    (names_of c.self.inside.queues)) (sym d.lists))

pub returns-clause-quiet : goal.returns-clause-quiet
returns-clause-quiet c = (done (goal.at.returns-clause-quiet c).After-process_all).nothing

pub returns-clause-next : goal.returns-clause-next
returns-clause-next c = rw (← c.self.view_is) c.process_all.ensures.next

pub returns-clause-tags : goal.returns-clause-tags
returns-clause-tags c = rw (← c.self.view_is) c.process_all.ensures.tags
