use Rattle.std.proofs.Common.{◌≡◌, ◌∙◌, ap, nat_cmp, refl, sym, None, Some}
use Rattle.std.specs.Option.{option_copied_mut}
use Rattle.std.specs.HashMap.{get_by_text}
use Rattle.std.specs.Map.{set_value}
use Rattle.std.specs.BTreeMap.{is_at}
use Rattle.wl_index.specs.inner.NameQueue.{without}
use Rattle.wl_index.specs.inner.Queues.{at_place, with_updated}
use Rattle.wl_index.proofs.InUse.{are_updated, is_updated, none_updated, set_updated}
use Rattle.wl_index.proofs.queues.Queues.remove.Goals.{After-remove}
use Rattle.wl_index.proofs.queues.Queues.remove.Goals as goal

-- the queue without the number
set : (c : After-remove) → (c.get_mut.follows.lender c.remove.new.self).entries
    ≡ with_updated c.args.place (without c.args.number) c.self.inside.queues.entries
set c =
    let es = c.self.inside.queues.entries in
    let there : at_place c.args.place es ≡ Some c.in-Some.queue.now = sym c.get_mut.ensures.value
    ∙ ap option_copied_mut c.in-Some.is in
    (c.get_mut.follows.holds c.remove.new.self).0 ∙ ap (set_value (is_at (nat_cmp c.args.place)) es) c.remove.ensures
    ∙ set_updated c.args.place (without c.args.number) es c.in-Some.queue.now c.self.invariant.are.ordered there

pub invariant_of-self-2 : goal.invariant_of-self-2
invariant_of-self-2 c = rw (set (goal.at.invariant_of-self-2 c).After-remove)
    (is_updated c.args.place (without c.args.number) (λ w. refl) c.self.inside.queues.entries
    (get_by_text c.self.inside.places) c.self.invariant)

pub returns-clause-queues : goal.returns-clause-queues
returns-clause-queues c = rw (← c.self.view_is) (set (goal.at.returns-clause-queues c).After-remove)

pub returns-clause-are : goal.returns-clause-are
returns-clause-are c = rw (set (goal.at.returns-clause-are c).After-remove)
    (are_updated c.args.place (without c.args.number) (λ w. refl) c.self.inside.queues.entries c.self.invariant.are)

pub returns-in_default-clause-queues : goal.returns-in_default-clause-queues
returns-in_default-clause-queues c =
    let es = c.self.inside.queues.entries in
    let none : at_place c.args.place es ≡ None = sym c.get_mut.ensures.value ∙ ap option_copied_mut c.in_default.is in
    rw (← c.self.view_is, c.get_mut.follows.holds-at-none) (sym
    (none_updated c.args.place (without c.args.number) es none))

pub returns-in_default-clause-are : goal.returns-in_default-clause-are
returns-in_default-clause-are c = rw c.get_mut.follows.holds-at-none c.self.invariant.are
