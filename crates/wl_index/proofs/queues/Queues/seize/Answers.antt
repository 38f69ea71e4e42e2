use Rattle.std.proofs.Common.{◌≡◌, ◌∙◌, ◌∷◌, [], ap, filter, nat_cmp, refl, subst, sym, None, Some}
use Rattle.std.specs.Option.{option_copied_mut}
use Rattle.std.specs.HashMap.{get_by_text}
use Rattle.std.specs.Map.{set_value}
use Rattle.std.specs.BTreeMap.{is_at}
use Rattle.std.specs.Option.{IfSome}
use Rattle.wl_types.specs.declared.words.Mode.TheVariants.{Exclusive}
use Rattle.wl_index.specs.inner.NameQueue.{Waiting, other_than, after_seize}
use Rattle.wl_index.specs.inner.Queues.{at_place, with_updated}
use Rattle.wl_index.proofs.InUse.{are_updated, is_updated, none_updated, set_updated}
use Rattle.wl_index.proofs.queues.Queues.seize.Goals.{After-remove, After-seize}
use Rattle.wl_index.proofs.queues.Queues.seize.Goals as goal

there : (c : After-remove) → at_place c.args.place c.self.inside.queues.entries ≡ Some c.in-Some.queue.now
there c = sym c.get_mut.ensures.value ∙ ap option_copied_mut c.in-Some.is

-- nobody holds the name
gone : (c : After-remove) → c.in-Some.queue.now.holders ≡ []
gone c = subst (λ o. IfSome o (λ (w : Waiting). w.holders ≡ []))
    (ap (at_place c.args.place) (sym c.self.view_is) ∙ there c) c.requires

pub seize-requires : goal.seize-requires
seize-requires c = ap (λ (w : Waiting). w.holders) c.remove.ensures
    ∙ ap (filter (other_than c.args.number)) (gone (goal.at.seize-requires c).After-remove)

-- the queue that was seized
set : (c : After-seize) → (c.get_mut.follows.lender c.seize.new.self).entries
    ≡ with_updated c.args.place (after_seize c.args.number) c.self.inside.queues.entries
set c =
    let es = c.self.inside.queues.entries in
    let at : at_place c.args.place es ≡ Some c.in-Some.queue.now = sym c.get_mut.ensures.value
    ∙ ap option_copied_mut c.in-Some.is in
    (c.get_mut.follows.holds c.seize.new.self).0 ∙ ap (set_value (is_at (nat_cmp c.args.place)) es)
    (c.seize.ensures ∙ ap (λ (w : Waiting). record w { holders = (c.args.number, Exclusive) ∷ [] }) c.remove.ensures)
    ∙ set_updated c.args.place (after_seize c.args.number) es c.in-Some.queue.now c.self.invariant.are.ordered at

pub invariant_of-self-2 : goal.invariant_of-self-2
invariant_of-self-2 c = rw (set (goal.at.invariant_of-self-2 c).After-seize)
    (is_updated c.args.place (after_seize c.args.number) (λ w. refl) c.self.inside.queues.entries
    (get_by_text c.self.inside.places) c.self.invariant)

pub returns-clause-queues : goal.returns-clause-queues
returns-clause-queues c = rw (← c.self.view_is) (set (goal.at.returns-clause-queues c).After-seize)

pub returns-clause-are : goal.returns-clause-are
returns-clause-are c = rw (set (goal.at.returns-clause-are c).After-seize)
    (are_updated c.args.place (after_seize c.args.number) (λ w. refl) c.self.inside.queues.entries c.self.invariant.are)

pub returns-in_default-clause-queues : goal.returns-in_default-clause-queues
returns-in_default-clause-queues c =
    let es = c.self.inside.queues.entries in
    let none : at_place c.args.place es ≡ None = sym c.get_mut.ensures.value ∙ ap option_copied_mut c.in_default.is in
    rw (← c.self.view_is, c.get_mut.follows.holds-at-none) (sym
    (none_updated c.args.place (after_seize c.args.number) es none))
