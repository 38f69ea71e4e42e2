use Rattle.std.proofs.Common.{◌≡◌, ◌∙◌, ap, cond, filter, nat_cmp, subst, sym, List, ℕ, None, Some}
use Rattle.std.specs.Prelude.{not, ◌==◌}
use Rattle.std.specs.Option.{IfSome}
use Rattle.std.specs.Str.{bytes_eq}
use Rattle.std.specs.HashMap.{get_by_text}
use Rattle.std.specs.List.Sorted.{IsStrictlySortedBy}
use Rattle.std.specs.Map.{keys_of}
use Rattle.std.proofs.lemmas.Map.Text.{hash_map_updates_text}
use Rattle.wl_number_map.proofs.Keyed.{removed_at}
use Rattle.wl_index.specs.inner.NameQueue.{Waiting, is_busy}
use Rattle.wl_index.specs.inner.Queues.{IsNames, Placed, at_place}
use Rattle.wl_index.proofs.InUse.{idle_leaves, is_less, none_leaves, stays_busy}
use Rattle.wl_index.proofs.queues.Queues.retire.Goals.{After-swap_remove}
use Rattle.wl_index.proofs.queues.Queues.retire.Goals as goal

pub returns-then-is_busy_at-clause-queues : goal.returns-then-is_busy_at-clause-queues
returns-then-is_busy_at-clause-queues c =
    let es = c.self.inside.queues.entries in
    let says = subst (λ l. IfSome (at_place c.args.place l) (λ w. c.is_busy_at.result ≡ is_busy w)) (sym c.self.view_is)
    c.is_busy_at.ensures in
    rw (← c.self.view_is) (sym (stays_busy c.args.place c.is_busy_at.result es c.self.invariant.are.ordered says
    c.if-is_busy_at.true))

pub returns-in_default-clause-queues : goal.returns-in_default-clause-queues
returns-in_default-clause-queues c =
    let es = c.self.inside.queues.entries in
    let none : at_place c.args.place es ≡ None = sym c.remove.ensures.value ∙ c.in_default.is in
    rw (← c.self.view_is) (ap (λ m. m.entries) c.in_default.ensures.unchanged ∙ sym (none_leaves c.args.place es none))

there : (c : After-swap_remove) → at_place c.args.place c.self.inside.queues.entries ≡ Some c.in-Some.queue
there c = sym c.remove.ensures.value ∙ c.in-Some.is

-- the queues without it
left : (c : After-swap_remove) → c.remove.new.self.entries ≡ filter (λ (e : Placed). not (e.0 == c.args.place))
    c.self.inside.queues.entries
left c = c.remove.ensures.entries ∙ removed_at c.args.place c.self.inside.queues.entries c.self.invariant.are.ordered

names : (c : After-swap_remove) → IsNames (filter (λ (e : Placed). not (e.0 == c.args.place))
    c.self.inside.queues.entries) (get_by_text c.swap_remove.new.self)
names c =
    let i = c.self.inside in
    let named : c.as_str.result.now ≡ c.in-Some.queue.name = c.as_str.ensures ∙ c.name.ensures in
    let updates = hash_map_updates_text c.as_str.result.now i.places c.swap_remove.new.self None
    c.swap_remove.ensures.updates in
    is_less c.args.place c.in-Some.queue i.queues.entries (get_by_text i.places) (get_by_text c.swap_remove.new.self)
    c.self.invariant (there c) (subst (λ l. IsStrictlySortedBy nat_cmp (keys_of l)) (left c) c.remove.ensures.ordered)
    (subst (λ n. (q : List ℕ) → get_by_text c.swap_remove.new.self q
    ≡ cond (bytes_eq n q) None (get_by_text i.places q)) named updates)

pub invariant_of-self-2 : goal.invariant_of-self-2
invariant_of-self-2 c = let at = (goal.at.invariant_of-self-2 c).After-swap_remove in rw (left at) (names at)

pub returns-clause-queues : goal.returns-clause-queues
returns-clause-queues c =
    let es = c.self.inside.queues.entries in
    let at = (goal.at.returns-clause-queues c).After-swap_remove in
    let says = subst (λ l. IfSome (at_place c.args.place l) (λ w. c.is_busy_at.result ≡ is_busy w)) (sym c.self.view_is)
    c.is_busy_at.ensures in
    let busy = subst (λ o. IfSome o (λ (w : Waiting). c.is_busy_at.result ≡ is_busy w)) (there at) says in
    rw (← c.self.view_is) (left at ∙ sym (idle_leaves c.args.place c.in-Some.queue es c.self.invariant.are.ordered
    (there at) (sym busy ∙ c.if-is_busy_at.false)))

pub returns-clause-are : goal.returns-clause-are
returns-clause-are c = let at = (goal.at.returns-clause-are c).After-swap_remove in rw (left at) (names at).are
