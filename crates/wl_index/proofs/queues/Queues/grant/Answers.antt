use Rattle.std.proofs.Common.{◌≡◌, ◌∙◌, ap, nat_cmp, sym, Some}
use Rattle.std.specs.Option.{option_copied_mut}
use Rattle.std.specs.HashMap.{get_by_text}
use Rattle.std.specs.Map.{set_value}
use Rattle.std.specs.BTreeMap.{is_at}
use Rattle.wl_number_map.proofs.Keyed.{set_same}
use Rattle.wl_index.specs.inner.NameQueue.{after_grant}
use Rattle.wl_index.specs.inner.Queues.{at_place, with_updated}
use Rattle.wl_index.proofs.InUse.{are_updated, grant_keeps, if_none, if_some, is_updated, none_grants, set_updated}
use Rattle.wl_index.proofs.queues.Queues.grant.Goals.{After-grant_first}
use Rattle.wl_index.proofs.queues.Queues.grant.Goals as goal

there : (c : After-grant_first) → at_place c.args.place c.self.inside.queues.entries ≡ Some c.in-Some.queue.now
there c = sym c.get_mut.ensures.value ∙ ap option_copied_mut c.in-Some.is

-- the queue after its grant
set : (c : After-grant_first) → (c.get_mut.follows.lender c.grant_first.new.self).entries
    ≡ with_updated c.args.place after_grant c.self.inside.queues.entries
set c =
    let es = c.self.inside.queues.entries in
    (c.get_mut.follows.holds c.grant_first.new.self).0 ∙ ap (set_value (is_at (nat_cmp c.args.place)) es)
    c.grant_first.ensures.after ∙ set_updated c.args.place after_grant es c.in-Some.queue.now
    c.self.invariant.are.ordered (there c)

pub invariant_of-self-2 : goal.invariant_of-self-2
invariant_of-self-2 c = rw (set (goal.at.invariant_of-self-2 c).After-grant_first)
    (is_updated c.args.place after_grant grant_keeps c.self.inside.queues.entries (get_by_text c.self.inside.places)
    c.self.invariant)

pub returns-clause-granted : goal.returns-clause-granted
returns-clause-granted c = if_some _ c.grant_first.result (rw (← c.self.view_is)
    (set (goal.at.returns-clause-granted c).After-grant_first))

pub returns-clause-unchanged : goal.returns-clause-unchanged
returns-clause-unchanged c =
    let es = c.self.inside.queues.entries in
    let at = there (goal.at.returns-clause-unchanged c).After-grant_first in
    if_none _ c.grant_first.result (λ none. rw (← c.self.view_is) (
    (c.get_mut.follows.holds c.grant_first.new.self).0 ∙ ap (set_value (is_at (nat_cmp c.args.place)) es)
    (c.grant_first.ensures.after ∙ none_grants c.in-Some.queue.now (sym c.grant_first.ensures.number ∙ none))
    ∙ set_same (is_at (nat_cmp c.args.place)) es c.in-Some.queue.now at))

pub returns-clause-are : goal.returns-clause-are
returns-clause-are c = rw (set (goal.at.returns-clause-are c).After-grant_first)
    (are_updated c.args.place after_grant grant_keeps c.self.inside.queues.entries c.self.invariant.are)
