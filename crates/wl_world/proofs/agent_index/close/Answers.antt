use Rattle.std.proofs.Common.{sym, subst, ◌∙◌}
use Rattle.wl_world.specs.inner.AgentIndex.{IsCovered, close_one, own_of}
use Rattle.wl_world.proofs.Covered.{left_covered, left_index}
use Rattle.wl_world.proofs.Passed.{left_values}
use Rattle.wl_world.proofs.Walks.{none_left}
use Rattle.wl_world.proofs.agent_index.close.Goals as goal

pub close_all-requires-clause-covered : goal.close_all-requires-clause-covered
close_all-requires-clause-covered c =
    let covered = subst (λ o. IsCovered (close_one c.args.agent) c.args.live.now.entries (own_of o))
    (sym c.remove.ensures.value ∙ c.in-Some.is) (left_covered c.args.live.now.entries c.args.agent_index.now.entries
    c.requires c.args.agent) in
    subst (IsCovered (close_one c.args.agent) c.args.live.now.entries) (sym c.deref.ensures.value) covered

pub returns-in-Some-clause-index : goal.returns-in-Some-clause-index
returns-in-Some-clause-index c =
    left_index c.args.live.now.entries c.close_all.new.live.entries c.args.agent_index.now.entries
    c.remove.new.self.entries c.requires c.close_all.ensures.ordered c.args.agent c.close_all.ensures.each
    c.remove.ensures.updates

pub returns-in-Some-clause-left : goal.returns-in-Some-clause-left
returns-in-Some-clause-left c = left_values c.args.live.now.entries c.close_all.new.live.entries c.requires.ordered
    c.close_all.ensures.ordered c.args.agent c.close_all.ensures.each

pub returns-in_default-clause-left : goal.returns-in_default-clause-left
returns-in_default-clause-left c =
    let live = c.args.live.now.entries in
    let covered = subst (λ o. IsCovered (close_one c.args.agent) c.args.live.now.entries (own_of o))
    (sym c.remove.ensures.value ∙ c.in_default.is) (left_covered c.args.live.now.entries
    c.args.agent_index.now.entries c.requires c.args.agent) in
    left_values live live c.requires.ordered c.requires.ordered c.args.agent
    (none_left (close_one c.args.agent) live covered)
