use Rattle.std.proofs.Common.{sym, ap, subst, ◌∙◌, ◌≡◌}
use Rattle.std.proofs.lemmas.Result.{IfOk-weaker}
use Rattle.std.specs.Prelude.{Result, Ok, Err, OnOk}
use Rattle.std.specs.List.{Contains}
use Rattle.std.specs.Map.{values_of}
use Rattle.std.specs.Option.{is_some, option_copied_mut}
use Rattle.wl_world.specs.Requests.{changed_requests}
use Rattle.wl_world.specs.inner.AgentIndex.{IsCovered, inbox_of, collect_one}
use Rattle.wl_world.proofs.Covered.{collect_covered, collect_index}
use Rattle.wl_world.proofs.Observed.{all_observed, no_change}
use Rattle.wl_world.proofs.Passed.{collect_values}
use Rattle.wl_world.proofs.Walks.{none_left}
use Rattle.wl_world.proofs.agent_index.collect.Goals as goal

-- what holds where there was memory
done : {T E P Q R S : Type 0} (result : Result T E) → (P → Q → R → S) → OnOk result P → OnOk result Q → OnOk result R
    → OnOk result S
done (Ok x) give p q r = give p q r
done (Err e) give p q r = tt

pub collect_inbox-requires-clause-covered : goal.collect_inbox-requires-clause-covered
collect_inbox-requires-clause-covered c =
    let at = sym c.get_mut.ensures.value ∙ ap option_copied_mut c.in-Some.is in
    subst (λ o. IsCovered (collect_one c.args.agent) c.args.live.now.entries (inbox_of o)) at
    (collect_covered c.args.live.now.entries c.args.agent_index.now.entries c.requires c.args.agent)

pub returns-clause-index : goal.returns-clause-index
returns-clause-index c =
    let at = sym c.get_mut.ensures.value ∙ ap option_copied_mut c.in-Some.is in
    let after = c.collect_inbox.new.agent_requests in
    let ensures = c.collect_inbox.ensures in
    done c.collect_inbox.result
    (λ ordered each own. collect_index c.args.live.now.entries c.collect_inbox.new.live.entries
    c.args.agent_index.now.entries (c.get_mut.follows.lender after).entries c.requires ordered
    c.args.agent c.in-Some.agent_requests.now after each at own ((c.get_mut.follows.holds after).1 (ap is_some at)))
    ensures.ordered ensures.each ensures.own

pub returns-clause-changed : goal.returns-clause-changed
returns-clause-changed c =
    let at = sym c.get_mut.ensures.value ∙ ap option_copied_mut c.in-Some.is in
    IfOk-weaker c.collect_inbox.result _ (λ changed. changed.items
    ≡ changed_requests c.args.agent (values_of c.args.live.now.entries))
    (λ changed are. are.observed_are ∙ all_observed c.args.agent c.args.live.now c.args.agent_index.now.entries
    c.requires are.sorted are.in_order (λ n has. are.all n (subst (λ o. Contains (inbox_of o) n) at has)))
    c.collect_inbox.ensures.observed

pub returns-clause-after_collect : goal.returns-clause-after_collect
returns-clause-after_collect c =
    let ensures = c.collect_inbox.ensures in
    done c.collect_inbox.result (λ ordered each own. collect_values c.args.live.now.entries
    c.collect_inbox.new.live.entries c.requires.ordered ordered c.args.agent each) ensures.ordered ensures.each
    ensures.own

pub returns-in_default-clause-changed : goal.returns-in_default-clause-changed
returns-in_default-clause-changed c =
    c.new.ensures.items ∙ no_change c.args.agent c.args.live.now c.args.agent_index.now.entries c.requires
    (sym c.get_mut.ensures.value ∙ ap option_copied_mut c.in_default.is)

pub returns-in_default-clause-after_collect : goal.returns-in_default-clause-after_collect
returns-in_default-clause-after_collect c =
    let at = sym c.get_mut.ensures.value ∙ ap option_copied_mut c.in_default.is in
    let live = c.args.live.now.entries in
    let covered = subst (λ o. IsCovered (collect_one c.args.agent) c.args.live.now.entries (inbox_of o)) at
    (collect_covered c.args.live.now.entries c.args.agent_index.now.entries c.requires c.args.agent) in
    collect_values live live c.requires.ordered c.requires.ordered c.args.agent
    (none_left (collect_one c.args.agent) live covered)
