use Rattle.std.proofs.Common.{◌≡◌, ◌∙◌, sym, ap, nat_cmp, subst, Some, None, refl}
use Rattle.std.specs.Option.{is_some, option_copied_mut}
use Rattle.std.specs.Map.{lookup}
use Rattle.std.specs.BTreeMap.{is_at}
use Rattle.wl_number_map.proofs.Keyed.{found}
use Rattle.wl_index.specs.inner.Lists.{IsRising, own_of, signed_of}
use Rattle.wl_index.proofs.Registers.{lists_written, rises_written}
use Rattle.wl_index.proofs.AgentIndexes.{active_index, active_set, active_none}
use Rattle.wl_index.proofs.agents.Agents.set_active.Goals.{In-Some}
use Rattle.wl_index.proofs.agents.Agents.set_active.Goals as goal

there : (c : In-Some) → lookup (is_at (nat_cmp c.args.agent)) c.self.inside.agents.entries ≡ Some c.in-Some.found.now
there c = sym c.get_mut.ensures.value ∙ ap option_copied_mut c.in-Some.is

pub returns-in_default-clause-rows : goal.returns-in_default-clause-rows
returns-in_default-clause-rows c =
    let i = c.self.inside in
    let none : lookup (is_at (nat_cmp c.args.agent)) i.agents.entries ≡ None = sym c.get_mut.ensures.value
    ∙ ap option_copied_mut c.in_default.is in
    rw (← c.self.view_is, c.get_mut.follows.holds-at-none, active_none c.args.agent c.args.active i.agents.entries none)
    refl

pub invariant_of-self-2 : goal.invariant_of-self-2
invariant_of-self-2 c =
    let i = c.self.inside in
    let m = c.in-Some.found.now in
    let at = there (goal.at.invariant_of-self-2 c).In-Some in
    let w = record m { active = c.args.active } in
    let holds = c.get_mut.follows.holds w in (
      rw holds.0 (active_index c.args.agent c.args.active i.agents.entries i.signals.entries i.next_agent i.next_signal
          m c.self.invariant.0 at),
      rises_written c.args.agent w i.agents.entries (c.get_mut.follows.lender w).entries (holds.1 (ap is_some at))
          (let rises = subst IsRising at (c.self.invariant.1 c.args.agent)
          in record { own = rises.own; signed = rises.signed }) c.self.invariant.1,
    )

pub returns-clause-rows : goal.returns-clause-rows
returns-clause-rows c =
    let i = c.self.inside in
    let m = c.in-Some.found.now in
    let at = there (goal.at.returns-clause-rows c).In-Some in
    rw (
      ← c.self.view_is,
      (c.get_mut.follows.holds (record m { active = c.args.active })).0,
      active_set c.args.agent c.args.active i.agents.entries m
          (found c.args.agent i.agents.entries m c.self.invariant.0.members_ordered at),
    ) refl

pub returns-clause-lists : goal.returns-clause-lists
returns-clause-lists c =
    let i = c.self.inside in
    let m = c.in-Some.found.now in
    let at = there (goal.at.returns-clause-lists c).In-Some in
    let w = record m { active = c.args.active } in
    rw (← c.self.view_is) (lists_written c.args.agent w i.agents.entries (c.get_mut.follows.lender w).entries
    ((c.get_mut.follows.holds w).1 (ap is_some at)) (sym (ap own_of at)) (λ s. sym (ap (signed_of s) at)))
