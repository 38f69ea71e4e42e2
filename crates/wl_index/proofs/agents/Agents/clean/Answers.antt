use Rattle.std.proofs.Common.{◌≡◌, ◌∙◌, sym, ap, subst, refl, Some}
use Rattle.std.specs.Option.{is_some, option_copied_mut}
use Rattle.wl_index.specs.inner.Lists.{IsRising, at}
use Rattle.wl_index.proofs.Registers.{Relisted, relisted}
use Rattle.wl_index.proofs.agents.Agents.clean.Goals.{In-Some, After-clean_list}
use Rattle.wl_index.proofs.agents.Agents.clean.Goals as goal

there : (c : In-Some) → at c.args.agent c.self.inside.agents.entries ≡ Some c.in-Some.found.now
there c = sym c.get_mut.ensures.value ∙ ap option_copied_mut c.in-Some.is

pub clean_list-requires : goal.clean_list-requires
clean_list-requires c = (subst IsRising (there (goal.at.clean_list-requires c).In-Some)
    (c.self.invariant.1 c.args.agent)).signed

-- the agents with the cleaned list
written : (c : After-clean_list) → let i = c.self.inside in
    Relisted c.args.live.now.entries i.agents.entries (c.get_mut.follows.lender
    (record c.in-Some.found.now { signals = c.clean_list.new.signals })).entries i.signals.entries i.next_agent
    i.next_signal
written c =
    let m = c.in-Some.found.now in
    let w = record m { signals = c.clean_list.new.signals } in
    let there : at c.args.agent c.self.inside.agents.entries ≡ Some m = sym c.get_mut.ensures.value
    ∙ ap option_copied_mut c.in-Some.is in
    let set = c.get_mut.follows.holds w in
    relisted c.args.live.now.entries c.args.agent m w _ _ _ _ _ c.self.invariant.0 c.self.invariant.1 there set.0
    (set.1 (ap is_some there)) refl refl c.clean_list.ensures.keys
    (record {
      own = (subst IsRising there (c.self.invariant.1 c.args.agent)).own;
      signed = c.clean_list.ensures.rising;
    })
    (record { own = λ n is has. has; signed = c.clean_list.ensures.kept })

pub invariant_of-self-2 : goal.invariant_of-self-2
invariant_of-self-2 c = let now = written (goal.at.invariant_of-self-2 c).After-clean_list
    in (now.agent_index, now.rising)

pub returns-clause-rows : goal.returns-clause-rows
returns-clause-rows c = rw (← c.self.view_is, (written (goal.at.returns-clause-rows c).After-clean_list).rows) refl

pub returns-clause-kept : goal.returns-clause-kept
returns-clause-kept c = rw (← c.self.view_is) (written (goal.at.returns-clause-kept c).After-clean_list).kept
