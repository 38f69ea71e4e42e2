use Rattle.std.proofs.Common.{◌≡◌, ◌∙◌, ◌==◌, ◌&&◌, sym, ap, subst, refl, Some}
use Rattle.std.specs.Option.{is_some, option_copied_mut}
use Rattle.std.specs.List.{list_any}
use Rattle.std.proofs.lemmas.Result.{on_ok_weaker}
use Rattle.wl_index.specs.inner.Lists.{IsOn, IsRising, at}
use Rattle.wl_index.specs.inner.AgentRows.{Register}
use Rattle.wl_index.proofs.Registers.{Relisted, lent_some, relisted, written_here}
use Rattle.wl_index.proofs.AgentIndexes.{agent_there, listed_at, signal_made, some_is}
use Rattle.wl_index.proofs.agents.Agents.enlist.Goals.{After-unwrap-found, After-enroll}
use Rattle.wl_index.proofs.agents.Agents.enlist.Goals as goal

pub unwrap-found-requires : goal.unwrap-found-requires
unwrap-found-requires c =
    let es = c.self.inside.agents.entries in
    let seen = ap (λ (v : Register). list_any (λ row. row.number == c.args.agent) v.rows.agents) c.self.view_is
    ∙ c.requires.there in
    lent_some c.get_mut.result _ c.get_mut.ensures.value (some_is (at c.args.agent es)
    (sym (agent_there c.args.agent es c.self.invariant.0.members_ordered) ∙ seen))

there : (c : After-unwrap-found) → at c.args.agent c.self.inside.agents.entries ≡ Some c.unwrap-found.result.now
there c = sym c.get_mut.ensures.value ∙ ap option_copied_mut c.unwrap-found.ensures

pub enroll-requires-clause-rising : goal.enroll-requires-clause-rising
enroll-requires-clause-rising c = subst IsRising (there (goal.at.enroll-requires-clause-rising c).After-unwrap-found)
    (c.self.invariant.1 c.args.agent)

pub enroll-requires-clause-signed : goal.enroll-requires-clause-signed
enroll-requires-clause-signed c s is =
    let i = c.self.inside in
    let m = c.unwrap-found.result.now in
    signal_made c.args.agent s m i.signals.entries (listed_at c.args.agent i.agents.entries i.signals.entries
    i.next_agent i.next_signal m c.self.invariant.0 (there
    (goal.at.enroll-requires-clause-signed c).After-unwrap-found))
    (ap (λ (v : Register). list_any (λ row. (row.agent == c.args.agent) && (row.number == s)) v.rows.signals)
    c.self.view_is ∙ c.requires.signed s is)

-- the agents with the new lists
written : (c : After-enroll) → let i = c.self.inside in Relisted c.args.live.now.entries i.agents.entries
    (c.get_mut.follows.lender c.enroll.new.agent).entries i.signals.entries i.next_agent i.next_signal
written c =
    let w = c.enroll.new.agent in
    let there : at c.args.agent c.self.inside.agents.entries
    ≡ Some c.unwrap-found.result.now = sym c.get_mut.ensures.value ∙ ap option_copied_mut c.unwrap-found.ensures in
    let set = c.get_mut.follows.holds w in
    let same = c.enroll.ensures.same in
    relisted c.args.live.now.entries c.args.agent c.unwrap-found.result.now w _ _ _ _ _ c.self.invariant.0
    c.self.invariant.1 there set.0 (set.1 (ap is_some there)) same.0 same.1 same.2 c.enroll.ensures.rising
    c.enroll.ensures.kept

pub invariant_of-self : goal.invariant_of-self
invariant_of-self c = let now = written (goal.at.invariant_of-self c).After-enroll in (now.agent_index, now.rising)

pub returns-clause-rows : goal.returns-clause-rows
returns-clause-rows c = rw (← c.self.view_is, (written (goal.at.returns-clause-rows c).After-enroll).rows) refl

pub returns-clause-kept : goal.returns-clause-kept
returns-clause-kept c = rw (← c.self.view_is) (written (goal.at.returns-clause-kept c).After-enroll).kept

pub returns-clause-on : goal.returns-clause-on
returns-clause-on c =
    let w = c.enroll.new.agent in
    let at = there (goal.at.returns-clause-on c).After-unwrap-found in
    on_ok_weaker c.enroll.result (λ on. subst (λ o. IsOn o c.args.number c.args.signal)
    (sym (written_here c.args.agent w _ _ ((c.get_mut.follows.holds w).1 (ap is_some at)))) on) c.enroll.ensures.on
