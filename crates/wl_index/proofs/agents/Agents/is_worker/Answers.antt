use Rattle.std.proofs.Common.{◌∙◌, sym, ap}
use Rattle.std.specs.Prelude.{not}
use Rattle.wl_machine.specs.Refusals.{is_window}
use Rattle.wl_index.specs.declared.agent.Agent.{Agent}
use Rattle.wl_index.specs.inner.AgentRows.{at_some}
use Rattle.wl_index.proofs.AgentIndexes.{agent_test}
use Rattle.wl_index.proofs.agents.Agents.is_worker.Goals as goal

pub returns-in-Some : goal.returns-in-Some
returns-in-Some c =
    let i = c.self.inside in
    rw (← c.self.view_is) (c.is_worker.ensures ∙ ap (at_some (λ (m : Agent). not (is_window m.kind)))
    c.in-Some.ensures.value ∙ sym (agent_test (λ kind active. not (is_window kind)) c.args.agent i.agents.entries
    c.self.invariant.0.members_ordered))

pub returns-in-None : goal.returns-in-None
returns-in-None c =
    let i = c.self.inside in
    rw (← c.self.view_is) (ap (at_some (λ (m : Agent). not (is_window m.kind))) c.in-None.ensures.value
    ∙ sym (agent_test (λ kind active. not (is_window kind)) c.args.agent i.agents.entries
    c.self.invariant.0.members_ordered))
