use Rattle.std.proofs.Common.{◌∙◌, ◌==◌, sym, ap}
use Rattle.wl_index.specs.declared.agent.Signal.{Signal}
use Rattle.wl_index.specs.inner.AgentRows.{at_some}
use Rattle.wl_index.proofs.AgentIndexes.{signal_there}
use Rattle.wl_index.proofs.agents.Agents.has_signal.Goals as goal

pub returns-in-Some : goal.returns-in-Some
returns-in-Some c =
    let i = c.self.inside in
    rw (← c.self.view_is) (ap (at_some (λ (s : Signal). s.agent == c.args.agent)) c.in-Some.ensures.value
    ∙ sym (signal_there c.args.agent c.args.signal i.signals.entries c.self.invariant.0.signals_ordered))

pub returns-in-None : goal.returns-in-None
returns-in-None c =
    let i = c.self.inside in
    rw (← c.self.view_is) (ap (at_some (λ (s : Signal). s.agent == c.args.agent)) c.in-None.ensures.value
    ∙ sym (signal_there c.args.agent c.args.signal i.signals.entries c.self.invariant.0.signals_ordered))
