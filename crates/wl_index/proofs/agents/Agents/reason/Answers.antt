use Rattle.std.proofs.Common.{◌∙◌, sym, ap}
use Rattle.wl_index.specs.inner.AgentRows.{reason_at}
use Rattle.wl_index.proofs.AgentIndexes.{reason_found}
use Rattle.wl_index.proofs.agents.Agents.reason.Goals as goal

pub returns-in-Some : goal.returns-in-Some
returns-in-Some c =
    let i = c.self.inside in
    rw (← c.self.view_is) (c.reason_of.ensures ∙ ap (reason_at c.args.agent) c.in-Some.ensures.value
    ∙ sym (reason_found c.args.agent c.args.signal i.signals.entries c.self.invariant.0.signals_ordered))

pub returns-in-None : goal.returns-in-None
returns-in-None c =
    let i = c.self.inside in
    rw (← c.self.view_is) (ap (reason_at c.args.agent) c.in-None.ensures.value
    ∙ sym (reason_found c.args.agent c.args.signal i.signals.entries c.self.invariant.0.signals_ordered))
