use Rattle.std.proofs.Common.{◌∙◌, sym}
use Rattle.wl_index.proofs.AgentIndexes.{agent_there}
use Rattle.wl_index.proofs.agents.Agents.has.Goals as goal

pub returns : goal.returns
returns c =
    let i = c.self.inside in
    rw (← c.self.view_is) (c.contains.ensures ∙ sym (agent_there c.args.agent i.agents.entries
    c.self.invariant.0.members_ordered))
