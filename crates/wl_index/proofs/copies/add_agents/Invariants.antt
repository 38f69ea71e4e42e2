use Rattle.std.proofs.Common.{◌≡◌, ◌++◌, map}
use Rattle.wl_index.specs.inner.AgentRows.{agent_row}
use Rattle.wl_index.proofs.copies.add_agents.Given as goal

-- the draft with the rows to come is the draft with all rows
abbrev pub invariant-loop-number : goal.invariant-loop-number
invariant-loop-number l = record l.draft { agents = l.draft.agents ++ map agent_row l.number-iterator }
    ≡ record l.fn.draft { agents = l.fn.draft.agents ++ l.agents.rows.agents }
