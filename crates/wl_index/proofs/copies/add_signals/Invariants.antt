use Rattle.std.proofs.Common.{◌≡◌, ◌++◌, map}
use Rattle.wl_index.specs.inner.AgentRows.{signal_row}
use Rattle.wl_index.proofs.copies.add_signals.Given as goal

-- the draft with the rows to come is the draft with all rows
abbrev pub invariant-loop-number : goal.invariant-loop-number
invariant-loop-number l = record l.draft { signals = l.draft.signals ++ map signal_row l.number-iterator }
    ≡ record l.fn.draft { signals = l.fn.draft.signals ++ l.agents.rows.signals }
