use Rattle.std.proofs.Common.{◌≡◌, ◌++◌}
use Rattle.wl_index.specs.inner.Rows.{pending_of}
use Rattle.wl_index.proofs.copies.add_requests.Given as goal

-- the draft with the rows to come is the draft with all rows
abbrev pub invariant-loop-number : goal.invariant-loop-number
invariant-loop-number l = record l.draft { pending = l.draft.pending ++ pending_of l.number-iterator }
    ≡ record l.fn.draft { pending = l.fn.draft.pending ++ pending_of l.requests.entries }
