use Rattle.std.proofs.Common.{◌≡◌, ◌++◌}
use Rattle.wl_index.specs.inner.Queues.{names_of}
use Rattle.wl_index.proofs.copies.add_names.Given as goal

-- the draft with the rows to come is the draft with all rows
abbrev pub invariant-loop-queue : goal.invariant-loop-queue
invariant-loop-queue l = record l.draft { names = l.draft.names ++ names_of l.queue-iterator }
    ≡ record l.fn.draft { names = l.fn.draft.names ++ names_of l.queues }
