use Rattle.std.proofs.Common.{◌≡◌, ◌+◌, ◌≤◌, vec_len, vec_capacity, drop}
use Rattle.wl_machine.specs.Grants.{process_queues, lists_of}
use Rattle.wl_core.proofs.processing.process_each.Given as goal

-- processing the names that are left from here is processing all from the start
abbrev pub invariant-loop-name : goal.invariant-loop-name
invariant-loop-name l = record {
  processed : process_queues (lists_of l.held.items l.pending.items l.changes.items) (drop l.name-index l.names)
      ≡ process_queues (lists_of l.fn.held.items l.fn.pending.items l.fn.changes.items) l.names;
  held_len : vec_len l.held + vec_len l.pending ≡ vec_len l.fn.held + vec_len l.fn.pending;
  changes_len : vec_len l.changes + vec_len l.pending ≡ vec_len l.fn.changes + vec_len l.fn.pending;
  held_room : vec_capacity l.fn.held ≤ vec_capacity l.held;
  changes_room : vec_capacity l.fn.changes ≤ vec_capacity l.changes;
}
