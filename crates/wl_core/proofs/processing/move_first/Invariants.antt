use Rattle.std.proofs.Common.{◌≡◌, ◌+◌, ◌≤◌, ◌++◌, map, vec_len, vec_capacity, drop, take, ◌-◌}
use Rattle.wl_machine.specs.Grants.{queue, without_first, granted_lock, grant_change}
use Rattle.wl_core.proofs.processing.move_first.Given as goal

-- what was moved and what is to be moved
abbrev pub invariant-loop-left : goal.invariant-loop-left
invariant-loop-left l = record {
  held : l.held.items ++ map granted_lock (take l.left (queue l.name (drop l.i l.pending.items)))
      ≡ l.fn.held.items ++ map granted_lock (take l.fn.count (queue l.name l.fn.pending.items));
  pending : take l.i l.pending.items ++ without_first l.name l.left (drop l.i l.pending.items)
      ≡ without_first l.name l.fn.count l.fn.pending.items;
  changes : l.changes.items ++ map grant_change (take l.left (queue l.name (drop l.i l.pending.items)))
      ≡ l.fn.changes.items ++ map grant_change (take l.fn.count (queue l.name l.fn.pending.items));
  held_len : vec_len l.held + vec_len l.pending ≡ vec_len l.fn.held + vec_len l.fn.pending;
  changes_len : vec_len l.changes + vec_len l.pending ≡ vec_len l.fn.changes + vec_len l.fn.pending;
  held_room : vec_capacity l.fn.held ≤ vec_capacity l.held;
  changes_room : vec_capacity l.fn.changes ≤ vec_capacity l.changes;
  within : l.i ≤ vec_len l.pending;
}

abbrev pub decreases-loop-left : goal.decreases-loop-left
decreases-loop-left l = l.left + (vec_len l.pending - l.i)
