use Rattle.std.proofs.Common.{◌≡◌, ◌++◌, length, filter}
use Rattle.wl_types.specs.declared.phases.Phase.TheVariants.{Stolen}
use Rattle.wl_machine.specs.Grants.{locks}
use Rattle.wl_machine.specs.Step.{lock_ends}
use Rattle.wl_index.specs.inner.Locks.{no_lock_on}
use Rattle.wl_index.specs.inner.Rows.{held_of}
use Rattle.wl_index.proofs.locks.Locks.oust.Given as goal

-- the ends told, and those to come, are those of all the name's locks
abbrev pub invariant-loop-number : goal.invariant-loop-number
invariant-loop-number l = record {
  entries : filter (no_lock_on l.name) l.self.entries ≡ filter (no_lock_on l.name) l.fn.self.entries;
  changes : l.self.changes ++ lock_ends Stolen (locks l.name (held_of l.self.entries))
      ≡ l.fn.self.changes ++ lock_ends Stolen (locks l.name (held_of l.fn.self.entries));
  next : l.self.next ≡ l.fn.self.next;
  names : l.self.names ≡ l.fn.self.names;
}

abbrev pub decreases-loop-number : goal.decreases-loop-number
decreases-loop-number l = length l.self.entries
