use Rattle.std.proofs.Common.{◌≡◌, ◌++◌, map, take, drop}
use Rattle.std.specs.List.{fold}
use Rattle.wl_world.specs.Origins.{as_taken, take_observed}
use Rattle.wl_world.specs.Entries.{take_entries}
use Rattle.wl_world.specs.Journals.{with_more}
use Rattle.wl_world.proofs.origin.take_all.Given as goal

-- taking the rest from here is taking all from the start
abbrev pub invariant-loop-observation : goal.invariant-loop-observation
invariant-loop-observation g l = record {
  state : fold take_observed (g.C.LockCore.state l.core) (drop l.observation-index l.changed) ≡ fold take_observed
      (g.C.LockCore.state l.fn.core) l.fn.changed;
  entries : with_more (take_entries (g.C.LockCore.state l.core) (drop l.observation-index l.changed))
      (g.C.LockCore.entries l.core)
      ≡ with_more (take_entries (g.C.LockCore.state l.fn.core) l.fn.changed) (g.C.LockCore.entries l.fn.core);
  changed : take l.observation-index l.changed ++ map as_taken (drop l.observation-index l.changed)
      ≡ map as_taken l.fn.changed;
}
