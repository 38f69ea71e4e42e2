use Rattle.std.proofs.Common.{◌≡◌, ◌++◌, filter, drop}
use Rattle.wl_index.specs.inner.Lists.{is_spared}
use Rattle.wl_index.specs.inner.Ends.{numbers_of, place_ends, AreLive}
use Rattle.wl_index.proofs.ending.end_all.Given as goal

-- the ends told, and those to come, are those of the whole list
abbrev pub invariant-loop-place : goal.invariant-loop-place
invariant-loop-place l = record {
  live : AreLive (numbers_of (drop l.place-index l.places)) l.locks.entries;
  entries : filter (is_spared (numbers_of (drop l.place-index l.places))) l.locks.entries
      ≡ filter (is_spared (numbers_of l.places)) l.fn.locks.entries;
  changes : l.locks.changes ++ place_ends l.phase (drop l.place-index l.places)
      ≡ l.fn.locks.changes ++ place_ends l.phase l.places;
  next : l.locks.next ≡ l.fn.locks.next;
  names : l.locks.names ≡ l.fn.locks.names;
}
