use Rattle.std.proofs.Common.{◌≡◌, ◌≤◌, ◌++◌, vec_capacity, map, filter, drop}
use Rattle.wl_index.specs.inner.Ends.{ends_entry}
use Rattle.wl_index.specs.inner.Order.{place_of}
use Rattle.wl_index.proofs.Picks.{picked}
use Rattle.wl_index.proofs.requests.Requests.gather.Given as goal

-- the places found, and those to come, are all
abbrev pub invariant-loop-number : goal.invariant-loop-number
invariant-loop-number l = record {
  items : l.places.items ++ picked (ends_entry l.owner l.standing) l.self.entries (drop l.number-index l.numbers)
      ≡ map place_of (filter (ends_entry l.owner l.standing) l.self.entries);
  capacity : vec_capacity l.fn.places ≤ vec_capacity l.places;
}
