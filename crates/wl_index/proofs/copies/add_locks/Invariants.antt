use Rattle.std.proofs.Common.{◌≡◌, ◌++◌}
use Rattle.std.specs.List.{AllByRecursion}
use Rattle.std.specs.Vec.Iter.{into_iter_items}
use Rattle.wl_index.specs.inner.Rows.{lock_row}
use Rattle.wl_index.proofs.Views.{Stands, found_at}
use Rattle.wl_index.proofs.copies.add_locks.Given as goal

-- the draft with the rows to come is the draft with all rows
abbrev pub invariant-loop-number : goal.invariant-loop-number
invariant-loop-number l = record {
  stand : AllByRecursion (Stands l.requests.entries) (into_iter_items l.number-iterator);
  added : record l.draft {
    held = l.draft.held ++ found_at lock_row l.requests.entries
        (into_iter_items l.number-iterator);
  } ≡ record l.fn.draft {
    held = l.fn.draft.held
        ++ found_at lock_row l.requests.entries l.fn.numbers.items;
  };
}
