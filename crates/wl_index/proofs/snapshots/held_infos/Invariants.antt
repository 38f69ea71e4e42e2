use Rattle.std.proofs.Common.{◌≡◌, ◌++◌}
use Rattle.std.specs.List.{AllByRecursion}
use Rattle.std.specs.Vec.Iter.{into_iter_items}
use Rattle.wl_index.proofs.Views.{Stands, found_at, info}
use Rattle.wl_index.proofs.snapshots.held_infos.Given as goal

-- what is shown, and what is to come, is all that the numbers show
abbrev pub invariant-loop-number : goal.invariant-loop-number
invariant-loop-number l = record {
  stand : AllByRecursion (Stands l.requests.entries) (into_iter_items l.number-iterator);
  shown : l.infos ++ found_at info l.requests.entries (into_iter_items l.number-iterator)
      ≡ found_at info l.requests.entries l.fn.numbers.items;
}
