use Rattle.std.proofs.Common.{◌≡◌, ◌++◌}
use Rattle.std.specs.List.{AllByRecursion}
use Rattle.std.specs.Map.{keys_of}
use Rattle.wl_index.proofs.Views.{Stands, found_at, info}
use Rattle.wl_index.proofs.snapshots.add_queue.Given as goal

-- what is shown, and what is to come, is all that the queue's numbers show
abbrev pub invariant-loop-number : goal.invariant-loop-number
invariant-loop-number l = record {
  stand : AllByRecursion (Stands l.requests.entries) (keys_of l.number-iterator);
  shown : l.infos ++ found_at info l.requests.entries (keys_of l.number-iterator)
      ≡ l.fn.infos ++ found_at info l.requests.entries (keys_of l.name_queue.waits);
}
