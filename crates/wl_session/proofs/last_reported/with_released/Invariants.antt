use Rattle.std.proofs.Common.{◌≡◌, take, fold, map, filter}
use Rattle.wl_session.specs.LastReported.{IsByNumber, is_live, put, as_released}
use Rattle.wl_session.proofs.last_reported.with_released.Given as goal

abbrev pub invariant-loop-observation : goal.invariant-loop-observation
invariant-loop-observation l = record {
  so_far : l.list.items ≡ fold put (map as_released (filter is_live l.last_reported))
      (take l.observation-index l.observed);
  by_number : IsByNumber l.list.items;
}
