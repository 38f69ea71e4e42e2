use Rattle.std.proofs.Common.{◌≡◌, take, map, filter}
use Rattle.wl_session.specs.LastReported.{is_live, as_released}
use Rattle.wl_session.proofs.last_reported.list_as_released.Given as goal

abbrev pub invariant-loop-observation : goal.invariant-loop-observation
invariant-loop-observation l = l.list.items ≡ map as_released
    (filter is_live (take l.observation-index l.last_reported))
