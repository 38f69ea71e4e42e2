use Rattle.std.proofs.Common.{drop, nat_cmp}
use Rattle.std.specs.List.Sorted.{IsStrictlySortedBy}
use Rattle.std.specs.Map.{keys_of}
use Rattle.wl_world.specs.inner.AgentIndex.{close_one}
use Rattle.wl_world.proofs.Walks.{IsUnderWay}
use Rattle.wl_world.proofs.agent_index.close_all.Given as goal

-- what is left to leave
abbrev pub invariant-loop-number : goal.invariant-loop-number
invariant-loop-number l = record {
  ordered : IsStrictlySortedBy nat_cmp (keys_of l.live.entries);
  under_way : IsUnderWay (close_one l.agent) l.fn.live.entries l.live.entries (drop l.number-index l.numbers);
}
