use Rattle.std.proofs.Common.{◌≡◌, take, drop, nat_cmp}
use Rattle.std.specs.List.{flat_map}
use Rattle.std.specs.List.Sorted.{IsStrictlySortedBy}
use Rattle.std.specs.Map.{keys_of}
use Rattle.wl_world.specs.inner.AgentIndex.{found, observed_of, collect_one}
use Rattle.wl_world.proofs.Walks.{IsUnderWay, IsUntouchedFrom}
use Rattle.wl_world.proofs.agent_index.collect_all.Given as goal

-- what is observed so far, and what is left to collect
abbrev pub invariant-loop-number : goal.invariant-loop-number
invariant-loop-number l = record {
  ordered : IsStrictlySortedBy nat_cmp (keys_of l.live.entries);
  under_way : IsUnderWay (collect_one l.agent) l.fn.live.entries l.live.entries (drop l.number-index l.numbers);
  untouched : IsUntouchedFrom l.number-index l.numbers l.fn.live.entries l.live.entries;
  observed : l.observed.items ≡ flat_map (λ number. observed_of l.agent (found number l.fn.live.entries))
      (take l.number-index l.numbers);
}
