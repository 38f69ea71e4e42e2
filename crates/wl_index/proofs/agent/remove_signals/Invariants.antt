use Rattle.std.proofs.Common.{◌≡◌, filter}
use Rattle.std.specs.List.Sorted.{IsStrictlySortedBy}
use Rattle.std.specs.Map.{keys_of}
use Rattle.std.specs.Ordering.{nat_cmp}
use Rattle.wl_index.specs.inner.Lists.{is_spared}
use Rattle.wl_index.proofs.agent.remove_signals.Given as goal

-- what the numbers that are left spare is what all spare
abbrev pub invariant-loop-number : goal.invariant-loop-number
invariant-loop-number l = record {
  ordered : IsStrictlySortedBy nat_cmp (keys_of l.signals.entries);
  spares : filter (is_spared l.number-iterator) l.signals.entries
      ≡ filter (is_spared (keys_of l.made.entries)) l.fn.signals.entries;
}
