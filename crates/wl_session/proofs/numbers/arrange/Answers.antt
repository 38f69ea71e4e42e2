use Rattle.std.proofs.Common.{subst}
use Rattle.std.specs.List.Sorted.{IsStrictlyIncreasing}
use Rattle.std.proofs.lemmas.List.Filters.{dedup_is}
use Rattle.std.proofs.lemmas.List.Kept.{Contains-dedup_nat, Contains-from_dedup}
use Rattle.std.proofs.lemmas.List.Sorted.{Contains-permutation, IsPermutation-sym}
use Rattle.std.proofs.lemmas.Map.Keys.{IsStrictlyIncreasing-dedup}
use Rattle.wl_session.proofs.numbers.arrange.Goals as goal

pub returns-then-is_rising-clause-rising : goal.returns-then-is_rising-clause-rising
returns-then-is_rising-clause-rising c =
    subst IsStrictlyIncreasing c.deref.ensures.value (c.is_rising.ensures c.if-is_rising.true)

pub returns-clause-rising : goal.returns-clause-rising
returns-clause-rising c =
    rw (dedup_is _ _ _ c.dedup.ensures.filtered) (IsStrictlyIncreasing-dedup _ c.sort_unstable.ensures.sorted)

pub returns-clause-same : goal.returns-clause-same
returns-clause-same c =
    let moved = c.sort_unstable.ensures.permutation in
    λ n. rw (dedup_is _ _ _ c.dedup.ensures.filtered) (
      λ has. Contains-permutation _ _ n (IsPermutation-sym _ _ moved) (Contains-from_dedup _ _ n has),
      λ has. Contains-dedup_nat _ n (Contains-permutation _ _ n moved has),
    )
