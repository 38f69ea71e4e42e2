use Rattle.std.proofs.Common.{rules, inl, inr, sym, subst}
use Rattle.std.specs.List.{Contains}
use Rattle.std.specs.List.Sorted.{IsStrictlyIncreasing}
use Rattle.std.proofs.lemmas.Map.Keys.{sorted_from_strictly_increasing}
use Rattle.wl_world.proofs.agent_index.collect_inbox.Goals as goal

pub collect_all-requires-clause-sorted : goal.collect_all-requires-clause-sorted
collect_all-requires-clause-sorted c =
    sorted_from_strictly_increasing _ (subst IsStrictlyIncreasing (sym c.deref.ensures.value) c.arrange.ensures.rising)

pub collect_all-requires-clause-covered : goal.collect_all-requires-clause-covered
collect_all-requires-clause-covered c = λ n. elim (c.requires.covered n) [
  | inl settled ↦ inl settled
  | inr has ↦ inr (subst (λ l. Contains l n) (sym c.deref.ensures.value) ((c.arrange.ensures.same n).1 has))
]

pub returns-clause-observed : goal.returns-clause-observed
returns-clause-observed c = record {
  sorted = c.deref.result.now;
  in_order = sorted_from_strictly_increasing _
      (subst IsStrictlyIncreasing (sym c.deref.ensures.value) c.arrange.ensures.rising);
  all = λ n has. subst (λ l. Contains l n) (sym c.deref.ensures.value) ((c.arrange.ensures.same n).1 has);
  observed_are = search rules;
}
