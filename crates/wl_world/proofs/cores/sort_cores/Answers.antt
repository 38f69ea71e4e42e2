use Rattle.std.proofs.Common.{rules}
use Rattle.std.specs.Ordering.{is_lt}
use Rattle.std.proofs.lemmas.Fn.{always_returns_same}
use Rattle.std.proofs.lemmas.List.Sorted.{ranks_by}
use Rattle.wl_origin.specs.Manager.{manager_cmp, manager_cmp_total}
use Rattle.wl_world.proofs.cores.sort_cores.Goals as goal

pub returns-clause-sorted : goal.returns-clause-sorted
returns-clause-sorted g c =
    c.sort_unstable_by.ensures.sorted (λ one other. is_lt (manager_cmp one.0 other.0))
    (ranks_by manager_cmp_total (λ entry. entry.0)) (always_returns_same _ _ _ (λ a r f' k. search rules))
