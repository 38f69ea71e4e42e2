use Rattle.std.proofs.Common.{rules}
use Rattle.std.proofs.lemmas.List.Sorted.{IsNonDecreasingBy-from_sort_by_key}
use Rattle.wl_index.specs.declared.request.Place.{Place}
use Rattle.wl_index.proofs.Sorted.{sorted_by_grant_seq}
use Rattle.wl_index.proofs.order.sort.Goals as goal

pub returns-clause-items : goal.returns-clause-items
returns-clause-items c =
    let sorted = c.sort_unstable_by_key.ensures in
    sorted_by_grant_seq (λ (p : Place). p.grant_seq) c.args.places.now.items c.sort_unstable_by_key.new.self.items
    c.requires sorted.permutation (IsNonDecreasingBy-from_sort_by_key (λ (p : Place). p.grant_seq) _ sorted.sorted
    (λ a r q k. search rules))
