use Rattle.std.proofs.Common.{rules, ◌∙◌, ap}
use Rattle.wl_number_map.specs.inner.NumberMap.{shown}
use Rattle.std.proofs.lemmas.List.Sorted.{IsNonDecreasingBy-from_sort_by_key}
use Rattle.wl_number_map.proofs.Sorted.{rows_in_order}
use Rattle.wl_number_map.proofs.rows.Rows.of.Goals as goal

pub returns : goal.returns
returns g c =
    let sorted = c.sort_unstable_by_key.ensures in
    let listed = c.in_ok-rows.ensures in
    ap shown c.into_iter.ensures.rest
    ∙ rows_in_order (λ row. (row.0, row.1.now)) c.in_ok-rows.rows.items c.sort_unstable_by_key.new.self.items
    c.args.values.now listed.rows sorted.permutation
    (IsNonDecreasingBy-from_sort_by_key (λ row. row.0) c.sort_unstable_by_key.new.self.items sorted.sorted
    (λ a r q k. search rules)) listed.distinct
