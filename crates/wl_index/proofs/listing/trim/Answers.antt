use Rattle.std.proofs.Common.{◌<◌, rules, nat_lt, subst, sym}
use Rattle.std.specs.List.{AllByRecursion}
use Rattle.std.proofs.lemmas.Fn.{filter_same}
use Rattle.wl_index.proofs.Grouping.{none_trimmed}
use Rattle.wl_index.proofs.listing.trim.Goals as goal

pub returns-then-is_below : goal.returns-then-is_below
returns-then-is_below c =
    sym (none_trimmed c.args.list.now.items c.args.number (subst (λ l. AllByRecursion (λ n. n < c.args.number) l)
    c.deref.ensures.value
    (c.is_below.ensures c.if-is_below.true)))

pub returns : goal.returns
returns c = filter_same _ (λ n. nat_lt n c.args.number) _ (λ x b f' k. search rules) _ _ c.retain.ensures.filtered
