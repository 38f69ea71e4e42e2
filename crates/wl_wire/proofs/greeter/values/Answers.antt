use Rattle.std.proofs.Common.{map, sym, ap, ◌∙◌, arith}
use Rattle.std.proofs.lemmas.Iterator.Consumers.{YieldsList-end, YieldsList-from_first}
use Rattle.std.proofs.lemmas.List.{map_push}
use Rattle.std.proofs.lemmas.Simd.{map-map}
use Rattle.http_header.specs.HeaderMap.{get_all}
use Rattle.wl_wire.proofs.greeter.values.Goals as goal

pub loop-value-preserved : goal.loop-value-preserved
loop-value-preserved c = grind (arith, map_push)

pub returns-clause-texts : goal.returns-clause-texts
returns-clause-texts c =
    let from = c.into_iter-value-iterator.ensures.into_iter_gives ∙ c.get_all-value-items.ensures.value in
    let all =
    YieldsList-end (YieldsList-from_first (λ x. x.now) (λ it. it) (get_all c.args.headers.now c.args.name) from)
    c.loop-value.yielded _ c.loop-value.yielded_by _ _ c.in-None.is c.next.ensures.steps
    in
    (c.loop-value.invariant ∙ sym (map-map (λ v. v.bytes) (λ x. x.now) c.loop-value.yielded))
    ∙ ap (map (λ v. v.bytes)) all.0
