use Rattle.std.proofs.Common.{ap, map, ◌∙◌}
use Rattle.wl_wire.specs.Greetings.{values_of}
use Rattle.wl_wire.proofs.Judging.{judged}
use Rattle.wl_wire.proofs.greeter.judge_by.Goals as goal

pub returns : goal.returns
returns c =
    let name = values_of c.args.headers.now in
    let texts = map (λ text. text.now) in
    judged c.args.rules.now c.args.target.now c.args.headers.now c.admit.result
    ((ap texts c.as_slice.ensures.value ∙ c.in_ok-origins.ensures.texts) ∙ ap name c.from_static.ensures)
    ((ap texts c.as_slice-2.ensures.value ∙ c.in_ok-authorizations.ensures.texts) ∙ ap name c.from_static-2.ensures)
    ((ap texts c.as_slice-3.ensures.value ∙ c.in_ok-subprotocols.ensures.texts) ∙ ap name c.from_static-3.ensures)
    c.admit.ensures
