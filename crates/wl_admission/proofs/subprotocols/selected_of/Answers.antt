use Rattle.std.proofs.Common.{◌≡◌, ◌∙◌, None, arith, sym}
use Rattle.wl_admission.specs.Handshakes.{selectable}
use Rattle.wl_admission.proofs.Lists.{first_given_at, nothing_given_more}
use Rattle.wl_admission.proofs.subprotocols.selected_of.Goals as goal

pub returns-in-Some : goal.returns-in-Some
returns-in-Some c =
    sym (first_given_at (λ p. p.now) (selectable c.args.has_fences) c.args.subprotocols.now c.loop-name.name-index _ _
    c.loop-name-test.true c.loop-name.invariant (sym c.selectable.ensures ∙ c.in-Some.is))

pub loop-name-preserved : goal.loop-name-preserved
loop-name-preserved c =
    let none : c.selectable.result ≡ None = grind (arith, c.in_default.not-Some) in
    nothing_given_more (λ p. p.now) (selectable c.args.has_fences) c.args.subprotocols.now c.loop-name.name-index _
    c.loop-name-test.true c.loop-name.invariant (sym c.selectable.ensures ∙ none)
