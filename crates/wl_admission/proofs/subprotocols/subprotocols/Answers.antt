use Rattle.wl_admission.proofs.Lists.{offered_more, trimmed_more}
use Rattle.wl_admission.proofs.subprotocols.subprotocols.Goals as goal

pub loop-header-preserved : goal.loop-header-preserved
loop-header-preserved c =
    trimmed_more (λ p. p.now) _ _ _ _ _ _ (rw c.as_slice.ensures.value at c.in_ok-push_trimmed.ensures)
    c.loop-header.invariant c.in_ok-pieces.ensures
    (offered_more (λ h. h.now) c.args.headers.now c.loop-header.header-index _ c.loop-header-test.true)
