use Rattle.wl_admission.specs.Handshakes.{bearer_of}
use Rattle.wl_admission.proofs.Lists.{filter_map_more, kept_more}
use Rattle.wl_admission.proofs.credentials.tokens_in.Goals as goal

pub loop-text-preserved : goal.loop-text-preserved
loop-text-preserved c =
    kept_more _ _ _ _ _ (rw c.bearer_of.ensures at c.in_ok-push_given.ensures) c.loop-text.invariant
    (filter_map_more (λ text. text.now) (bearer_of c.args.carrier) c.args.texts.now c.loop-text.text-index _
    c.loop-text-test.true)
