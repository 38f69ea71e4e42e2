use Rattle.std.proofs.Common.{length}
use Rattle.std.specs.Prelude.{nat_lt}
use Rattle.wl_admission.proofs.Lists.{added_more, filter_seen_more}
use Rattle.wl_admission.proofs.token_file.push_words.Goals as goal

pub loop-piece-preserved : goal.loop-piece-preserved
loop-piece-preserved c =
    added_more _ _ _ _ _ _ c.in_ok-push_word.ensures c.loop-piece.invariant
    (filter_seen_more (λ p. p.now) (λ w. nat_lt 0 (length w)) c.args.pieces.now c.loop-piece.piece-index _
    c.loop-piece-test.true)
