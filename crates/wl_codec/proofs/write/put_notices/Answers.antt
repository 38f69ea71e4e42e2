use Rattle.std.proofs.Common.{All, subst}
use Rattle.std.proofs.lemmas.List.Elements.{All-get_or, All-tail}
use Rattle.wl_codec.specs.Replies.{notice_value, IsReported}
use Rattle.wl_codec.specs.declared.reply.Notice.{Notice}
use Rattle.wl_codec.proofs.Pieces.{array_made, all_taken}
use Rattle.wl_codec.proofs.write.put_notices.Goals as goal

pub put_notice-requires-in-loop-notice : goal.put_notice-requires-in-loop-notice
put_notice-requires-in-loop-notice c =
    let told = subst (All (λ (n : Notice). IsReported n.phase)) c.in-Some.ensures.cases.0 c.requires in
    All-get_or (λ (n : Notice). IsReported n.phase) c.in-Some.rest.now c.loop-notice.notice-index _
    c.loop-notice-test.true (All-tail (λ (n : Notice). IsReported n.phase) c.in-Some.first.now c.in-Some.rest.now
    told)

pub returns : goal.returns
returns c =
    array_made c.piece-3.result notice_value _ _ _ _ _ _ _ _ c.in-Some.ensures.cases.0 c.in_ok-piece.ensures
    c.in_ok-put_notice.ensures
    (all_taken notice_value _ _ _ _ c.loop-notice-test.false c.loop-notice.invariant) c.piece-3.ensures
