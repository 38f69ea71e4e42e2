use Rattle.std.proofs.Common.{refl}
use Rattle.wl_codec.proofs.Pieces.{five_made, answer_made, error_text}
use Rattle.wl_codec.proofs.write.put_reply.Goals as goal

pub returns-in-Some : goal.returns-in-Some
returns-in-Some c =
    five_made c.piece-in-Some-2.result _ _ _ _ _ _ _ _ _ _ _ _ c.in_ok-piece.ensures c.in_ok-put_error.ensures
    c.in_ok-piece-2.ensures c.in_ok-put_id_and_notices.ensures
    (error_text c.args.reply.now _ c.in-Some.ensures) c.piece-in-Some-2.ensures

pub returns : goal.returns
returns c =
    answer_made c.piece-4.result _ _ _ _ _ _ c.args.reply.now _ refl c.in_default.ensures c.in_ok-piece-3.ensures
    c.in_ok-put_id_and_notices-2.ensures c.in_ok-piece-4.ensures c.in_ok-put_answer.ensures
    c.piece-4.ensures
