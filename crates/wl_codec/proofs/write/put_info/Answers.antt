use Rattle.wl_codec.proofs.Pieces.{five_made, info_text}
use Rattle.wl_codec.proofs.write.put_info.Goals as goal

pub returns : goal.returns
returns c =
    five_made c.put_last_string.result _ _ _ _ _ _ _ _ _ _ _ _ c.in_ok-piece.ensures c.in_ok-client.ensures
    c.in_ok-piece-2.ensures c.in_ok-string.ensures
    (info_text c.args.info.now c.word.result.now c.as_str.result.now c.word.ensures c.as_str.ensures)
    c.put_last_string.ensures
