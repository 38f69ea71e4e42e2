use Rattle.wl_codec.proofs.Pieces.{five_made, snapshot_text}
use Rattle.wl_codec.proofs.write.put_snapshot.Goals as goal

pub returns : goal.returns
returns c =
    five_made c.piece-3.result _ _ _ _ _ _ _ _ _ _ _ _ c.in_ok-piece.ensures c.in_ok-put_infos.ensures
    c.in_ok-piece-2.ensures c.in_ok-put_infos-2.ensures
    (snapshot_text c.args.snapshot.now c.as_slice.result.now c.as_slice-2.result.now c.as_slice.ensures
    c.as_slice-2.ensures) c.piece-3.ensures
