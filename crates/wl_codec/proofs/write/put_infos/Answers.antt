use Rattle.std.proofs.Common.{◌∙◌, ◌++◌, ◌∷◌, [], ap}
use Rattle.wl_codec.specs.Replies.{info_value}
use Rattle.wl_codec.proofs.Pieces.{more_items, array_made, all_taken}
use Rattle.wl_codec.proofs.write.put_infos.Goals as goal

pub loop-info-preserved : goal.loop-info-preserved
loop-info-preserved c =
    more_items info_value _ _ _ _ _ c.info-item.result c.info-item.result c.loop-info-test.true c.info-item.is
    (c.in_ok-piece-2.ensures ∙ ap (λ s. s ++ 44 ∷ []) c.loop-info.invariant) c.in_ok-put_info-2.ensures

pub returns : goal.returns
returns c =
    array_made c.piece-3.result info_value _ _ _ _ _ _ _ _ c.in-Some.ensures.cases.0 c.in_ok-piece.ensures
    c.in_ok-put_info.ensures
    (all_taken info_value _ _ _ _ c.loop-info-test.false c.loop-info.invariant) c.piece-3.ensures
