use Rattle.std.proofs.Common.{◌≡◌, ◌++◌, take}
use Rattle.std.specs.List.{flat_map}
use Rattle.wl_codec.specs.Replies.{info_value}
use Rattle.wl_codec.proofs.Pieces.{later_item}
use Rattle.wl_codec.proofs.write.put_infos.Given as goal

abbrev pub invariant-loop-info : goal.invariant-loop-info
invariant-loop-info l = l.out ≡ l.initial.out ++ flat_map (later_item info_value) (take l.info-index l.rest)
