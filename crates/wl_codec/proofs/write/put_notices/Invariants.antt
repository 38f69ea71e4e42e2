use Rattle.std.proofs.Common.{◌≡◌, ◌++◌, take}
use Rattle.std.specs.List.{flat_map}
use Rattle.wl_codec.specs.Replies.{notice_value}
use Rattle.wl_codec.proofs.Pieces.{later_item}
use Rattle.wl_codec.proofs.write.put_notices.Given as goal

abbrev pub invariant-loop-notice : goal.invariant-loop-notice
invariant-loop-notice l = l.out ≡ l.initial.out ++ flat_map (later_item notice_value) (take l.notice-index l.rest)
