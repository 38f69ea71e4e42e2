use Rattle.std.proofs.Common.{◌≡◌, ◌+◌, ◌<◌, length}
use Rattle.std.specs.Prelude.{filter, ◌^◌}
use Rattle.std.specs.Option.{option_copied}
use Rattle.wl_service.specs.Listing.{is_asked, left_after}
use Rattle.wl_service.proofs.directory.Directory.count_left.Given as goal

abbrev pub invariant-loop-key : goal.invariant-loop-key
invariant-loop-key l = (l.count + length (filter (λ e. is_asked (option_copied l.only) e.0) l.key-iterator)
    ≡ length (left_after (option_copied l.after) (option_copied l.only) l.self.managers.entries))
    × (l.count + length l.key-iterator < 2 ^ 63)
