use Rattle.std.proofs.Common.{◌≡◌}
use Rattle.std.specs.Prelude.{filter}
use Rattle.std.specs.Option.{option_copied}
use Rattle.wl_service.specs.Listing.{first_of, is_asked, left_after}
use Rattle.wl_service.proofs.directory.Directory.next.Given as goal

abbrev pub invariant-loop-key : goal.invariant-loop-key
invariant-loop-key l = first_of (filter (λ e. is_asked (option_copied l.only) e.0) l.key-iterator)
    ≡ first_of (left_after (option_copied l.after) (option_copied l.only) l.self.managers.entries)
