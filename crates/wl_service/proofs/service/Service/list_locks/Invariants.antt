use Rattle.std.proofs.Common.{◌≡◌, ◌+◌, length}
use Rattle.std.specs.Prelude.{None}
use Rattle.std.specs.Option.{option_copied}
use Rattle.wl_service.specs.Listing.{AreInTurn, rows_in}
use Rattle.wl_service.proofs.InTurn.{last_key}
use Rattle.wl_service.proofs.service.Service.list_locks.Given as goal

abbrev pub invariant-loop-taken : goal.invariant-loop-taken
invariant-loop-taken g l = (l.after ≡ last_key None l.managers.items)
    × AreInTurn None (option_copied l.only) l.managers.items × (option_copied l.only ≡ None
    → rows_in l.managers.items + l.room ≡ 10000) × (length l.managers.items ≡ l.taken)
