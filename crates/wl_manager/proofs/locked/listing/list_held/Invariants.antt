use Rattle.std.proofs.Common.{◌≡◌, ◌++◌, map, drop}
use Rattle.wl_manager.specs.Listing.{as_listed, of_lock}
use Rattle.wl_manager.proofs.locked.listing.list_held.Given as goal

abbrev pub invariant-loop-lock : goal.invariant-loop-lock
invariant-loop-lock l = map as_listed l.rows.items ++ map of_lock (drop l.lock-index l.held) ≡ map of_lock l.held
