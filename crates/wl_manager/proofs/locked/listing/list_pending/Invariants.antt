use Rattle.std.proofs.Common.{◌≡◌, ◌++◌, map, drop}
use Rattle.wl_manager.specs.Listing.{as_listed, of_request}
use Rattle.wl_manager.proofs.locked.listing.list_pending.Given as goal

abbrev pub invariant-loop-request : goal.invariant-loop-request
invariant-loop-request l = map as_listed l.rows.items ++ map of_request (drop l.request-index l.pending)
    ≡ map of_request l.pending
