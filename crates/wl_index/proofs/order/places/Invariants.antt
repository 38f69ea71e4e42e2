use Rattle.std.proofs.Common.{◌≡◌, ◌++◌}
use Rattle.wl_index.specs.inner.Order.{places_of}
use Rattle.wl_index.proofs.order.places.Given as goal

-- the places so far, and those of the requests that are left
abbrev pub invariant-loop-number : goal.invariant-loop-number
invariant-loop-number l = l.places.items ++ places_of l.number-iterator ≡ places_of l.requests.entries
