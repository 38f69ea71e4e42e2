-- Which place a connection has (own).
use Rattle.std.specs.Prelude.{Bool, true, false}
use Rattle.wl_admission.specs.declared.places.Source.{Source}
use Rattle.wl_loops.specs.declared.shared.Hold.{Hold}
use Rattle.wl_loops.specs.declared.shared.Hold.TheVariants.{Served, TurnedAway}

abbrev pub is_served : Hold → Bool
is_served (Served source) = true
is_served (TurnedAway source) = false

-- the address that it is counted for
abbrev pub source_of : Hold → Source
source_of (Served source) = source
source_of (TurnedAway source) = source
