-- What the peer of a connection may open (own).
use Rattle.std.specs.Prelude.{ℕ, List, Bool, true, Option, Ok, Err, Result}
use Rattle.wl_origin.specs.Origin.{Tuple}
use Rattle.wl_origin.specs.Standing.{standing_of}
use Rattle.wl_origin.specs.declared.standing.KeyFault.{KeyFault}
use Rattle.wl_admission.specs.Handshakes.{Terms, may_open}

-- a text that is no URL is for nobody, which the service tells
abbrev pub may_ask : Terms → Result (Option Tuple) KeyFault → Bool
may_ask terms (Ok origin) = may_open terms origin
may_ask terms (Err fault) = true

-- whether a peer that was admitted by these terms may ask for a URL
abbrev pub may_ask_for : Terms → List ℕ → Bool
may_ask_for terms url = may_ask terms (standing_of url)
