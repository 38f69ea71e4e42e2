use Rattle.std.proofs.Common.{◌≡◌, take, map}
use Rattle.wl_admission.specs.Handshakes.{offers}
use Rattle.wl_admission.proofs.subprotocols.subprotocols.Given as goal

-- what the headers so far offer
abbrev pub invariant-loop-header : goal.invariant-loop-header
invariant-loop-header l = map (λ p. p.now) l.found.items ≡ offers (map (λ h. h.now) (take l.header-index l.headers))
