use Rattle.std.proofs.Common.{◌≡◌, ◌⊎◌, inl, inr, ap, ℕ, Result, Err}
use Rattle.std.proofs.KnownBytes.{Keeps-refl}
use Rattle.wl_server.specs.declared.fault.RelayFault.{RelayFault}
use Rattle.wl_server.specs.declared.fault.RelayFault.TheVariants.{Handshake, Memory}
use Rattle.wl_server.proofs.relaying.relay.Goals as goal

handed_on : (fault : RelayFault) → (fault ≡ Handshake) ⊎ (fault ≡ Memory)
    → (◌≡◌ {A = Result ℕ RelayFault} (Err fault) (Err Handshake))
    ⊎ (◌≡◌ {A = Result ℕ RelayFault} (Err fault) (Err Memory))
handed_on fault (inl is) = inl (ap Err is)
handed_on fault (inr is) = inr (ap Err is)

pub returns-in-Err : goal.returns-in-Err
returns-in-Err g c = inr (handed_on c.in-Err.fault c.in-Err.ensures, Keeps-refl _)

pub returns : goal.returns
returns g c = inl (c.in-Ok.caller, c.relay_lines-relayed.ensures)
