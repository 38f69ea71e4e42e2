use Rattle.std.proofs.Common.{◌≡◌, take, false}
use Rattle.std.specs.List.{All}
use Rattle.wl_admission.specs.Loopback.{IsOfThisMachine}
use Rattle.wl_daemon.proofs.entry.check_addresses.Given as goal

-- the addresses so far are of this machine, where that is wanted
abbrev pub invariant-loop-address : goal.invariant-loop-address
invariant-loop-address l = l.is_open ≡ false → l.has_tokens ≡ false
    → All IsOfThisMachine (take l.address-index l.addresses)
