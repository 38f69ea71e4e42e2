-- How serving ends early (own).
use Rattle.std.specs.Prelude.{ℕ}
use Rattle.wl_server.specs.declared.fault.ListenFault.{ListenFault}
use Rattle.wl_server.specs.declared.fault.ListenFault.TheVariants.{Accept, Thread, Memory}

-- the connections that ended
abbrev pub ended : ListenFault → ℕ
ended (Accept n) = n
ended (Thread n) = n
ended (Memory n) = n
