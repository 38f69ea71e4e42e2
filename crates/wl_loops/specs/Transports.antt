-- What carries the messages of a connection (own).
use Rattle.std.specs.Prelude.{ℕ, ◌-◌, Bool, true, false}
use Rattle.wl_loops.specs.declared.transport.Transport.{Transport}
use Rattle.wl_loops.specs.declared.transport.Transport.TheVariants.{Tcp, Unix}

-- Whether the peer is of this machine's file system.
abbrev pub is_local : Transport → Bool
is_local (Tcp stream) = false
is_local (Unix stream) = true

-- the token of the listener of a place: one below the other, from the one below the waker's on
abbrev pub token_of : ℕ → ℕ
token_of place = 18446744073709551614 - place
