-- What only the code of this crate says (own), beside `Locked`.
use Rattle.std.specs.Prelude.{ℕ, ◌+◌, length}
use Rattle.wl_machine.specs.State.{State}

-- the agents, signals and requests of a state
abbrev pub rows_of : State → ℕ
rows_of s = length s.agents + length s.signals + length s.held + length s.pending
