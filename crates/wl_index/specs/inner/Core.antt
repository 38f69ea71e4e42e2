-- What an indexed core is, and what it keeps (own).
use Rattle.std.specs.Prelude.{ℕ, ◌≤◌, length}
use Rattle.wl_machine.specs.State.{State}
use Rattle.wl_index.specs.inner.Lists.{IsGrouped}
use Rattle.wl_index.specs.inner.Locks.{Board, IsQuiet}
use Rattle.wl_index.specs.inner.AgentRows.{Register, AgentRows}
use Rattle.wl_index.specs.inner.Rows.{held_of, pending_of, tags_of}

-- the machine's state
abbrev pub machine_state : AgentRows → Board → State
machine_state agent_index board = record {
  agents = agent_index.agents;
  signals = agent_index.signals;
  names = board.names;
  held = held_of board.entries;
  pending = pending_of board.entries;
  next = record { agent = agent_index.next_agent; request = board.next; signal = agent_index.next_signal };
}

-- nothing is left to grant, each live request is on the lists of its agent, and there is room for the places of all
pub record IsCore (agents : Register) (board : Board) (ending : ℕ) : Type 0 where
  pub quiet : IsQuiet (held_of board.entries) (pending_of board.entries)
  pub grouped : IsGrouped (tags_of board.entries) agents.members
  pub ending_room : length board.entries ≤ ending
