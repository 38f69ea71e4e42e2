-- The state of a lock manager: Web Locks, "lock manager", "held lock set" and "lock request queue map"; Storage, for
-- its being one to each bucket of an origin. Agents, signals and their numbers are (own).
use Rattle.std.specs.Prelude.{ℕ, List, [], ◌≤◌}
use Rattle.wl_types.specs.declared.phases.Numbers.{Numbers}
use Rattle.wl_types.specs.declared.phases.Change.{Change}
use Rattle.wl_machine.specs.declared.rows.AgentRow.{AgentRow}
use Rattle.wl_machine.specs.declared.rows.SignalRow.{SignalRow}
use Rattle.wl_machine.specs.declared.rows.HeldRow.{HeldRow}
use Rattle.wl_machine.specs.declared.rows.PendingRow.{PendingRow}

-- held: the locks of all names, in grant order. pending: the requests of all names, each name's in queue order.
-- names: the names in use, in the order in which they came into use. next: the numbers to be given next
pub record State : Type 0 where
  pub agents : List AgentRow
  pub signals : List SignalRow
  pub names : List (List ℕ)
  pub held : List HeldRow
  pub pending : List PendingRow
  pub next : Numbers

abbrev pub opening : Numbers → State
opening next = record { agents = []; signals = []; names = []; held = []; pending = []; next = next }

-- what a core contains: its state, and the changes of its last call
pub record Content : Type 0 where
  pub state : State
  pub recent : List Change

-- numbers to be given next are 1 to 2 ^ 53 (own)
pub record AreNumbers (next : Numbers) : Type 0 where
  pub agent_low : 1 ≤ next.agent
  pub agent_high : next.agent ≤ 9007199254740992
  pub request_low : 1 ≤ next.request
  pub request_high : next.request ≤ 9007199254740992
  pub signal_low : 1 ≤ next.signal
  pub signal_high : next.signal ≤ 9007199254740992
