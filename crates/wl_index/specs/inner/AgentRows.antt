-- The agents by number, and their signals by number (own).
use Rattle.std.specs.Prelude.{◌≡◌, ℕ, ◌==◌, ◌<◌, Bool, false, Option, Some, None, List, map, if◌then◌else◌}
use Rattle.std.specs.List.{AllByRecursion}
use Rattle.std.specs.List.Sorted.{IsStrictlySortedBy}
use Rattle.std.specs.Map.{keys_of}
use Rattle.std.specs.Ordering.{nat_cmp}
use Rattle.wl_types.specs.declared.words.Reason.{Reason}
use Rattle.wl_machine.specs.declared.rows.AgentRow.{AgentRow}
use Rattle.wl_machine.specs.declared.rows.SignalRow.{SignalRow}
use Rattle.wl_machine.specs.Refusals.{signals_of}
use Rattle.wl_index.specs.declared.agent.Agent.{Agent}
use Rattle.wl_index.specs.declared.agent.Signal.{Signal}

-- the machine's agents and signals, and the numbers that are given next
pub record AgentRows : Type 0 where
  pub agents : List AgentRow
  pub signals : List SignalRow
  pub next_agent : ℕ
  pub next_signal : ℕ

-- these, and the live agents with their lists
pub record Register : Type 0 where
  pub rows : AgentRows
  pub members : List (ℕ × Agent)

abbrev pub agent_row : ℕ × Agent → AgentRow
agent_row e = record { number = e.0; kind = e.1.kind; active = e.1.active }

abbrev pub signal_row : ℕ × Signal → SignalRow
signal_row e = record { agent = e.1.agent; number = e.0; reason = e.1.reason }

-- an agent's signals, by number
abbrev pub made_by : ℕ → List (ℕ × Signal) → List ℕ
made_by agent signals = map (λ row. row.number) (signals_of agent (map signal_row signals))

-- numbers rise, and are below the next ones; each agent has the list of its signals
pub record IsAgentIndex (members : List (ℕ × Agent)) (signals : List (ℕ × Signal)) (next_agent next_signal : ℕ) : Type 0
  where
    pub members_ordered : IsStrictlySortedBy nat_cmp (keys_of members)
    pub signals_ordered : IsStrictlySortedBy nat_cmp (keys_of signals)
    pub members_below : AllByRecursion (λ e. e.0 < next_agent) members
    pub signals_below : AllByRecursion (λ e. e.0 < next_signal) signals
    pub owners_below : AllByRecursion (λ e. e.1.agent < next_agent) signals
    pub listed : AllByRecursion (λ e. keys_of e.1.signals.entries ≡ made_by e.0 signals) members

-- what is said of the value, if there is one
abbrev pub at_some : {X : Type 0} → (X → Bool) → Option X → Bool
at_some q None = false
at_some q (Some x) = q x

-- the reason of the agent's signal
abbrev pub reason_at : ℕ → Option Signal → Option Reason
reason_at agent None = None
reason_at agent (Some s) = if s.agent == agent then s.reason else None

-- a signal with a reason, if it is the agent's
abbrev pub aborted : ℕ → Reason → Signal → Signal
aborted agent reason s = if s.agent == agent then record s { reason = Some reason } else s
