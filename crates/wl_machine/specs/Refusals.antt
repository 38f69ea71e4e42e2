-- Why a command is refused. The checks of a request for a fully active window, a reserved name, options that exclude
-- each other and an aborted signal are those of Web Locks, `request()`; all others, and the order, are (own).
use Rattle.std.specs.Prelude.{ℕ, Bool, true, false, not, ◌&&◌, ◌==◌, nat_le, ◌+◌, List, [], ◌∷◌, length, filter}
use Rattle.std.specs.Prelude.{if◌then◌else◌, Option, Some, None, Result, Ok, Err}
use Rattle.std.specs.List.{list_any}
use Rattle.wl_types.specs.Names.{is_long}
use Rattle.wl_types.specs.Asks.{ask_refusal}
use Rattle.wl_types.specs.Refusals.{refuse_if, first_refusal}
use Rattle.wl_types.specs.declared.words.Kind.{Kind}
use Rattle.wl_types.specs.declared.words.Kind.TheVariants.{Window, Worker}
use Rattle.wl_types.specs.declared.words.Reason.{Reason}
use Rattle.wl_types.specs.declared.refusal.Refusal.{Refusal}
use Rattle.wl_types.specs.declared.refusal.Refusal.TheVariants.{InvalidState, Security, SignalAborted, NameTooLong}
use Rattle.wl_types.specs.declared.refusal.Refusal.TheVariants.{NoSuchSignal, TooManyRequests, TooManySignals}
use Rattle.wl_types.specs.declared.refusal.Refusal.TheVariants.{TooManyAgents, NumbersSpent, NoSuchAgent, NotAWindow}
use Rattle.wl_types.specs.declared.ask.Ask.{Ask}
use Rattle.wl_machine.specs.declared.rows.SignalRow.{SignalRow}
use Rattle.wl_machine.specs.declared.command.Command.{Command}
use Rattle.wl_machine.specs.declared.command.Command.TheVariants.{Enter, SetActive, NewSignal, Request, Take, Release}
use Rattle.wl_machine.specs.declared.command.Command.TheVariants.{Abort, Terminate, Query}
use Rattle.wl_machine.specs.State.{State}

-- whether the agent is live
abbrev pub has_agent : State → ℕ → Bool
has_agent s agent = list_any (λ row. row.number == agent) s.agents

abbrev pub is_window : Kind → Bool
is_window Window = true
is_window Worker = false

-- What `request` and `query` are refused where an origin is opaque: Storage's "obtain a local storage bottle map"
-- fails, which is a SecurityError, but a document that isn't fully active gets its InvalidStateError first (Web Locks).
abbrev pub no_storage : Kind → Bool → Refusal
no_storage kind active = if is_window kind && not active then InvalidState else Security

-- what making an agent of an opaque origin active or inactive is answered
abbrev pub activity : Kind → Result Unit Refusal
activity kind = if is_window kind then Ok tt else Err NotAWindow

-- whether the agent is a window made inactive
abbrev pub is_inactive : State → ℕ → Bool
is_inactive s agent = list_any (λ row. row.number == agent && is_window row.kind && not row.active) s.agents

abbrev pub is_worker : State → ℕ → Bool
is_worker s agent = list_any (λ row. row.number == agent && not (is_window row.kind)) s.agents

-- whether the agent has made the signal
abbrev pub has_signal : State → ℕ → ℕ → Bool
has_signal s agent signal = list_any (λ row. row.agent == agent && row.number == signal) s.signals

-- the reason of an aborted signal
abbrev pub reason_in : List SignalRow → ℕ → ℕ → Option Reason
reason_in [] agent signal = None
reason_in (row ∷ rows) agent signal =
    if row.agent == agent && row.number == signal then row.reason else reason_in rows agent signal

abbrev pub aborted_refusal : Option Reason → Option Refusal
aborted_refusal None = None
aborted_refusal (Some reason) = Some (SignalAborted reason)

-- of a request that names no signal, nothing is refused for a signal
abbrev pub unknown_signal : State → ℕ → Option ℕ → Option Refusal
unknown_signal s agent None = None
unknown_signal s agent (Some signal) = refuse_if (not (has_signal s agent signal)) NoSuchSignal

abbrev pub aborted_signal : State → ℕ → Option ℕ → Option Refusal
aborted_signal s agent None = None
aborted_signal s agent (Some signal) = aborted_refusal (reason_in s.signals agent signal)

abbrev pub signals_of : ℕ → List SignalRow → List SignalRow
signals_of agent signals = filter (λ row. row.agent == agent) signals

-- numbers are below 2 ^ 53
abbrev pub is_spent : ℕ → Bool
is_spent next = nat_le 9007199254740992 next

-- the requests that are live
abbrev pub live_count : State → ℕ
live_count s = length s.held + length s.pending

abbrev pub known_agent : State → ℕ → Option Refusal
known_agent s agent = refuse_if (not (has_agent s agent)) NoSuchAgent

abbrev pub request_refusals : State → ℕ → Ask → List (Option Refusal)
request_refusals s agent ask =
    known_agent s agent
    ∷ refuse_if (is_inactive s agent) InvalidState
    ∷ ask_refusal ask
    ∷ unknown_signal s agent ask.signal
    ∷ aborted_signal s agent ask.signal
    ∷ refuse_if (is_long ask.name) NameTooLong
    ∷ refuse_if (nat_le 65536 (live_count s)) TooManyRequests
    ∷ refuse_if (is_spent s.next.request) NumbersSpent
    ∷ []

-- the refusals of each command, in their order
abbrev pub refusals : State → Command → List (Option Refusal)
refusals s (Enter kind) = refuse_if (nat_le 4096 (length s.agents)) TooManyAgents
    ∷ refuse_if (is_spent s.next.agent) NumbersSpent ∷ []
refusals s (SetActive agent active) = known_agent s agent ∷ refuse_if (is_worker s agent) NotAWindow ∷ []
refusals s (NewSignal agent) =
    known_agent s agent ∷ refuse_if (nat_le 1024 (length (signals_of agent s.signals))) TooManySignals
    ∷ refuse_if (is_spent s.next.signal) NumbersSpent ∷ []
refusals s (Request agent ask) = request_refusals s agent ask
refusals s (Take id) = []
refusals s (Release agent id) = []
refusals s (Abort agent signal reason) = known_agent s agent ∷ refuse_if (not (has_signal s agent signal)) NoSuchSignal
    ∷ []
refusals s (Terminate agent) = known_agent s agent ∷ []
refusals s (Query agent) = known_agent s agent ∷ refuse_if (is_inactive s agent) InvalidState ∷ []

-- the first refusal that applies, memory aside
abbrev pub refusal : State → Command → Option Refusal
refusal s command = first_refusal (refusals s command)
