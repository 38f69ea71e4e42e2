-- One command: the state, the reply and the changes that it gives. Changes are the ends, in the order of the lists, and
-- then the grants, in the order in which the queues are processed.
use Rattle.std.specs.Prelude.{◌≡◌, ℕ, Bool, true, false, not, ◌&&◌, ◌||◌, ◌==◌, ◌+◌, List, [], ◌∷◌, ◌++◌, map, filter}
use Rattle.std.specs.Prelude.{is_some, if◌then◌else◌, Option, Some, None}
use Rattle.std.specs.List.{list_any, flat_map}
use Rattle.std.specs.Str.{bytes_eq}
use Rattle.wl_types.specs.declared.words.Kind.{Kind}
use Rattle.wl_types.specs.declared.words.Reason.{Reason}
use Rattle.wl_types.specs.declared.words.Reason.TheVariants.{AbortError}
use Rattle.wl_types.specs.declared.phases.Phase.{Phase}
use Rattle.wl_types.specs.declared.phases.Phase.TheVariants.{Unavailable, Aborted, Released, Stolen}
use Rattle.wl_types.specs.declared.phases.Change.{Change}
use Rattle.wl_types.specs.declared.refusal.Refusal.{Refusal}
use Rattle.wl_types.specs.declared.ask.Ask.{Ask}
use Rattle.wl_types.specs.declared.infos.LockInfo.{LockInfo}
use Rattle.wl_types.specs.declared.infos.Snapshot.{Snapshot}
use Rattle.wl_machine.specs.declared.rows.AgentRow.{AgentRow}
use Rattle.wl_machine.specs.declared.rows.SignalRow.{SignalRow}
use Rattle.wl_machine.specs.declared.rows.HeldRow.{HeldRow}
use Rattle.wl_machine.specs.declared.rows.PendingRow.{PendingRow}
use Rattle.wl_machine.specs.declared.command.Command.{Command}
use Rattle.wl_machine.specs.declared.command.Command.TheVariants.{Enter, SetActive, NewSignal, Request, Take, Release}
use Rattle.wl_machine.specs.declared.command.Command.TheVariants.{Abort, Terminate, Query}
use Rattle.wl_machine.specs.declared.command.Reply.{Reply}
use Rattle.wl_machine.specs.declared.command.Reply.TheVariants as reply
use Rattle.wl_types.specs.declared.answers.TakeAnswer.TheVariants as take_answer
use Rattle.wl_types.specs.declared.answers.ReleaseAnswer.TheVariants as release_answer
use Rattle.wl_types.specs.declared.answers.AbortAnswer.TheVariants as abort_answer
use Rattle.wl_machine.specs.State.{State}
use Rattle.wl_machine.specs.Grants.{is_empty, grants, locks, queue, process_queues, in_use}
use Rattle.wl_machine.specs.Refusals.{refusal, reason_in}

pub record StepResult : Type 0 where
  pub state : State
  pub reply : Reply
  pub changes : List Change

-- nothing changes
abbrev pub no_changes : State → Reply → StepResult
no_changes s reply = record { state = s; reply = reply; changes = [] }

-- Web Locks, "process the lock request queue": the queues of all names are processed, after these ends. Then each name
-- that is out of use leaves (own: the standard keeps empty queues)
abbrev pub after_processing : State → List Change → Reply → StepResult
after_processing s ends reply =
    let lists = process_queues (record { held = s.held; pending = s.pending; changes = ends }) s.names in
    record {
      state = record s {
        names = filter (in_use lists.held lists.pending) s.names;
        held = lists.held;
        pending = lists.pending;
      };
      reply = reply;
      changes = lists.changes;
    }

-- the ends of locks and of requests
abbrev pub lock_ends : Phase → List HeldRow → List Change
lock_ends phase held = map (λ lock. record { id = lock.number; phase = phase }) held

abbrev pub request_ends : Phase → List PendingRow → List Change
request_ends phase pending = map (λ request. record { id = request.number; phase = phase }) pending

-- a name comes into use at the end, if it is not there
abbrev pub with_name : List ℕ → List (List ℕ) → List (List ℕ)
with_name name names = if list_any (λ other. bytes_eq other name) names then names else names ++ name ∷ []

abbrev pub new_request : State → ℕ → Ask → PendingRow
new_request s agent ask = record {
  number = s.next.request;
  agent = agent;
  name = ask.name;
  mode = ask.mode;
  signal = ask.signal;
}

-- Web Locks, "request a lock". An accepted request uses up the next number (own)
abbrev pub with_number_used : State → State
with_number_used s = record s { next = record s.next { request = s.next.request + 1 } }

-- whether the request could be granted at once; one that asks with ifAvailable stands in no queue, so any queued
-- request of its name is in its way
abbrev pub available : State → PendingRow → Bool
available s request = is_empty (queue request.name s.pending)
    && not (is_empty (grants (locks request.name s.held) (request ∷ [])))

-- the request comes to the end of its queue
abbrev pub enqueue : State → PendingRow → State
enqueue s request = record (with_number_used s) {
  names = with_name request.name s.names;
  pending = s.pending ++ request ∷ [];
}

abbrev pub plain_request : State → PendingRow → StepResult
plain_request s request = after_processing (enqueue s request) [] (reply.Request request.number)

-- with ifAvailable, and not to be granted at once: nothing else happens
abbrev pub unavailable : State → PendingRow → StepResult
unavailable s request = record {
  state = with_number_used s;
  reply = reply.Request request.number;
  changes = record { id = request.number; phase = Unavailable } ∷ [];
}

-- with steal, the locks of the name are gone, and the request comes to the front of its queue
abbrev pub steal_locks : State → PendingRow → State
steal_locks s request = record (with_number_used s) {
  names = with_name request.name s.names;
  held = filter (λ lock. not (bytes_eq lock.name request.name)) s.held;
  pending = request ∷ s.pending;
}

abbrev pub stealing_request : State → PendingRow → StepResult
stealing_request s request =
    after_processing (steal_locks s request) (lock_ends Stolen (locks request.name s.held))
    (reply.Request request.number)

abbrev pub request_step : State → ℕ → Ask → StepResult
request_step s agent ask =
    let request = new_request s agent ask in
    if ask.steal then stealing_request s request
    else (if ask.if_available && not (available s request) then unavailable s request else plain_request s request)

-- Web Locks, "release a lock": the agent's lock of that number, taken or not
abbrev pub is_lock_of : ℕ → ℕ → HeldRow → Bool
is_lock_of agent id lock = lock.number == id && lock.agent == agent

abbrev pub without_lock : State → ℕ → ℕ → State
without_lock s agent id = record s { held = filter (λ lock. not (is_lock_of agent id lock)) s.held }

abbrev pub release_step : State → ℕ → ℕ → StepResult
release_step s agent id =
    if list_any (is_lock_of agent id) s.held
    then after_processing (without_lock s agent id) (lock_ends Released (filter (is_lock_of agent id) s.held))
    (reply.Released release_answer.Released)
    else no_changes s (reply.Released release_answer.NotHeld)

-- a lock is taken when its agent is told of the grant: Web Locks, "process the lock request queue", where the callback
-- starts. That this is an event of its own is (own)
abbrev pub is_untaken : ℕ → HeldRow → Bool
is_untaken id lock = lock.number == id && not lock.taken

abbrev pub with_taken : ℕ → HeldRow → HeldRow
with_taken id lock = record lock { taken = lock.taken || lock.number == id }

abbrev pub take_step : State → ℕ → StepResult
take_step s id =
    if list_any (is_untaken id) s.held
    then no_changes (record s { held = map (with_taken id) s.held }) (reply.Took take_answer.Taken)
    else no_changes s (reply.Took take_answer.NotGranted)

abbrev pub is_signal : ℕ → Option ℕ → Bool
is_signal signal None = false
is_signal signal (Some other) = other == signal

-- DOM, "signal abort", with Web Locks, "abort the request". That it ends locks too whose agent wasn't told is (own)
abbrev pub is_waiting_on : ℕ → ℕ → PendingRow → Bool
is_waiting_on agent signal request = request.agent == agent && is_signal signal request.signal

abbrev pub is_abortable : ℕ → ℕ → HeldRow → Bool
is_abortable agent signal lock = lock.agent == agent && is_signal signal lock.signal && not lock.taken

-- the numbers of the locks that an abort of the signal would end, in held order
abbrev pub untaken_numbers : State → ℕ → ℕ → List ℕ
untaken_numbers s agent signal = map (λ lock. lock.number) (filter (is_abortable agent signal) s.held)

abbrev pub with_reason : ℕ → ℕ → Reason → SignalRow → SignalRow
with_reason agent signal reason row =
    if row.agent == agent && row.number == signal then record row { reason = Some reason } else row

-- the signal has its reason; its requests, and its locks that were not taken, are gone
abbrev pub with_aborted : State → ℕ → ℕ → Reason → State
with_aborted s agent signal reason = record s {
  signals = map (with_reason agent signal reason) s.signals;
  held = filter (λ lock. not (is_abortable agent signal lock)) s.held;
  pending = filter (λ request. not (is_waiting_on agent signal request)) s.pending;
}

-- those requests, then those locks
abbrev pub abort_ends : State → ℕ → ℕ → Reason → List Change
abort_ends s agent signal reason =
    request_ends (Aborted reason) (filter (is_waiting_on agent signal) s.pending)
    ++ lock_ends (Aborted reason) (filter (is_abortable agent signal) s.held)

abbrev pub abort_step : State → ℕ → ℕ → Reason → StepResult
abort_step s agent signal reason =
    if is_some (reason_in s.signals agent signal)
    then no_changes s (reply.Aborted abort_answer.AlreadyAborted)
    else after_processing (with_aborted s agent signal reason) (abort_ends s agent signal reason)
    (reply.Aborted abort_answer.Done)

-- Web Locks, "agent termination": the agent, its signals, requests and locks are gone. The reason that its requests get
-- is (own)
abbrev pub without_agent : State → ℕ → State
without_agent s agent = record s {
  agents = filter (λ row. not (row.number == agent)) s.agents;
  signals = filter (λ row. not (row.agent == agent)) s.signals;
  held = filter (λ lock. not (lock.agent == agent)) s.held;
  pending = filter (λ request. not (request.agent == agent)) s.pending;
}

abbrev pub terminate_ends : State → ℕ → List Change
terminate_ends s agent =
    request_ends (Aborted AbortError) (filter (λ request. request.agent == agent) s.pending)
    ++ lock_ends Released (filter (λ lock. lock.agent == agent) s.held)

abbrev pub terminate_step : State → ℕ → StepResult
terminate_step s agent = after_processing (without_agent s agent) (terminate_ends s agent) reply.Done

-- Web Locks, "snapshot the lock state": the locks in the order of their grants, and queue after queue
abbrev pub lock_info : HeldRow → LockInfo
lock_info lock = record { name = lock.name; mode = lock.mode; client = lock.agent }

abbrev pub request_info : PendingRow → LockInfo
request_info request = record { name = request.name; mode = request.mode; client = request.agent }

abbrev pub snapshot_of : State → Snapshot
snapshot_of s = record {
  held = map lock_info s.held;
  pending = flat_map (λ name. map request_info (queue name s.pending)) s.names;
}

-- an agent opens, makes a signal, or is made active or inactive (own)
abbrev pub open_step : State → Kind → StepResult
open_step s kind =
    no_changes (record s {
      agents = s.agents ++ record { number = s.next.agent; kind = kind; active = true } ∷ [];
      next = record s.next { agent = s.next.agent + 1 };
    }) (reply.Agent s.next.agent)

abbrev pub signal_step : State → ℕ → StepResult
signal_step s agent =
    no_changes (record s {
      signals = s.signals ++ record { agent = agent; number = s.next.signal; reason = None } ∷ [];
      next = record s.next { signal = s.next.signal + 1 };
    }) (reply.Signal s.next.signal)

abbrev pub with_active : ℕ → Bool → AgentRow → AgentRow
with_active agent active row = if row.number == agent then record row { active = active } else row

abbrev pub active_step : State → ℕ → Bool → StepResult
active_step s agent active =
    no_changes (record s { agents = map (with_active agent active) s.agents }) reply.Done

-- a command that nothing refuses
abbrev pub accepted : State → Command → StepResult
accepted s (Enter kind) = open_step s kind
accepted s (SetActive agent active) = active_step s agent active
accepted s (NewSignal agent) = signal_step s agent
accepted s (Request agent ask) = request_step s agent ask
accepted s (Take id) = take_step s id
accepted s (Release agent id) = release_step s agent id
accepted s (Abort agent signal reason) = abort_step s agent signal reason
accepted s (Terminate agent) = terminate_step s agent
accepted s (Query agent) = no_changes s (reply.Seen (snapshot_of s))

-- a refusal changes nothing
abbrev pub unless_refused : Option Refusal → State → Command → StepResult
unless_refused None s command = accepted s command
unless_refused (Some refusal) s command = no_changes s (reply.Refused refusal)

abbrev pub step : State → Command → StepResult
step s command = unless_refused (refusal s command) s command

-- the replies to a list of commands, and the state after it
abbrev pub replies_of : List Command → State → List Reply
replies_of [] s = []
replies_of (command ∷ commands) s = (step s command).reply ∷ replies_of commands (step s command).state

abbrev pub state_after : List Command → State → State
state_after [] s = s
state_after (command ∷ commands) s = state_after commands (step s command).state

-- from the old state, the command gives this state, reply and changes
abbrev pub Gives : State → Command → State → Reply → List Change → Type 0
Gives old command new reply changes = step old command ≡ record { state = new; reply = reply; changes = changes }
