-- What an event that processes the queues leaves, as the machine's step.
use Rattle.std.proofs.Common.{◌≡◌, ℕ, List, [], ◌∷◌, ◌++◌, refl, true, false, ◌&&◌, map, Bool, ◌==◌, ◌+◌}
use Rattle.std.specs.Prelude.{filter, not, is_some, None, if◌then◌else◌}
use Rattle.std.specs.Str.{bytes_eq}
use Rattle.wl_types.specs.declared.words.Reason.{Reason}
use Rattle.wl_types.specs.declared.words.Reason.TheVariants.{AbortError}
use Rattle.wl_types.specs.declared.phases.Phase.TheVariants.{Aborted, Released, Stolen}
use Rattle.wl_types.specs.declared.phases.Change.{Change}
use Rattle.wl_types.specs.declared.answers.AbortAnswer.TheVariants as abort_answer
use Rattle.wl_types.specs.declared.ask.Ask.{Ask}
use Rattle.wl_machine.specs.declared.rows.AgentRow.{AgentRow}
use Rattle.wl_machine.specs.declared.rows.SignalRow.{SignalRow}
use Rattle.wl_machine.specs.declared.rows.HeldRow.{HeldRow}
use Rattle.wl_machine.specs.declared.rows.PendingRow.{PendingRow}
use Rattle.wl_machine.specs.declared.command.Command.TheVariants as command
use Rattle.wl_machine.specs.declared.command.Reply.{Reply}
use Rattle.wl_machine.specs.declared.command.Reply.TheVariants as reply
use Rattle.wl_machine.specs.State.{State}
use Rattle.wl_machine.specs.Grants.{lists_of, process_queues, in_use, locks}
use Rattle.wl_machine.specs.Refusals.{reason_in, refusal}
use Rattle.wl_machine.specs.Step.{after_processing, Gives, is_waiting_on, is_abortable, request_ends, lock_ends}
use Rattle.wl_machine.specs.Step.{with_reason, new_request, with_name, available, with_aborted, abort_ends}
use Rattle.wl_machine.specs.Step.{without_agent, terminate_ends, enqueue, steal_locks}

-- processing after these ends, from its lists and the names kept
pub processing_is : (mid : State) (ends : List Change) (reply : Reply) (h : List HeldRow) (p : List PendingRow)
    (c : List Change) (names : List (List ℕ))
    → lists_of h p c ≡ process_queues (lists_of mid.held mid.pending ends) mid.names
    → names ≡ filter (in_use h p) mid.names
    → after_processing mid ends reply ≡ record {
      state = record mid { names = names; held = h; pending = p };
      reply = reply;
      changes = c;
    }
processing_is mid ends reply h p c names lists used = rw (used, ← lists) refl

pub abort_meets : (s : State) (agent signal : ℕ) (reason : Reason) (signals : List SignalRow) (h0 h : List HeldRow)
    (p0 p : List PendingRow) (c0 c1 c2 c : List Change) (names : List (List ℕ))
    → refusal s (command.Abort agent signal reason) ≡ None
    → is_some (reason_in s.signals agent signal) ≡ false
    → signals ≡ map (with_reason agent signal reason) s.signals
    → c0 ≡ []
    → p0 ≡ filter (λ request. not (is_waiting_on agent signal request)) s.pending
    → c1 ≡ c0 ++ request_ends (Aborted reason) (filter (is_waiting_on agent signal) s.pending)
    → h0 ≡ filter (λ lock. not (is_abortable agent signal lock)) s.held
    → c2 ≡ c1 ++ lock_ends (Aborted reason) (filter (is_abortable agent signal) s.held)
    → lists_of h p c ≡ process_queues (lists_of h0 p0 c2) s.names
    → names ≡ filter (in_use h p) s.names
    → Gives s (command.Abort agent signal reason) (record s { signals = signals; names = names; held = h; pending = p })
    (reply.Aborted abort_answer.Done) c
abort_meets s agent signal reason signals h0 h p0 p c0 c1 c2 c names free unaborted marked cleared requests first locked
    second lists used =
    rw (free, unaborted, marked)
    (processing_is (with_aborted s agent signal reason) (abort_ends s agent signal reason)
    (reply.Aborted abort_answer.Done) h p c names
    (simp (second, first, cleared, requests, locked) at lists) used)

pub terminate_meets : (s : State) (agent : ℕ) (agents : List AgentRow) (signals : List SignalRow) (h0 h : List HeldRow)
    (p0 p : List PendingRow) (c0 c1 c2 c : List Change) (names : List (List ℕ))
    → refusal s (command.Terminate agent) ≡ None
    → agents ≡ filter (λ row. not (row.number == agent)) s.agents
    → signals ≡ filter (λ row. not (row.agent == agent)) s.signals
    → c0 ≡ []
    → p0 ≡ filter (λ request. not (request.agent == agent)) s.pending
    → c1 ≡ c0 ++ request_ends (Aborted AbortError) (filter (λ request. request.agent == agent) s.pending)
    → h0 ≡ filter (λ lock. not (lock.agent == agent)) s.held
    → c2 ≡ c1 ++ lock_ends Released (filter (λ lock. lock.agent == agent) s.held)
    → lists_of h p c ≡ process_queues (lists_of h0 p0 c2) s.names
    → names ≡ filter (in_use h p) s.names
    → Gives s (command.Terminate agent) (record s {
      agents = agents;
      signals = signals;
      names = names;
      held = h;
      pending = p;
    }) reply.Done c
terminate_meets s agent agents signals h0 h p0 p c0 c1 c2 c names free gone forgotten cleared requests first locked
    second lists used =
    rw (free, gone, forgotten)
    (processing_is (without_agent s agent) (terminate_ends s agent) reply.Done h p c names
    (simp (second, first, cleared, requests, locked) at lists) used)

-- a request that comes into its queue
pub request_meets : (s : State) (agent : ℕ) (ask : Ask) (name : List ℕ) (h0 h : List HeldRow) (p0 p : List PendingRow)
    (c0 c1 c : List Change) (names0 names : List (List ℕ)) (steal : Bool)
    → ask.steal ≡ steal
    → refusal s (command.Request agent ask) ≡ None
    → (not steal && ask.if_available && not (available s (new_request s agent ask))) ≡ false
    → name ≡ ask.name
    → names0 ≡ with_name name s.names
    → c0 ≡ []
    → h0 ≡ (if steal then filter (λ lock. not (bytes_eq lock.name name)) s.held else s.held)
    → p0 ≡ (if steal then new_request s agent ask ∷ s.pending else s.pending ++ new_request s agent ask ∷ [])
    → c1 ≡ (if steal then c0 ++ lock_ends Stolen (locks name s.held) else c0)
    → lists_of h p c ≡ process_queues (lists_of h0 p0 c1) names0
    → names ≡ filter (in_use h p) names0
    → Gives s (command.Request agent ask) (record s {
      names = names;
      held = h;
      pending = p;
      next = record s.next { request = s.next.request + 1 };
    }) (reply.Request s.next.request) c
request_meets s agent ask name h0 h p0 p c0 c1 c names0 names true stolen free waits named added cleared held pending
    ends lists used =
    rw (free, stolen)
    (processing_is (steal_locks s (new_request s agent ask)) (lock_ends Stolen (locks ask.name s.held))
    (reply.Request s.next.request) h p c names
    (simp (added, pending, ends, held, cleared, named) at lists) (rw (added, named) at used))
request_meets s agent ask name h0 h p0 p c0 c1 c names0 names false stolen free waits named added cleared held pending
    ends lists used =
    rw (free, stolen, waits)
    (processing_is (enqueue s (new_request s agent ask)) [] (reply.Request s.next.request) h p c names
    (simp (added, pending, ends, held, cleared, named) at lists) (rw (added, named) at used))
