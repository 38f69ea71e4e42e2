-- A command's entry and what is owed after it.
use Rattle.std.proofs.Common.{◌≡◌, ℕ, ◌+◌, ◌*◌, ◌≤◌, Bool, true, false, cond, List, [], ◌∷◌, length, map, refl, arith}
use Rattle.std.proofs.Common.{sym, subst, length-append}
use Rattle.std.proofs.lemmas.List.{length-map}
use Rattle.std.specs.Prelude.{not, ◌&&◌, ◌==◌, is_some, filter, if◌then◌else◌, Option, Some, None}
use Rattle.std.specs.List.{sum_by, list_any}
use Rattle.std.specs.Str.{bytes_eq}
use Rattle.std.proofs.lemmas.List.Sums.{sum_by-append}
use Rattle.wl_types.specs.declared.words.Reason.{Reason}
use Rattle.wl_types.specs.declared.phases.Change.{Change}
use Rattle.wl_types.specs.declared.refusal.Refusal.{Refusal}
use Rattle.wl_types.specs.declared.refusal.Refusal.TheVariants.{NoSuchAgent, NoSuchSignal}
use Rattle.wl_types.specs.declared.ask.Ask.{Ask}
use Rattle.wl_machine.specs.declared.command.Command.{Command}
use Rattle.wl_machine.specs.declared.command.Command.TheVariants.{Enter, SetActive, NewSignal, Request, Take, Release}
use Rattle.wl_machine.specs.declared.command.Command.TheVariants.{Abort, Terminate, Query}
use Rattle.wl_machine.specs.declared.command.Reply.{Reply}
use Rattle.wl_machine.specs.declared.command.Reply.TheVariants as reply
use Rattle.wl_types.specs.declared.answers.TakeAnswer.TheVariants as taken
use Rattle.wl_types.specs.declared.answers.ReleaseAnswer.TheVariants as released
use Rattle.wl_types.specs.declared.answers.AbortAnswer.TheVariants as aborted
use Rattle.wl_machine.specs.declared.rows.PendingRow.{PendingRow}
use Rattle.wl_machine.specs.State.{State}
use Rattle.wl_types.specs.Refusals.{refuse_if, first_refusal}
use Rattle.wl_machine.specs.Refusals.{refusal, has_agent, has_signal, reason_in}
use Rattle.wl_machine.specs.Step.{StepResult, step, no_changes, accepted, unless_refused, after_processing, new_request}
use Rattle.wl_machine.specs.Step.{available, enqueue, steal_locks, stealing_request, plain_request, unavailable}
use Rattle.wl_machine.specs.Step.{is_untaken, with_taken, is_lock_of, without_lock, is_waiting_on, is_abortable}
use Rattle.wl_machine.specs.Step.{with_reason, with_aborted, abort_ends, without_agent, terminate_ends, terminate_step}
use Rattle.wl_machine.specs.Step.{with_active, lock_ends}
use Rattle.wl_machine.specs.Grants.{locks}
use Rattle.wl_types.specs.declared.phases.Phase.TheVariants.{Stolen, Released}
use Rattle.wl_journal.specs.History.{recorded}
use Rattle.wl_journal.specs.inner.Room.{lock_entries, signal_entries, entries_owed}
use Rattle.wl_journal.proofs.Sums.{filter-le, length-filter-le, left_out-less, left_out-fewer, change-less}
use Rattle.wl_journal.proofs.Owed.{processed_owes, taken-le, taken-less, lock-least, signal-le, signal-less}
use Rattle.wl_journal.proofs.Owed.{is_unaborted, unaborted_row}

-- what a command may add to the entries and to those owed
abbrev pub growth : Command → ℕ
growth (Enter kind) = 2
growth (SetActive agent active) = 1
growth (NewSignal agent) = 2
growth (Request agent ask) = 3
growth (Take id) = 0
growth (Release agent id) = 0
growth (Abort agent signal reason) = 0
growth (Terminate agent) = 0
growth (Query agent) = 0

-- what the outcome of a command adds and owes
abbrev spent_by : Command → StepResult → ℕ
spent_by command step_result = length (recorded command step_result.reply) + entries_owed step_result.state

-- a bound on what the middle owes is one on what the state after processing does
by_middle : (mid : State) (ends : List Change) (answer : Reply) (added most : ℕ) → added + entries_owed mid ≤ most
    → added + entries_owed (after_processing mid ends answer).state ≤ most
by_middle mid ends answer added most bound = subst (λ n. added + n ≤ most) (sym (processed_owes mid ends answer)) bound

plain_grows : (s : State) (agent : ℕ) (ask : Ask) (r : PendingRow)
    → spent_by (Request agent ask) (plain_request s r) ≤ 3 + entries_owed s
plain_grows s agent ask r =
    let longer = length-append s.pending (r ∷ []) in
    by_middle (enqueue s r) [] (reply.Request r.number) 1 (3 + entries_owed s) (omega (arith, longer))

unavailable_grows : (s : State) (agent : ℕ) (ask : Ask) (r : PendingRow)
    → spent_by (Request agent ask) (unavailable s r) ≤ 3 + entries_owed s
unavailable_grows s agent ask r = omega arith

steal_grows : (s : State) (agent : ℕ) (ask : Ask) (r : PendingRow)
    → spent_by (Request agent ask) (stealing_request s r) ≤ 3 + entries_owed s
steal_grows s agent ask r =
    let fewer = filter-le lock_entries (λ lock. not (bytes_eq lock.name r.name)) s.held in
    by_middle (steal_locks s r) (lock_ends Stolen (locks r.name s.held)) (reply.Request r.number) 1 (3 + entries_owed s)
    (omega (arith, fewer))

-- the bound of an outcome
pub record Grows (command : Command) (o : StepResult) (s : State) : Type 0 where
  pub bound : spent_by command o ≤ growth command + entries_owed s

if_grows : (command : Command) (b : Bool) (x y : StepResult) (s : State) → Grows command x s → Grows command y s
    → Grows command (cond b x y) s
if_grows command true x y s one two = one
if_grows command false x y s one two = two

-- where the arms need the test
if_grows_by : (command : Command) (b : Bool) (x y : StepResult) (s : State) → (b ≡ true → Grows command x s)
    → (b ≡ false → Grows command y s) → Grows command (cond b x y) s
if_grows_by command true x y s one two = one refl
if_grows_by command false x y s one two = two refl

take_grows : (s : State) (id : ℕ) → list_any (is_untaken id) s.held ≡ true
    → length s.agents + sum_by signal_entries s.signals + sum_by lock_entries (map (with_taken id) s.held)
    + 2 * length s.pending + 1 ≤ entries_owed s
take_grows s id some = let less = change-less lock_entries (with_taken id) (is_untaken id) s.held (taken-le id)
    (taken-less id) some in omega (arith, less)

release_grows : (s : State) (agent id : ℕ) (ends : List Change) → list_any (is_lock_of agent id) s.held ≡ true
    → 1 + entries_owed (after_processing (without_lock s agent id) ends (reply.Released released.Released)).state
    ≤ 0 + entries_owed s
release_grows s agent id ends some =
    let less = left_out-less lock_entries (is_lock_of agent id) s.held lock-least some in
    by_middle (without_lock s agent id) ends (reply.Released released.Released) 1 (0 + entries_owed s)
    (omega (arith, less))

abort_grows : (s : State) (agent signal : ℕ) (reason : Reason) (ends : List Change)
    → list_any (λ row. row.agent == agent && row.number == signal) s.signals ≡ true
    → is_some (reason_in s.signals agent signal) ≡ false
    → 1 + entries_owed (after_processing (with_aborted s agent signal reason) ends (reply.Aborted aborted.Done)).state
    ≤ 0 + entries_owed s
abort_grows s agent signal reason ends known unaborted =
    let less = change-less signal_entries (with_reason agent signal reason) (is_unaborted agent signal) s.signals
    (signal-le agent signal reason) (signal-less agent signal reason)
    (unaborted_row agent signal s.signals known unaborted) in
    let locks = filter-le lock_entries (λ lock. not (is_abortable agent signal lock)) s.held in
    let requests = length-filter-le (λ request. not (is_waiting_on agent signal request)) s.pending in
    by_middle (with_aborted s agent signal reason) ends (reply.Aborted aborted.Done) 1 (0 + entries_owed s)
    (omega (arith, less, locks, requests))

terminate_grows : (s : State) (agent : ℕ) → has_agent s agent ≡ true
    → 1 + entries_owed (terminate_step s agent).state ≤ 0 + entries_owed s
terminate_grows s agent known =
    let fewer = left_out-fewer (λ row. row.number == agent) s.agents known in
    let signals = filter-le signal_entries (λ row. not (row.agent == agent)) s.signals in
    let locks = filter-le lock_entries (λ lock. not (lock.agent == agent)) s.held in
    let requests = length-filter-le (λ request. not (request.agent == agent)) s.pending in
    by_middle (without_agent s agent) (terminate_ends s agent) reply.Done 1 (0 + entries_owed s)
    (omega (arith, fewer, signals, locks, requests))

-- a command is accepted where none of its refusals applies
known_of : (b : Bool) (rest : List (Option Refusal)) → first_refusal (refuse_if (not b) NoSuchAgent ∷ rest) ≡ None
    → b ≡ true
known_of true rest free = refl
known_of false rest free = absurd (let wrong : Some NoSuchAgent ≡ None = free in cc)

signal_of : (a b : Bool) → first_refusal (refuse_if (not a) NoSuchAgent ∷ refuse_if (not b) NoSuchSignal ∷ []) ≡ None
    → b ≡ true
signal_of a true free = refl
signal_of true false free = absurd (let wrong : Some NoSuchSignal ≡ None = free in cc)
signal_of false false free = absurd (let wrong : Some NoSuchAgent ≡ None = free in cc)

accepted_grows : (s : State) (command : Command) → refusal s command ≡ None → Grows command (accepted s command) s
accepted_grows s (Enter kind) free = record {
  bound = let longer =
      length-append s.agents (record { number = s.next.agent; kind = kind; active = true } ∷ [])
      in omega (arith, longer);
}
accepted_grows s (SetActive agent active) free = record {
  bound = let same =
      length-map s.agents (with_active agent active) in omega (arith, same);
}
accepted_grows s (NewSignal agent) free = record {
  bound = let more =
      sum_by-append signal_entries s.signals (record { agent = agent; number = s.next.signal; reason = None } ∷ [])
      in omega (arith, more);
}
accepted_grows s (Request agent ask) free =
    let request = new_request s agent ask in
    if_grows (Request agent ask) ask.steal (stealing_request s request)
    (if ask.if_available && not (available s request) then unavailable s request else plain_request s request) s
    (record { bound = steal_grows s agent ask request })
    (if_grows (Request agent ask) (ask.if_available && not (available s request)) (unavailable s request)
    (plain_request s request) s
    (record { bound = unavailable_grows s agent ask request }) (record { bound = plain_grows s agent ask request }))
accepted_grows s (Take id) free =
    if_grows_by (Take id) (list_any (is_untaken id) s.held)
    (no_changes (record s { held = map (with_taken id) s.held }) (reply.Took taken.Taken))
    (no_changes s (reply.Took taken.NotGranted)) s
    (λ some. record { bound = let less = take_grows s id some in omega (arith, less) })
    (λ none. record { bound = omega arith })
accepted_grows s (Release agent id) free =
    if_grows_by (Release agent id) (list_any (is_lock_of agent id) s.held)
    (after_processing (without_lock s agent id) (lock_ends Released (filter (is_lock_of agent id) s.held))
    (reply.Released released.Released)) (no_changes s (reply.Released released.NotHeld)) s
    (λ some. record {
      bound = release_grows s agent id (lock_ends Released (filter (is_lock_of agent id) s.held))
          some;
    }) (λ none. record { bound = omega arith })
accepted_grows s (Abort agent signal reason) free =
    let ends = abort_ends s agent signal reason in
    if_grows_by (Abort agent signal reason) (is_some (reason_in s.signals agent signal))
    (no_changes s (reply.Aborted aborted.AlreadyAborted))
    (after_processing (with_aborted s agent signal reason) ends (reply.Aborted aborted.Done)) s
    (λ some. record { bound = omega arith })
    (λ none. record {
      bound = abort_grows s agent signal reason ends
          (signal_of (has_agent s agent) (has_signal s agent signal) free) none;
    })
accepted_grows s (Terminate agent) free = record {
  bound = terminate_grows s agent
      (known_of (has_agent s agent) [] free);
}
accepted_grows s (Query agent) free = record { bound = omega arith }

step_grows : (s : State) (command : Command) (o : Option Refusal) → refusal s command ≡ o
    → Grows command (unless_refused o s command) s
step_grows s command None free = accepted_grows s command free
step_grows s command (Some refused) free = record { bound = omega arith }

-- a command's own entry and those then owed are no more than were owed and its growth
pub growth_is_enough : (s : State) (command : Command) → length (recorded command (step s command).reply)
    + entries_owed (step s command).state ≤ growth command + entries_owed s
growth_is_enough s command = (step_grows s command (refusal s command) refl).bound
