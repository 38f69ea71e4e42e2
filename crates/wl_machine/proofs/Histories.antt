-- What a run brings to one request are moves, from Pending on.
use Rattle.std.proofs.Common.{◌≡◌, ℕ, ◌+◌, ◌<◌, ◌≤◌, Bool, true, false, cond, List, [], ◌∷◌, ◌++◌, length, map, refl}
use Rattle.std.proofs.Common.{ap, sym, ◌∙◌, ◌==◌, arith, append-nil, subst}
use Rattle.std.proofs.lemmas.Bool.{eqb-true, ltb-true, ltb-false}
use Rattle.std.proofs.lemmas.List.Elements.{filter-append}
use Rattle.std.specs.Prelude.{not, ◌&&◌, ◌||◌, filter, is_some, nat_lt, Option, Some, None}
use Rattle.std.specs.Str.{bytes_eq}
use Rattle.std.specs.List.{list_any}
use Rattle.wl_types.specs.Phases.{is_move, is_end}
use Rattle.wl_types.specs.declared.words.Reason.{Reason}
use Rattle.wl_types.specs.declared.words.Reason.TheVariants.{AbortError}
use Rattle.wl_types.specs.declared.refusal.Refusal.{Refusal}
use Rattle.wl_types.specs.declared.phases.Change.{Change}
use Rattle.wl_types.specs.declared.phases.Phase.{Phase}
use Rattle.wl_types.specs.declared.phases.Phase.TheVariants.{Pending, Granted, Taken, Unavailable, Aborted, Released}
use Rattle.wl_types.specs.declared.phases.Phase.TheVariants.{Stolen}
use Rattle.wl_types.specs.declared.ask.Ask.{Ask}
use Rattle.wl_machine.specs.declared.rows.HeldRow.{HeldRow}
use Rattle.wl_machine.specs.declared.rows.PendingRow.{PendingRow}
use Rattle.wl_machine.specs.declared.command.Command.{Command}
use Rattle.wl_machine.specs.declared.command.Command.TheVariants.{Enter, SetActive, NewSignal, Request, Take, Release}
use Rattle.wl_machine.specs.declared.command.Command.TheVariants.{Abort, Terminate, Query}
use Rattle.wl_machine.specs.declared.command.Reply.{Reply}
use Rattle.wl_machine.specs.declared.command.Reply.TheVariants as reply
use Rattle.wl_machine.specs.State.{State, opening}
use Rattle.wl_machine.specs.Grants.{locks, Lists, lists_of}
use Rattle.wl_machine.specs.Refusals.{refusal, reason_in}
use Rattle.wl_machine.specs.Step.{StepResult, after_processing, accepted, step, unless_refused, no_changes, is_untaken}
use Rattle.wl_machine.specs.Step.{is_lock_of, is_abortable, is_waiting_on, is_signal, with_taken, new_request}
use Rattle.wl_machine.specs.Step.{available, request_step, steal_locks, enqueue, stealing_request, plain_request}
use Rattle.wl_machine.specs.Step.{unavailable, without_lock, with_aborted, without_agent, lock_ends, request_ends}
use Rattle.wl_machine.specs.Step.{abort_ends, terminate_ends, take_step}
use Rattle.wl_machine.specs.Laws.{take_changes, all_changes, history, phases_of, are_moves, HistoriesAreMoves}
use Rattle.wl_machine.specs.Laws.{OneEndAtMost}
use Rattle.wl_machine.proofs.Lists.{filters_commute, filter_map, any_both, passes_first, and_second}
use Rattle.wl_machine.proofs.Stands.{lock_phases, held_of, waiting_of, phase_of_lock, Stands, last_phase, Moved}
use Rattle.wl_machine.proofs.Stands.{moves_append, stay, Told, phases_append, moved_as, processes_told, ended_requests}
use Rattle.wl_machine.proofs.Stands.{ended_locks}

-- a step brings the request from a phase to where it stands
abbrev Brought : ℕ → Phase → StepResult → Type 0
Brought id phase step_result = Told id phase (lists_of step_result.state.held step_result.state.pending
    step_result.changes)

either_way : (P : StepResult → Type 0) (b : Bool) (x y : StepResult) → P x → P y → P (cond b x y)
either_way P true x y one two = one
either_way P false x y one two = two

processed_brings : (id : ℕ) (phase : Phase) (s : State) (ends : List Change) (answer : Reply)
    → Told id phase (lists_of s.held s.pending ends) → Brought id phase (after_processing s ends answer)
processed_brings id phase s ends answer told = processes_told s.names id phase (lists_of s.held s.pending ends) told

abbrev StandsIn : ℕ → State → Phase → Type 0
StandsIn id s phase = Stands (held_of id s.held) (waiting_of id s.pending) phase

nothing_brings : (id : ℕ) (phase : Phase) (s : State) → StandsIn id s phase
    → Told id phase (lists_of s.held s.pending [])
nothing_brings id phase s stands = stay phase (held_of id s.held) (waiting_of id s.pending) stands

-- every lock may be released or stolen; one that was not taken may be aborted
may_release : (lock : HeldRow) → is_move (phase_of_lock lock) Released ≡ true
may_release lock = elim lock.taken as (λ b. is_move (cond b Taken Granted) Released ≡ true)
    [ true ↦ refl | false ↦ refl ]

may_steal : (lock : HeldRow) → is_move (phase_of_lock lock) Stolen ≡ true
may_steal lock = elim lock.taken as (λ b. is_move (cond b Taken Granted) Stolen ≡ true) [ true ↦ refl | false ↦ refl ]

may_abort : (agent signal : ℕ) (reason : Reason) (lock : HeldRow) → is_abortable agent signal lock ≡ true
    → is_move (phase_of_lock lock) (Aborted reason) ≡ true
may_abort agent signal reason lock is = at_taken lock.taken refl
  where
    at_taken : (b : Bool) → lock.taken ≡ b → is_move (phase_of_lock lock) (Aborted reason) ≡ true
    at_taken true taken = absurd (let no : true ≡ false = no_and (lock.agent == agent) (is_signal signal lock.signal)
        (rw taken at is) in cc)
      where
        no_and : (a b : Bool) → (a && b && not true) ≡ true → true ≡ false
        no_and true true both = sym both
        no_and true false both = sym both
        no_and false b both = sym both
    at_taken false taken = rw taken refl

release_brings : (id : ℕ) (phase : Phase) (s : State) (agent number : ℕ) → StandsIn id s phase
    → Brought id phase (accepted s (Release agent number))
release_brings id phase s agent number stands =
    either_way (Brought id phase) (list_any (is_lock_of agent number) s.held) _ _
    (processed_brings id phase (without_lock s agent number)
    (lock_ends Released (filter (is_lock_of agent number) s.held)) reply.Done
    (ended_locks id (is_lock_of agent number) Released phase (lists_of s.held s.pending [])
    (λ lock own. may_release lock) (nothing_brings id phase s stands)))
    (nothing_brings id phase s stands)

abort_brings : (id : ℕ) (phase : Phase) (s : State) (agent signal : ℕ) (reason : Reason) → StandsIn id s phase
    → Brought id phase (accepted s (Abort agent signal reason))
abort_brings id phase s agent signal reason stands =
    either_way (Brought id phase) (is_some (reason_in s.signals agent signal)) _ _
    (nothing_brings id phase s stands)
    (processed_brings id phase (with_aborted s agent signal reason) (abort_ends s agent signal reason) reply.Done
    (ended_locks id (is_abortable agent signal) (Aborted reason) phase
    (lists_of s.held (filter (λ request. not (is_waiting_on agent signal request)) s.pending)
    (request_ends (Aborted reason) (filter (is_waiting_on agent signal) s.pending)))
    (may_abort agent signal reason)
    (ended_requests id (is_waiting_on agent signal) (Aborted reason) phase s.held s.pending refl stands)))

terminate_brings : (id : ℕ) (phase : Phase) (s : State) (agent : ℕ) → StandsIn id s phase
    → Brought id phase (accepted s (Terminate agent))
terminate_brings id phase s agent stands =
    processed_brings id phase (without_agent s agent) (terminate_ends s agent) reply.Done
    (ended_locks id (λ lock. lock.agent == agent) Released phase
    (lists_of s.held (filter (λ request. not (request.agent == agent)) s.pending)
    (request_ends (Aborted AbortError) (filter (λ request. request.agent == agent) s.pending)))
    (λ lock own. may_release lock)
    (ended_requests id (λ request. request.agent == agent) (Aborted AbortError) phase s.held s.pending refl stands))

-- a request that is not there yet gets its number now
record Born (id : ℕ) (s : State) (phase : Phase) : Type 0 where
  pending : phase ≡ Pending
  unheld : held_of id s.held ≡ []
  unqueued : waiting_of id s.pending ≡ []

-- a new request at the end or at the front
added : (id : ℕ) (phase : Phase) (s : State) (lists : Lists) (request : PendingRow) → (before : Bool)
    → ((request.number == id) ≡ true → Born id s phase) → lists.pending ≡ s.pending
    → (held_of id s.held ≡ [] → (phases_of id lists.changes ≡ []) × (held_of id lists.held ≡ []))
    → Told id phase lists
    → Told id phase (lists_of lists.held (cond before (request ∷ lists.pending) (lists.pending ++ request ∷ []))
    lists.changes)
added id phase s lists request before born same none told = at_number (request.number == id) refl before
  where
    at_number : (b : Bool) → (request.number == id) ≡ b → (c : Bool)
        → Told id phase (lists_of lists.held (cond c (request ∷ lists.pending) (lists.pending ++ request ∷ []))
        lists.changes)
    at_number true is true =
        let new = born is in
        let gone = none new.unheld in
        moved_as phase (phases_of id lists.changes) [] (held_of id lists.held) []
        (waiting_of id (request ∷ lists.pending)) (request ∷ [])
        gone.0 gone.1 (rw is (ap (λ (p : List PendingRow). request ∷ waiting_of id p) same
        ∙ ap (λ (p : List PendingRow). request ∷ p) new.unqueued))
        (record { moves = refl; stands = new.pending })
    at_number true is false =
        let new = born is in
        let gone = none new.unheld in
        let one : waiting_of id (request ∷ []) ≡ request ∷ [] = rw is refl in
        moved_as phase (phases_of id lists.changes) [] (held_of id lists.held) []
        (waiting_of id (lists.pending ++ request ∷ [])) (request ∷ [])
        gone.0 gone.1 (filter-append (λ (r : PendingRow). r.number == id) lists.pending (request ∷ [])
        ∙ ap (λ (p : List PendingRow). waiting_of id p ++ waiting_of id (request ∷ [])) same
        ∙ rw (new.unqueued, one) refl)
        (record { moves = refl; stands = new.pending })
    at_number false is true = rw is told
    at_number false is false =
        let one : waiting_of id (request ∷ []) ≡ [] = rw is refl in
        moved_as phase (phases_of id lists.changes) (phases_of id lists.changes) (held_of id lists.held)
        (held_of id lists.held) (waiting_of id (lists.pending ++ request ∷ [])) (waiting_of id lists.pending)
        refl refl (filter-append (λ (r : PendingRow). r.number == id) lists.pending (request ∷ [])
        ∙ rw one (append-nil (waiting_of id lists.pending))) told

-- a steal ends the locks of the name, and the request is at the front
steal_brings : (id : ℕ) (phase : Phase) (s : State) (request : PendingRow)
    → ((request.number == id) ≡ true → Born id s phase) → StandsIn id s phase
    → Brought id phase (stealing_request s request)
steal_brings id phase s request born stands =
    let named : HeldRow → Bool = λ lock. bytes_eq lock.name request.name in
    processed_brings id phase (steal_locks s request) (lock_ends Stolen (locks request.name s.held)) reply.Done
    (added id phase s (lists_of (filter (λ lock. not (bytes_eq lock.name request.name)) s.held) s.pending
    (lock_ends Stolen (locks request.name s.held))) request true born refl
    (λ none. (
      lock_phases id (λ lock. bytes_eq lock.name request.name) Stolen s.held
          ∙ rw none refl,
      filters_commute (λ (lock : HeldRow). lock.number == id)
          (λ lock. not (bytes_eq lock.name request.name)) s.held ∙ rw none refl,
    ))
    (ended_locks id (λ lock. bytes_eq lock.name request.name) Stolen phase (lists_of s.held s.pending [])
    (λ lock own. may_steal lock) (nothing_brings id phase s stands)))

plain_brings : (id : ℕ) (phase : Phase) (s : State) (request : PendingRow)
    → ((request.number == id) ≡ true → Born id s phase) → StandsIn id s phase
    → Brought id phase (plain_request s request)
plain_brings id phase s request born stands =
    processed_brings id phase (enqueue s request) [] reply.Done
    (added id phase s (lists_of s.held s.pending []) request false born refl (λ none. (refl, none))
    (nothing_brings id phase s stands))

unavailable_brings : (id : ℕ) (phase : Phase) (s : State) (request : PendingRow)
    → ((request.number == id) ≡ true → Born id s phase) → StandsIn id s phase → Brought id phase (unavailable s request)
unavailable_brings id phase s request born stands = at_number (request.number == id) refl
  where
    at_number : (b : Bool) → (request.number == id) ≡ b → Brought id phase (unavailable s request)
    at_number true is =
        let new = born is in
        moved_as phase (phases_of id (unavailable s request).changes) (Unavailable ∷ []) (held_of id s.held) []
        (waiting_of id s.pending) [] (rw is refl) new.unheld new.unqueued
        (record { moves = rw (new.pending) refl; stands = tt })
    at_number false is = rw is (nothing_brings id phase s stands)

request_brings : (id : ℕ) (phase : Phase) (s : State) (agent : ℕ) (ask : Ask)
    → ((s.next.request == id) ≡ true → Born id s phase) → StandsIn id s phase
    → Brought id phase (request_step s agent ask)
request_brings id phase s agent ask born stands =
    let request = new_request s agent ask in
    either_way (Brought id phase) ask.steal (stealing_request s request)
    (cond (ask.if_available && not (available s request)) (unavailable s request) (plain_request s request))
    (steal_brings id phase s request born stands)
    (either_way (Brought id phase) (ask.if_available && not (available s request)) (unavailable s request)
    (plain_request s request)
    (unavailable_brings id phase s request born stands) (plain_brings id phase s request born stands))

-- the changes of a command, its take among them
abbrev BroughtBy : ℕ → Phase → Command → StepResult → Type 0
BroughtBy id phase command step_result = Told id phase (lists_of step_result.state.held step_result.state.pending
    (all_changes command step_result))

take_own : (id : ℕ) (phase : Phase) (held : List HeldRow) (pending : List PendingRow) → Stands held pending phase
    → ((lock : HeldRow) (rest : List HeldRow) → held ≡ lock ∷ rest → (lock.number == id) ≡ true)
    → list_any (λ lock. not lock.taken) held ≡ true → Moved phase (Taken ∷ []) (map (with_taken id) held) pending
take_own id phase [] pending stands own some = absurd (cc)
take_own id phase (lock ∷ []) [] stands own some = at_taken lock.taken refl
  where
    at_taken : (b : Bool) → lock.taken ≡ b → Moved phase (Taken ∷ []) (map (with_taken id) (lock ∷ [])) []
    at_taken true is = absurd (let no : false ≡ true = rw is at some in cc)
    at_taken false is = record { moves = rw (stands, is) refl; stands = rw (is, own lock [] refl) refl }
take_own id phase (lock ∷ []) (request ∷ pending) stands own some = absurd (cc (stands))
take_own id phase (lock ∷ other ∷ held) pending stands own some = absurd (cc (stands))

take_other : (id number : ℕ) (phase : Phase) (held : List HeldRow) (pending : List PendingRow)
    → Stands held pending phase → ((lock : HeldRow) (rest : List HeldRow) → held ≡ lock ∷ rest
    → (lock.number == id) ≡ true)
    → (number == id) ≡ false → Stands (map (with_taken number) held) pending phase
take_other id number phase [] pending stands own other = stands
take_other id number phase (lock ∷ []) [] stands own other = at_number (lock.number == number) refl
  where
    at_number : (b : Bool) → (lock.number == number) ≡ b → phase ≡ phase_of_lock (with_taken number lock)
    at_number true is =
        absurd (let one : lock.number ≡ number = eqb-true lock.number number is in
        let no : (number == id) ≡ true = rw (← one) (own lock [] refl) in cc (no, other))
    at_number false is = rw is (stands ∙ elim lock.taken as
        (λ b. cond b Taken Granted ≡ cond (b || false) Taken Granted) [ true ↦ refl | false ↦ refl ])
take_other id number phase (lock ∷ []) (request ∷ pending) stands own other = absurd (cc (stands))
take_other id number phase (lock ∷ others ∷ held) pending stands own other = absurd (cc (stands))

take_brings : (id : ℕ) (phase : Phase) (s : State) (number : ℕ) → StandsIn id s phase
    → BroughtBy id phase (Take number) (take_step s number)
take_brings id phase s number stands = at_there (list_any (is_untaken number) s.held) refl
  where
    own : (lock : HeldRow) (rest : List HeldRow) → held_of id s.held ≡ lock ∷ rest → (lock.number == id) ≡ true
    own lock rest is = passes_first (λ (l : HeldRow). l.number == id) s.held lock rest is

    marked : held_of id (map (with_taken number) s.held) ≡ map (with_taken number) (held_of id s.held)
    marked = filter_map (λ (l : HeldRow). l.number == id) (with_taken number) s.held

    at_there : (b : Bool) → list_any (is_untaken number) s.held ≡ b
        → BroughtBy id phase (Take number) (take_step s number)
    at_there false is = rw is (nothing_brings id phase s stands)
    at_there true is = rw is (at_number (number == id) refl)
      where
        at_number : (b : Bool) → (number == id) ≡ b → Told id phase
            (lists_of (map (with_taken number) s.held) s.pending (record { id = number; phase = Taken } ∷ []))
        at_number true same =
            let one : number ≡ id = eqb-true number id same in
            let some : list_any (λ lock. not lock.taken) (held_of id s.held)
            ≡ true = rw (← one) (sym (any_both (λ (l : HeldRow). l.number == number) (λ l. not l.taken) s.held) ∙ is)
            in
            moved_as phase (phases_of id (record { id = number; phase = Taken } ∷ [])) (Taken ∷ [])
            (held_of id (map (with_taken number) s.held)) (map (with_taken id) (held_of id s.held))
            (waiting_of id s.pending) (waiting_of id s.pending)
            (rw same refl) (marked ∙ ap (λ (n : ℕ). map (with_taken n) (held_of id s.held)) one) refl
            (take_own id phase (held_of id s.held) (waiting_of id s.pending) stands own some)
        at_number false other =
            moved_as phase (phases_of id (record { id = number; phase = Taken } ∷ [])) []
            (held_of id (map (with_taken number) s.held)) (map (with_taken number) (held_of id s.held))
            (waiting_of id s.pending) (waiting_of id s.pending)
            (rw other refl) marked refl
            (stay phase (map (with_taken number) (held_of id s.held)) (waiting_of id s.pending)
            (take_other id number phase (held_of id s.held) (waiting_of id s.pending) stands own other))

request_next : (s : State) (agent : ℕ) (ask : Ask) → (request_step s agent ask).state.next.request ≡ s.next.request + 1
request_next s agent ask =
    let request = new_request s agent ask in
    either_way (λ o. o.state.next.request ≡ s.next.request + 1) ask.steal (stealing_request s request)
    (cond (ask.if_available && not (available s request)) (unavailable s request) (plain_request s request)) refl
    (either_way (λ o. o.state.next.request ≡ s.next.request + 1) (ask.if_available && not (available s request))
    (unavailable s request) (plain_request s request) refl refl)

-- where no take counts
no_take : (id : ℕ) (phase : Phase) (command : Command) (step_result : StepResult)
    → take_changes command step_result.reply ≡ [] → Brought id phase step_result
    → BroughtBy id phase command step_result
no_take id phase command step_result none brought = rw none (rw (append-nil step_result.changes) brought)

refused_take : (command : Command) (refusal : Refusal) → take_changes command (reply.Refused refusal) ≡ []
refused_take (Take id) refusal = refl
refused_take command refusal = refl

accepted_brings : (id : ℕ) (phase : Phase) (s : State) (command : Command)
    → (id < (accepted s command).state.next.request → s.next.request ≤ id → Born id s phase) → StandsIn id s phase
    → BroughtBy id phase command (accepted s command)
accepted_brings id phase s (Enter kind) born stands = nothing_brings id phase s stands
accepted_brings id phase s (SetActive agent active) born stands = nothing_brings id phase s stands
accepted_brings id phase s (NewSignal agent) born stands = nothing_brings id phase s stands
accepted_brings id phase s (Request agent ask) born stands =
    let now : (s.next.request == id) ≡ true → Born id s phase = λ is.
    let same : s.next.request ≡ id = eqb-true s.next.request id is in
    let more : (request_step s agent ask).state.next.request ≡ s.next.request + 1 = request_next s agent ask in
    born (rw more (omega arith)) (omega arith) in
    no_take id phase (Request agent ask) (request_step s agent ask) refl
    (request_brings id phase s agent ask now stands)
accepted_brings id phase s (Take number) born stands = take_brings id phase s number stands
accepted_brings id phase s (Release agent number) born stands =
    no_take id phase (Release agent number) (accepted s (Release agent number)) refl
    (release_brings id phase s agent number stands)
accepted_brings id phase s (Abort agent signal reason) born stands =
    no_take id phase (Abort agent signal reason) (accepted s (Abort agent signal reason)) refl
    (abort_brings id phase s agent signal reason stands)
accepted_brings id phase s (Terminate agent) born stands = no_take id phase (Terminate agent)
    (accepted s (Terminate agent)) refl (terminate_brings id phase s agent stands)
accepted_brings id phase s (Query agent) born stands = nothing_brings id phase s stands

-- numbers are given in order
accepted_next : (s : State) (command : Command) → s.next.request ≤ (accepted s command).state.next.request
accepted_next s (Request agent ask) = let more : (request_step s agent ask).state.next.request
    ≡ s.next.request + 1 = request_next s agent ask in rw more (omega arith)
accepted_next s (Take id) = either_way (λ o. s.next.request ≤ o.state.next.request) (list_any (is_untaken id) s.held) _
    _ (omega arith) (omega arith)
accepted_next s (Release agent id) = either_way (λ o. s.next.request ≤ o.state.next.request)
    (list_any (is_lock_of agent id) s.held) _ _ (omega arith) (omega arith)
accepted_next s (Abort agent signal reason) = either_way (λ o. s.next.request ≤ o.state.next.request)
    (is_some (reason_in s.signals agent signal)) _ _ (omega arith) (omega arith)
accepted_next s (Terminate agent) = omega arith
accepted_next s (Enter kind) = omega arith
accepted_next s (SetActive agent active) = omega arith
accepted_next s (NewSignal agent) = omega arith
accepted_next s (Query agent) = omega arith

-- one step, whatever refuses it
record Stepped (id : ℕ) (s : State) (command : Command) (step_result : StepResult) : Type 0 where
  brings : (phase : Phase) → (id < step_result.state.next.request → s.next.request ≤ id → Born id s phase)
      → StandsIn id s phase → BroughtBy id phase command step_result
  next : s.next.request ≤ step_result.state.next.request

stepped : (id : ℕ) (s : State) (command : Command) (o : Option Refusal)
    → Stepped id s command (unless_refused o s command)
stepped id s command None = record {
  brings = λ phase born stands. accepted_brings id phase s command born stands;
  next = accepted_next s command;
}
stepped id s command (Some refusal) = record {
  brings = λ phase born stands. no_take id phase command
      (no_changes s (reply.Refused refusal)) (refused_take command refusal) (nothing_brings id phase s stands);
  next = omega arith;
}

born_moves : (commands : List Command) (id : ℕ) (s : State) (phase : Phase) → id < s.next.request → StandsIn id s phase
    → are_moves phase (phases_of id (history commands s)) ≡ true
born_moves [] id s phase below stands = refl
born_moves (command ∷ commands) id s phase below stands =
    let step_result = step s command in
    let one = stepped id s command (refusal s command) in
    let brought = one.brings phase (λ grown new. absurd (omega arith)) stands in
    let grows = one.next in
    let rest = born_moves commands id step_result.state (last_phase phase
    (phases_of id (all_changes command step_result))) (omega arith) brought.stands in
    rw (phases_append id (all_changes command step_result) (history commands step_result.state))
    (moves_append phase (phases_of id (all_changes command step_result))
    (phases_of id (history commands step_result.state)) brought.moves rest)

-- nothing follows an end
after_end : (end : Phase) (phases : List Phase) → is_end end ≡ true → are_moves end phases ≡ true → phases ≡ []
after_end end [] is moves = refl
after_end Unavailable (phase ∷ phases) is moves = absurd (cc)
after_end (Aborted reason) (phase ∷ phases) is moves = absurd (cc)
after_end Released (phase ∷ phases) is moves = absurd (cc)
after_end Stolen (phase ∷ phases) is moves = absurd (cc)
after_end Pending (phase ∷ phases) is moves = absurd (cc)
after_end Granted (phase ∷ phases) is moves = absurd (cc)
after_end Taken (phase ∷ phases) is moves = absurd (cc)

-- what stands in an end is not there
stands_nowhere : (held : List HeldRow) (pending : List PendingRow) → Stands held pending Unavailable
    → (held ≡ []) × (pending ≡ [])
stands_nowhere [] [] stands = (refl, refl)
stands_nowhere [] (request ∷ []) stands = absurd (cc (stands))
stands_nowhere [] (request ∷ other ∷ pending) stands = absurd (cc (stands))
stands_nowhere (lock ∷ []) [] stands = absurd (let no : Unavailable ≡ cond lock.taken Taken Granted = stands
    in not_ended lock.taken no)
  where
    not_ended : (b : Bool) → Unavailable ≡ cond b Taken Granted → ⊥
    not_ended true is = absurd (cc)
    not_ended false is = absurd (cc)
stands_nowhere (lock ∷ []) (request ∷ pending) stands = absurd (cc (stands))
stands_nowhere (lock ∷ other ∷ held) pending stands = absurd (cc (stands))

unborn_moves : (commands : List Command) (id : ℕ) (s : State) → s.next.request ≤ id → held_of id s.held ≡ []
    → waiting_of id s.pending ≡ [] → are_moves Pending (phases_of id (history commands s)) ≡ true
unborn_moves [] id s above unheld unqueued = refl
unborn_moves (command ∷ commands) id s above unheld unqueued =
    at_next (nat_lt id (step s command).state.next.request) refl (unborn_moves commands id (step s command).state)
  where
    step_result : StepResult
    step_result = step s command

    stands : (phase : Phase) → StandsIn id s phase
    stands phase = rw (unheld, unqueued) tt

    at_next : (b : Bool) → nat_lt id (step s command).state.next.request ≡ b
        → ((step s command).state.next.request ≤ id → held_of id (step s command).state.held ≡ []
        → waiting_of id (step s command).state.pending ≡ []
        → are_moves Pending (phases_of id (history commands (step s command).state)) ≡ true)
        → are_moves Pending (phases_of id (history (command ∷ commands) s)) ≡ true
    at_next true is more =
        let below : id < (step s command).state.next.request = ltb-true id _ is in
        let brought = (stepped id s command (refusal s command)).brings Pending
        (λ grown new. record { pending = refl; unheld = unheld; unqueued = unqueued }) (stands Pending) in
        let rest = born_moves commands id step_result.state
        (last_phase Pending (phases_of id (all_changes command step_result))) below brought.stands in
        rw (phases_append id (all_changes command step_result) (history commands step_result.state))
        (moves_append Pending (phases_of id (all_changes command step_result))
        (phases_of id (history commands step_result.state)) brought.moves rest)
    at_next false is more =
        let not_yet : (step s command).state.next.request ≤ id = ltb-false id _ is in
        let brought = (stepped id s command (refusal s command)).brings Unavailable (λ grown new. absurd (omega arith))
        (stands Unavailable) in
        let none : phases_of id (all_changes command step_result)
        ≡ [] = after_end Unavailable (phases_of id (all_changes command step_result)) refl brought.moves in
        let nowhere = stands_nowhere (held_of id step_result.state.held) (waiting_of id step_result.state.pending)
        (subst (λ p. Stands (held_of id step_result.state.held) (waiting_of id step_result.state.pending)
        (last_phase Unavailable p)) none brought.stands) in
        rw (phases_append id (all_changes command step_result) (history commands step_result.state), none)
        (more not_yet nowhere.0 nowhere.1)

pub histories_are_moves : HistoriesAreMoves
histories_are_moves next commands id = at_next (nat_lt id next.request) refl
  where
    at_next : (b : Bool) → nat_lt id next.request ≡ b → are_moves Pending
        (phases_of id (history commands (opening next))) ≡ true
    at_next true is = born_moves commands id (opening next) Pending (ltb-true id next.request is) tt
    at_next false is = unborn_moves commands id (opening next) (ltb-false id next.request is) refl refl

one_end : (phase : Phase) (phases : List Phase) → are_moves phase phases ≡ true → length (filter is_end phases) ≤ 1
one_end phase [] moves = omega arith
one_end phase (next ∷ phases) moves = at_end (is_end next) refl (one_end next phases)
  where
    rest_moves : are_moves next phases ≡ true
    rest_moves = and_second (is_move phase next) (are_moves next phases) moves

    at_end : (b : Bool) → is_end next ≡ b → (are_moves next phases ≡ true → length (filter is_end phases) ≤ 1)
        → length (filter is_end (next ∷ phases)) ≤ 1
    at_end true is rest = let none : phases ≡ [] = after_end next phases is rest_moves in rw (is, none) (omega arith)
    at_end false is rest = rw is (rest rest_moves)

pub one_end_at_most : OneEndAtMost
one_end_at_most next commands id = one_end Pending (phases_of id (history commands (opening next)))
    (histories_are_moves next commands id)
