-- In a reachable state the numbers of the requests that wait rise.
use Rattle.std.proofs.Common.{◌≡◌, ℕ, suc, zero, ◌+◌, ◌<◌, ◌≤◌, Bool, true, false, cond, List, [], ◌∷◌, ◌++◌, length}
use Rattle.std.proofs.Common.{refl, ap, sym, ◌∙◌, ◌==◌, arith}
use Rattle.std.proofs.lemmas.List.Kept.{AllPairs-cons}
use Rattle.std.proofs.lemmas.List.Elements.{All-cons}
use Rattle.std.specs.Prelude.{not, ◌&&◌, filter, is_some}
use Rattle.std.specs.Str.{bytes_eq}
use Rattle.std.specs.List.{list_any, All, AllPairs}
use Rattle.std.specs.Cmp.Lexicographic.{same_text}
use Rattle.wl_types.specs.declared.phases.Change.{Change}
use Rattle.wl_types.specs.declared.phases.Phase.TheVariants.{Stolen, Released}
use Rattle.wl_types.specs.declared.ask.Ask.{Ask}
use Rattle.wl_machine.specs.declared.rows.HeldRow.{HeldRow}
use Rattle.wl_machine.specs.declared.rows.PendingRow.{PendingRow}
use Rattle.wl_machine.specs.declared.command.Command.{Command}
use Rattle.wl_machine.specs.declared.command.Command.TheVariants.{Enter, SetActive, NewSignal, Request, Take, Release}
use Rattle.wl_machine.specs.declared.command.Command.TheVariants.{Abort, Terminate, Query}
use Rattle.wl_machine.specs.declared.command.Reply.{Reply}
use Rattle.wl_machine.specs.declared.command.Reply.TheVariants as reply
use Rattle.wl_machine.specs.State.{State, opening}
use Rattle.wl_machine.specs.Grants.{is_exclusive, grants, shared_prefix, without_first, locks, queue, Lists, lists_of}
use Rattle.wl_machine.specs.Grants.{process_queue, process_queues}
use Rattle.wl_machine.specs.Refusals.{reason_in}
use Rattle.wl_machine.specs.Step.{after_processing, accepted, is_untaken, is_lock_of, is_waiting_on, with_name}
use Rattle.wl_machine.specs.Step.{new_request, available, request_step, steal_locks, enqueue, stealing_request}
use Rattle.wl_machine.specs.Step.{plain_request, unavailable, without_lock, with_aborted, without_agent, lock_ends}
use Rattle.wl_machine.specs.Step.{abort_ends, terminate_ends, state_after}
use Rattle.wl_machine.specs.Laws.{WaitingNumbersRise}
use Rattle.wl_machine.proofs.Lists.{none_left, same_bytes, other_bytes}
use Rattle.wl_machine.proofs.Quiet.{locks_unprocessed}
use Rattle.wl_machine.proofs.Reachable.{among, among_added}
use Rattle.wl_machine.proofs.Runs.{after_run, either}

-- rising numbers, from low on and below high
abbrev pub Between : ℕ → ℕ → List PendingRow → Type 0
Between low high [] = low ≤ high
Between low high (request ∷ requests) = (low ≤ request.number) × Between (suc request.number) high requests

lower : (a b high : ℕ) (requests : List PendingRow) → a ≤ b → Between b high requests → Between a high requests
lower a b high [] less rest = omega arith
lower a b high (request ∷ requests) less rest = let first = rest.0 in (omega arith, rest.1)

higher : (low a b : ℕ) (requests : List PendingRow) → a ≤ b → Between low a requests → Between low b requests
higher low a b [] less rest = omega arith
higher low a b (request ∷ requests) less rest = (rest.0, higher (suc request.number) a b requests less rest.1)

-- without its first
later : (low high : ℕ) (request : PendingRow) (requests : List PendingRow) → Between low high (request ∷ requests)
    → Between low high requests
later low high request requests rest = let first = rest.0 in
    lower low (suc request.number) high requests (omega arith) rest.1

filter_between : (p : PendingRow → Bool) (low high : ℕ) (requests : List PendingRow) → Between low high requests
    → Between low high (filter p requests)
filter_between p low high [] rest = rest
filter_between p low high (request ∷ requests) rest =
    elim (p request) as (λ b. Between low high (cond b (request ∷ filter p requests) (filter p requests))) [
      | true ↦ (rest.0, filter_between p (suc request.number) high requests rest.1)
      | false ↦ filter_between p low high
          requests (later low high request requests rest)
    ]

without_between : (name : List ℕ) (count : ℕ) (low high : ℕ) (requests : List PendingRow) → Between low high requests
    → Between low high (without_first name count requests)
without_between name zero low high requests rest = rest
without_between name (suc count) low high [] rest = rest
without_between name (suc count) low high (request ∷ requests) rest =
    elim (bytes_eq request.name name) as (λ b. Between low high
    (cond b (without_first name count requests) (request ∷ without_first name (suc count) requests))) [
      | true ↦ without_between name count low high requests (later low high request requests rest)
      | false ↦
          (rest.0, without_between name (suc count) (suc request.number) high requests rest.1)
    ]

push_between : (low high : ℕ) (requests : List PendingRow) (request : PendingRow) → request.number ≡ high
    → Between low high requests → Between low (high + 1) (requests ++ request ∷ [])
push_between low high [] request is rest = (omega arith, omega arith)
push_between low high (first ∷ requests) request is rest = (
  rest.0,
  push_between (suc first.number) high requests request is rest.1,
)

processes_between : (names : List (List ℕ)) (lists : Lists) (low high : ℕ) → Between low high lists.pending
    → Between low high (process_queues lists names).pending
processes_between [] lists low high rest = rest
processes_between (name ∷ names) lists low high rest =
    processes_between names (process_queue lists name) low high
    (without_between name (length (grants (locks name lists.held) (queue name lists.pending))) low high lists.pending
    rest)

-- the request of a steal leaves the queue
front_granted : (request : PendingRow) (requests : List PendingRow)
    → (count : ℕ) × (length (grants [] (request ∷ requests)) ≡ suc count)
front_granted request requests = at_mode (is_exclusive request.mode) refl
  where
    at_mode : (b : Bool) → is_exclusive request.mode ≡ b → (count : ℕ)
        × (length (grants [] (request ∷ requests)) ≡ suc count)
    at_mode true is = (0, rw is refl)
    at_mode false is = (length (shared_prefix requests), rw is refl)

steal_processes : (names : List (List ℕ)) (lists : Lists) (request : PendingRow) (requests : List PendingRow)
    (low high : ℕ)
    → among request.name names ≡ true → locks request.name lists.held ≡ [] → lists.pending ≡ request ∷ requests
    → Between low high requests → Between low high (process_queues lists names).pending
steal_processes [] lists request requests low high listed none front rest = absurd (cc)
steal_processes (name ∷ names) lists request requests low high listed none front rest =
    at_name (bytes_eq name request.name) refl (steal_processes names (process_queue lists name) request)
  where
    count : ℕ
    count = length (grants (locks name lists.held) (queue name lists.pending))

    at_name : (b : Bool) → bytes_eq name request.name ≡ b
        → ((others : List PendingRow) (low high : ℕ) → among request.name names ≡ true
        → locks request.name (process_queue lists name).held ≡ []
        → (process_queue lists name).pending ≡ request ∷ others → Between low high others
        → Between low high (process_queues (process_queue lists name) names).pending)
        → Between low high (process_queues (process_queue lists name) names).pending
    at_name true is more =
        let same : name ≡ request.name = same_text name request.name (sym is) in
        let own : bytes_eq request.name name ≡ true = rw same (same_bytes request.name) in
        let empty : locks name lists.held ≡ [] = rw same none in
        let first : queue name (request ∷ requests) ≡ request ∷ queue name requests = rw own refl in
        let granted = front_granted request (queue name requests) in
        let counted : count ≡ suc granted.0 = rw (empty, front, first) granted.1 in
        let gone : (process_queue lists name).pending ≡ without_first name granted.0 requests =
        rw (counted, front) (rw own refl) in
        processes_between names (process_queue lists name) low high
        (rw gone (without_between name granted.0 low high requests rest))
    at_name false is more =
        let other : bytes_eq request.name name ≡ false = other_bytes request.name name is in
        let stays : (process_queue lists name).pending ≡ request
        ∷ without_first name count requests = ap (λ (p : List PendingRow). without_first name count p) front
        ∙ passes count other in
        more (without_first name count requests) low high (rw is at listed)
        (locks_unprocessed lists name request.name is ∙ none) stays
        (without_between name count low high requests rest)
      where
        passes : (k : ℕ) → bytes_eq request.name name ≡ false
            → without_first name k (request ∷ requests) ≡ request ∷ without_first name k requests
        passes zero other = refl
        passes (suc k) other = rw other refl

-- the numbers of requests that wait are below the next one, and rise
abbrev IsRising : State → Type 0
IsRising s = Between 0 s.next.request s.pending

rising_processed : (s : State) (ends : List Change) (answer : Reply) → IsRising s
    → IsRising (after_processing s ends answer).state
rising_processed s ends answer rest = processes_between s.names (lists_of s.held s.pending ends) 0 s.next.request rest

rising_stolen : (s : State) (request : PendingRow) → IsRising s → IsRising (stealing_request s request).state
rising_stolen s request rest =
    steal_processes (with_name request.name s.names) (lists_of (steal_locks s request).held (request ∷ s.pending)
    (lock_ends Stolen (locks request.name s.held))) request s.pending 0 (s.next.request + 1)
    (among_added request.name s.names) (none_left (λ (lock : HeldRow). bytes_eq lock.name request.name) s.held) refl
    (higher 0 s.next.request (s.next.request + 1) s.pending (omega arith) rest)

rising_request : (s : State) (agent : ℕ) (ask : Ask) → IsRising s → IsRising (request_step s agent ask).state
rising_request s agent ask rest =
    let request = new_request s agent ask in
    either IsRising ask.steal (stealing_request s request) (cond (ask.if_available && not (available s request))
    (unavailable s request) (plain_request s request))
    (rising_stolen s request rest)
    (either IsRising (ask.if_available && not (available s request)) (unavailable s request) (plain_request s request)
    (higher 0 s.next.request (s.next.request + 1) s.pending (omega arith) rest)
    (rising_processed (enqueue s request) [] reply.Done (push_between 0 s.next.request s.pending request refl rest)))

rising_accepted : (s : State) (command : Command) → IsRising s → IsRising (accepted s command).state
rising_accepted s (Enter kind) rest = rest
rising_accepted s (SetActive agent active) rest = rest
rising_accepted s (NewSignal agent) rest = rest
rising_accepted s (Request agent ask) rest = rising_request s agent ask rest
rising_accepted s (Take id) rest = either IsRising (list_any (is_untaken id) s.held) _ _ rest rest
rising_accepted s (Release agent id) rest = either IsRising (list_any (is_lock_of agent id) s.held) _ _
    (rising_processed (without_lock s agent id) (lock_ends Released (filter (is_lock_of agent id) s.held)) reply.Done
    rest) rest
rising_accepted s (Abort agent signal reason) rest = either IsRising (is_some (reason_in s.signals agent signal)) _ _
    rest
    (rising_processed (with_aborted s agent signal reason) (abort_ends s agent signal reason) reply.Done
    (filter_between (λ request. not (is_waiting_on agent signal request)) 0 s.next.request s.pending rest))
rising_accepted s (Terminate agent) rest = rising_processed (without_agent s agent) (terminate_ends s agent) reply.Done
    (filter_between (λ request. not (request.agent == agent)) 0 s.next.request s.pending rest)
rising_accepted s (Query agent) rest = rest

above : (low high : ℕ) (requests : List PendingRow) → Between (suc low) high requests
    → All (λ later. low < later.number) requests
above low high [] rest = λ k d short. absurd (omega arith)
above low high (request ∷ requests) rest =
    let first = rest.0 in
    All-cons (λ (later : PendingRow). low < later.number) request requests (omega arith)
    (above low high requests (lower (suc low) (suc request.number) high requests (omega arith) rest.1))

pairs_rise : (low high : ℕ) (requests : List PendingRow) → Between low high requests
    → AllPairs (λ earlier later. earlier.number < later.number) requests
pairs_rise low high [] rest = λ i j d before short. absurd (omega arith)
pairs_rise low high (request ∷ requests) rest =
    AllPairs-cons (λ (earlier later : PendingRow). earlier.number < later.number) request requests
    (above request.number high requests rest.1) (pairs_rise (suc request.number) high requests rest.1)

pub numbers_rise : WaitingNumbersRise
numbers_rise next commands =
    let s = state_after commands (opening next) in
    pairs_rise 0 s.next.request s.pending (after_run IsRising rising_accepted commands (opening next) (omega arith))
