-- Taken flags play no part in what the machine does, unless a command asks for them.
use Rattle.std.proofs.Common.{◌≡◌, ℕ, Bool, true, false, cond, List, [], ◌∷◌, ◌++◌, map, refl, ap, sym, ◌∙◌, ◌==◌}
use Rattle.std.proofs.lemmas.List.{map-append, length-map}
use Rattle.std.proofs.lemmas.Bool.{eqb-true}
use Rattle.std.specs.Prelude.{not, ◌&&◌, ◌||◌, filter, is_some, Option, Some, None}
use Rattle.std.specs.Str.{bytes_eq}
use Rattle.std.specs.List.{list_any}
use Rattle.wl_types.specs.declared.phases.Change.{Change}
use Rattle.wl_types.specs.declared.phases.Phase.TheVariants.{Stolen, Released, Aborted}
use Rattle.wl_types.specs.declared.words.Reason.{Reason}
use Rattle.wl_types.specs.declared.refusal.Refusal.{Refusal}
use Rattle.wl_types.specs.declared.ask.Ask.{Ask}
use Rattle.wl_machine.specs.declared.rows.HeldRow.{HeldRow}
use Rattle.wl_machine.specs.declared.rows.PendingRow.{PendingRow}
use Rattle.wl_machine.specs.declared.command.Command.{Command}
use Rattle.wl_machine.specs.declared.command.Command.TheVariants.{Enter, SetActive, NewSignal, Request, Take, Release}
use Rattle.wl_machine.specs.declared.command.Command.TheVariants.{Abort, Terminate, Query}
use Rattle.wl_machine.specs.declared.command.Reply.{Reply}
use Rattle.wl_machine.specs.declared.command.Reply.TheVariants as reply
use Rattle.wl_machine.specs.State.{State}
use Rattle.wl_machine.specs.Grants.{grants, granted_lock, locks, queue, Lists, lists_of, process_queue, process_queues}
use Rattle.wl_machine.specs.Grants.{in_use}
use Rattle.wl_machine.specs.Refusals.{refusal, reason_in}
use Rattle.wl_machine.specs.Step.{StepResult, after_processing, step, accepted, unless_refused, lock_ends, is_untaken}
use Rattle.wl_machine.specs.Step.{with_taken, is_signal, is_abortable, is_lock_of, new_request, available, request_step}
use Rattle.wl_machine.specs.Step.{stealing_request, release_step, take_step, abort_step, terminate_step, lock_info}
use Rattle.wl_machine.specs.Step.{steal_locks, enqueue, plain_request, unavailable, without_lock, with_aborted}
use Rattle.wl_machine.specs.Step.{abort_ends, without_agent, terminate_ends}
use Rattle.wl_machine.specs.Laws.{without_flag, without_flags, step_result_without_flags, asks_for_flag}
use Rattle.wl_machine.specs.Laws.{FlagsPlayNoPart}
use Rattle.wl_machine.proofs.Flagged.{locks_flagged, grants_flagged, ends_flagged, in_use_flagged}
use Rattle.wl_machine.proofs.Lists.{filter_map, filter_same, any_map, any_same, map_same, map_twice, or_false}

abbrev pub lists_without : (ℕ → Bool) → Lists → Lists
lists_without aside lists = record lists { held = map (without_flag aside) lists.held }

-- the flag that is left
abbrev left : (ℕ → Bool) → HeldRow → Bool
left aside lock = lock.taken && not (aside lock.number)

pub process_without : (aside : ℕ → Bool) (lists : Lists) (name : List ℕ)
    → process_queue (lists_without aside lists) name ≡ lists_without aside (process_queue lists name)
process_without aside lists name =
    let granted = grants (locks name lists.held) (queue name lists.pending) in
    let held : map (without_flag aside) lists.held ++ map granted_lock granted
    ≡ map (without_flag aside) (lists.held ++ map granted_lock granted) =
    sym (map-append (without_flag aside) lists.held (map granted_lock granted)
    ∙ ap (λ (rest : List HeldRow). map (without_flag aside) lists.held ++ rest)
    (map_twice (without_flag aside) granted_lock granted)) in
    rw (grants_flagged (left aside) name lists.held (queue name lists.pending)) (rw held refl)

pub processes_without : (aside : ℕ → Bool) (names : List (List ℕ)) (lists : Lists)
    → process_queues (lists_without aside lists) names ≡ lists_without aside (process_queues lists names)
processes_without aside [] lists = refl
processes_without aside (name ∷ names) lists = ap (λ (l : Lists). process_queues l names)
    (process_without aside lists name) ∙ processes_without aside names (process_queue lists name)

pub processed_without : (aside : ℕ → Bool) (s : State) (ends : List Change) (reply : Reply)
    → after_processing (without_flags aside s) ends reply ≡ step_result_without_flags aside
    (after_processing s ends reply)
processed_without aside s ends reply =
    let lists = process_queues (lists_of s.held s.pending ends) s.names in
    rw (processes_without aside s.names (lists_of s.held s.pending ends))
    (rw (filter_same (in_use (map (without_flag aside) lists.held) lists.pending) (in_use lists.held lists.pending)
    s.names (in_use_flagged (left aside) lists.held lists.pending)) refl)

-- a number that is not put aside keeps its flag
untaken_without : (aside : ℕ → Bool) (id : ℕ) → aside id ≡ false → (lock : HeldRow)
    → is_untaken id (without_flag aside lock) ≡ is_untaken id lock
untaken_without aside id kept lock = at_number (lock.number == id) refl
  where
    at_number : (b : Bool) → (lock.number == id) ≡ b → is_untaken id (without_flag aside lock) ≡ is_untaken id lock
    at_number true is =
        let same : lock.number ≡ id = eqb-true lock.number id is in
        let flag : aside lock.number ≡ false = rw same kept in
        rw flag (elim lock.taken as (λ b. ((lock.number == id) && not (b && true)) ≡ ((lock.number == id) && not b))
        [ true ↦ refl | false ↦ refl ])
    at_number false is = rw is refl

taken_without : (aside : ℕ → Bool) (id : ℕ) → aside id ≡ false → (lock : HeldRow)
    → with_taken id (without_flag aside lock) ≡ without_flag aside (with_taken id lock)
taken_without aside id kept lock = at_number (lock.number == id) refl
  where
    flags : (a b : Bool) → ((b && a) || true) ≡ ((b || true) && true)
    flags a true = elim a as (λ c. (c || true) ≡ true) [ true ↦ refl | false ↦ refl ]
    flags a false = refl

    others : (a b : Bool) → ((b && a) || false) ≡ ((b || false) && a)
    others a true = elim a as (λ c. (c || false) ≡ c) [ true ↦ refl | false ↦ refl ]
    others a false = refl

    with_flag : Bool → HeldRow
    with_flag b = record lock { taken = b }

    at_number : (b : Bool) → (lock.number == id) ≡ b → with_taken id (without_flag aside lock)
        ≡ without_flag aside (with_taken id lock)
    at_number true is =
        let same : lock.number ≡ id = eqb-true lock.number id is in
        let flag : aside lock.number ≡ false = rw same kept in
        rw (is, flag) (ap (λ b. with_flag b) (flags true lock.taken))
    at_number false is = rw is (ap (λ b. with_flag b) (others (not (aside lock.number)) lock.taken))

-- of locks whose signal is not aborted, or whose flag is kept
abortable_without : (aside : ℕ → Bool) (agent signal : ℕ) (lock : HeldRow)
    → (aside lock.number && lock.agent == agent && is_signal signal lock.signal) ≡ false
    → is_abortable agent signal (without_flag aside lock) ≡ is_abortable agent signal lock
abortable_without aside agent signal lock kept = at_all (aside lock.number) (lock.agent == agent)
    (is_signal signal lock.signal) lock.taken kept
  where
    at_all : (a b c d : Bool) → (a && b && c) ≡ false → (b && c && not (d && not a)) ≡ (b && c && not d)
    at_all false b c true kept = refl
    at_all false b c false kept = refl
    at_all true false c d kept = refl
    at_all true true false d kept = refl
    at_all true true true d kept = absurd (cc)

-- what a test of every lock in the list says
filter_without : (aside : ℕ → Bool) (p asked : HeldRow → Bool)
    → ((lock : HeldRow) → asked lock ≡ false → p (without_flag aside lock) ≡ p lock) → (held : List HeldRow)
    → list_any asked held ≡ false
    → filter p (map (without_flag aside) held) ≡ map (without_flag aside) (filter p held)
filter_without aside p asked same [] none = refl
filter_without aside p asked same (lock ∷ held) none =
    let parts = or_false (asked lock) (list_any asked held) none in
    let rest : filter p (map (without_flag aside) held) ≡ map (without_flag aside) (filter p held) =
    filter_without aside p asked same held parts.1 in
    rw (same lock parts.0)
    (elim (p lock) as (λ b. cond b (without_flag aside lock ∷ filter p (map (without_flag aside) held))
    (filter p (map (without_flag aside) held)) ≡ map (without_flag aside)
    (cond b (lock ∷ filter p held) (filter p held)))
    [ true ↦ ap (λ (rest : List HeldRow). without_flag aside lock ∷ rest) rest | false ↦ rest ])

if_alike : (aside : ℕ → Bool) (b c : Bool) (x y z w : StepResult) → c ≡ b → z ≡ step_result_without_flags aside x
    → w ≡ step_result_without_flags aside y → cond c z w ≡ step_result_without_flags aside (cond b x y)
if_alike aside true c x y z w same one two = rw same one
if_alike aside false c x y z w same one two = rw same two

steal_without : (aside : ℕ → Bool) (s : State) (request : PendingRow)
    → stealing_request (without_flags aside s) request ≡ step_result_without_flags aside (stealing_request s request)
steal_without aside s request =
    let others : filter (λ lock. not (bytes_eq lock.name request.name)) (map (without_flag aside) s.held)
    ≡ map (without_flag aside) (filter (λ lock. not (bytes_eq lock.name request.name)) s.held) =
    filter_map _ (without_flag aside) s.held in
    rw (
      others,
      locks_flagged (left aside) request.name s.held,
      ends_flagged (left aside) Stolen (locks request.name s.held),
    )
    (processed_without aside (steal_locks s request) (lock_ends Stolen (locks request.name s.held)) _)

plain_without : (aside : ℕ → Bool) (s : State) (request : PendingRow)
    → plain_request (without_flags aside s) request ≡ step_result_without_flags aside (plain_request s request)
plain_without aside s request = processed_without aside (enqueue s request) [] (reply.Request request.number)

request_without : (aside : ℕ → Bool) (s : State) (agent : ℕ) (ask : Ask)
    → request_step (without_flags aside s) agent ask ≡ step_result_without_flags aside (request_step s agent ask)
request_without aside s agent ask =
    let request = new_request s agent ask in
    let busy : Bool = ask.if_available && not (available s request) in
    let free : (ask.if_available && not (available (without_flags aside s) request))
    ≡ busy = rw (grants_flagged (left aside) request.name s.held (request ∷ [])) refl in
    if_alike aside ask.steal ask.steal (stealing_request s request)
    (cond busy (unavailable s request) (plain_request s request)) _ _ refl (steal_without aside s request)
    (if_alike aside busy _ (unavailable s request) (plain_request s request) _ _ free refl
    (plain_without aside s request))

release_without : (aside : ℕ → Bool) (s : State) (agent id : ℕ)
    → release_step (without_flags aside s) agent id ≡ step_result_without_flags aside (release_step s agent id)
release_without aside s agent id =
    let others : filter (λ lock. not (is_lock_of agent id lock)) (map (without_flag aside) s.held)
    ≡ map (without_flag aside) (filter (λ lock. not (is_lock_of agent id lock)) s.held) =
    filter_map _ (without_flag aside) s.held in
    let own : filter (is_lock_of agent id) (map (without_flag aside) s.held)
    ≡ map (without_flag aside) (filter (is_lock_of agent id) s.held) =
    filter_map (is_lock_of agent id) (without_flag aside) s.held in
    if_alike aside (list_any (is_lock_of agent id) s.held) _ _ _ _ _
    (any_map (is_lock_of agent id) (without_flag aside) s.held)
    (rw (others, own, ends_flagged (left aside) Released (filter (is_lock_of agent id) s.held))
    (processed_without aside (without_lock s agent id) (lock_ends Released (filter (is_lock_of agent id) s.held)) _))
    refl

take_without : (aside : ℕ → Bool) (s : State) (id : ℕ) → aside id ≡ false
    → take_step (without_flags aside s) id ≡ step_result_without_flags aside (take_step s id)
take_without aside s id kept =
    let there : list_any (is_untaken id) (map (without_flag aside) s.held)
    ≡ list_any (is_untaken id) s.held = any_map (is_untaken id) (without_flag aside) s.held
    ∙ any_same _ _ s.held (untaken_without aside id kept) in
    let taken : map (with_taken id) (map (without_flag aside) s.held)
    ≡ map (without_flag aside) (map (with_taken id) s.held) =
    map_twice (with_taken id) (without_flag aside) s.held ∙ map_same _ _ s.held (taken_without aside id kept)
    ∙ sym (map_twice (without_flag aside) (with_taken id) s.held) in
    if_alike aside (list_any (is_untaken id) s.held) _ _ _ _ _ there (rw taken refl) refl

abort_without : (aside : ℕ → Bool) (s : State) (agent signal : ℕ) (reason : Reason)
    → asks_for_flag aside s (Abort agent signal reason) ≡ false
    → abort_step (without_flags aside s) agent signal reason ≡ step_result_without_flags aside
    (abort_step s agent signal reason)
abort_without aside s agent signal reason kept =
    let others : filter (λ lock. not (is_abortable agent signal lock)) (map (without_flag aside) s.held)
    ≡ map (without_flag aside) (filter (λ lock. not (is_abortable agent signal lock)) s.held) =
    filter_without aside (λ lock. not (is_abortable agent signal lock)) _
    (λ lock asked. ap not (abortable_without aside agent signal lock asked)) s.held kept in
    let own : filter (is_abortable agent signal) (map (without_flag aside) s.held)
    ≡ map (without_flag aside) (filter (is_abortable agent signal) s.held) =
    filter_without aside (is_abortable agent signal) _ (abortable_without aside agent signal) s.held kept in
    if_alike aside (is_some (reason_in s.signals agent signal)) _ _ _ _ _ refl refl
    (rw (others, own, ends_flagged (left aside) (Aborted reason) (filter (is_abortable agent signal) s.held))
    (processed_without aside (with_aborted s agent signal reason) (abort_ends s agent signal reason) _))

terminate_without : (aside : ℕ → Bool) (s : State) (agent : ℕ)
    → terminate_step (without_flags aside s) agent ≡ step_result_without_flags aside (terminate_step s agent)
terminate_without aside s agent =
    let others : filter (λ lock. not (lock.agent == agent)) (map (without_flag aside) s.held)
    ≡ map (without_flag aside) (filter (λ lock. not (lock.agent == agent)) s.held) =
    filter_map _ (without_flag aside) s.held in
    let own : filter (λ lock. lock.agent == agent) (map (without_flag aside) s.held)
    ≡ map (without_flag aside) (filter (λ lock. lock.agent == agent) s.held) =
    filter_map _ (without_flag aside) s.held in
    rw (others, own, ends_flagged (left aside) Released (filter (λ lock. lock.agent == agent) s.held))
    (processed_without aside (without_agent s agent) (terminate_ends s agent) _)

query_without : (aside : ℕ → Bool) (s : State) (agent : ℕ) → accepted (without_flags aside s) (Query agent)
    ≡ step_result_without_flags aside (accepted s (Query agent))
query_without aside s agent =
    let seen : map lock_info (map (without_flag aside) s.held)
    ≡ map lock_info s.held = map_twice lock_info (without_flag aside) s.held in
    rw seen refl

accepted_without : (aside : ℕ → Bool) (s : State) (command : Command) → asks_for_flag aside s command ≡ false
    → accepted (without_flags aside s) command ≡ step_result_without_flags aside (accepted s command)
accepted_without aside s (Enter kind) kept = refl
accepted_without aside s (SetActive agent active) kept = refl
accepted_without aside s (NewSignal agent) kept = refl
accepted_without aside s (Request agent ask) kept = request_without aside s agent ask
accepted_without aside s (Take id) kept = take_without aside s id kept
accepted_without aside s (Release agent id) kept = release_without aside s agent id
accepted_without aside s (Abort agent signal reason) kept = abort_without aside s agent signal reason kept
accepted_without aside s (Terminate agent) kept = terminate_without aside s agent
accepted_without aside s (Query agent) kept = query_without aside s agent

refusal_without : (aside : ℕ → Bool) (s : State) (command : Command)
    → refusal (without_flags aside s) command ≡ refusal s command
refusal_without aside s (Enter kind) = refl
refusal_without aside s (SetActive agent active) = refl
refusal_without aside s (NewSignal agent) = refl
refusal_without aside s (Request agent ask) = rw (length-map s.held (without_flag aside)) refl
refusal_without aside s (Take id) = refl
refusal_without aside s (Release agent id) = refl
refusal_without aside s (Abort agent signal reason) = refl
refusal_without aside s (Terminate agent) = refl
refusal_without aside s (Query agent) = refl

asked_without : (aside : ℕ → Bool) (s : State) (command : Command)
    → asks_for_flag aside (without_flags aside s) command ≡ asks_for_flag aside s command
asked_without aside s (Enter kind) = refl
asked_without aside s (SetActive agent active) = refl
asked_without aside s (NewSignal agent) = refl
asked_without aside s (Request agent ask) = refl
asked_without aside s (Take id) = refl
asked_without aside s (Release agent id) = refl
asked_without aside s (Abort agent signal reason) = any_map _ (without_flag aside) s.held
asked_without aside s (Terminate agent) = refl
asked_without aside s (Query agent) = refl

step_without : (aside : ℕ → Bool) (s : State) (command : Command) → asks_for_flag aside s command ≡ false
    → step (without_flags aside s) command ≡ step_result_without_flags aside (step s command)
step_without aside s command kept = rw (refusal_without aside s command) (at_refusal (refusal s command))
  where
    at_refusal : (o : Option Refusal) → unless_refused o (without_flags aside s) command
        ≡ step_result_without_flags aside (unless_refused o s command)
    at_refusal None = accepted_without aside s command kept
    at_refusal (Some refusal) = refl

pub no_part : FlagsPlayNoPart
no_part aside s t command same kept =
    let other : asks_for_flag aside t command ≡ false = sym (asked_without aside t command)
    ∙ ap (λ (u : State). asks_for_flag aside u command) (sym same) ∙ asked_without aside s command ∙ kept in
    sym (step_without aside s command kept) ∙ ap (λ (u : State). step u command) same
    ∙ step_without aside t command other
