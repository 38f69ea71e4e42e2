-- In a reachable state an exclusive lock is the only lock of its name.
use Rattle.std.proofs.Common.{◌≡◌, ℕ, Bool, true, false, cond, List, [], ◌∷◌, ◌++◌, length, map, refl, sym, ◌∙◌}
use Rattle.std.proofs.Common.{append-nil, ◌==◌}
use Rattle.std.proofs.lemmas.List.{length-map}
use Rattle.std.specs.Prelude.{not, ◌&&◌, ◌||◌, filter, is_some}
use Rattle.std.specs.Str.{bytes_eq}
use Rattle.std.specs.List.{list_any}
use Rattle.std.specs.Cmp.Lexicographic.{same_text}
use Rattle.wl_types.specs.declared.phases.Change.{Change}
use Rattle.wl_types.specs.declared.phases.Phase.TheVariants.{Stolen, Released}
use Rattle.wl_types.specs.declared.ask.Ask.{Ask}
use Rattle.wl_machine.specs.declared.rows.HeldRow.{HeldRow}
use Rattle.wl_machine.specs.declared.rows.PendingRow.{PendingRow}
use Rattle.wl_machine.specs.declared.command.Command.{Command}
use Rattle.wl_machine.specs.declared.command.Command.TheVariants.{Enter, SetActive, NewSignal, Request, Take, Release}
use Rattle.wl_machine.specs.declared.command.Command.TheVariants.{Abort, Terminate, Query}
use Rattle.wl_machine.specs.declared.command.Reply.{Reply}
use Rattle.wl_machine.specs.declared.command.Reply.TheVariants as reply
use Rattle.wl_machine.specs.State.{State, opening}
use Rattle.wl_machine.specs.Grants.{is_exclusive, any_exclusive, grants, shared_prefix, granted_lock, locks, queue}
use Rattle.wl_machine.specs.Grants.{Lists, lists_of, process_queue, process_queues}
use Rattle.wl_machine.specs.Refusals.{reason_in}
use Rattle.wl_machine.specs.Step.{after_processing, accepted, is_untaken, is_lock_of, is_abortable, new_request}
use Rattle.wl_machine.specs.Step.{available, request_step, steal_locks, enqueue, stealing_request, plain_request}
use Rattle.wl_machine.specs.Step.{unavailable, without_lock, with_aborted, without_agent, lock_ends, abort_ends}
use Rattle.wl_machine.specs.Step.{terminate_ends}
use Rattle.wl_machine.specs.Laws.{ExclusiveIsAlone}
use Rattle.wl_machine.proofs.Lists.{filters_commute, any_filter}
use Rattle.wl_machine.proofs.Flagged.{flagged, locks_flagged, exclusive_flagged}
use Rattle.wl_machine.proofs.Quiet.{grants_behind, grants_beside, shared_locks, locks_processed, locks_unprocessed}
use Rattle.wl_machine.proofs.Runs.{after_run, either}

-- locks of one name
abbrev pub alone : List HeldRow → Type 0
alone held = any_exclusive held ≡ true → length held ≡ 1

abbrev All_alone : List HeldRow → Type 0
All_alone held = (name : List ℕ) → alone (locks name held)

-- of locks of which one that is exclusive is alone, some
pub alone_filter : (p : HeldRow → Bool) (held : List HeldRow) → alone held → alone (filter p held)
alone_filter p [] one some = absurd (cc)
alone_filter p (lock ∷ []) one some = at_test (p lock) refl
  where
    at_test : (b : Bool) → p lock ≡ b → length (filter p (lock ∷ [])) ≡ 1
    at_test true is = rw is refl
    at_test false is = absurd (let no : false ≡ true = rw is at some in cc)
alone_filter p (lock ∷ other ∷ held) one some =
    absurd (let two : length (lock ∷ other ∷ held) ≡ 1 = one
    (any_filter (λ (l : HeldRow). is_exclusive l.mode) p (lock ∷ other ∷ held) some) in cc)

alone_granted : (held : List HeldRow) (requests : List PendingRow) (b : Bool) → any_exclusive held ≡ b → alone held
    → alone (held ++ map granted_lock (grants held requests))
alone_granted held requests true is one = let none : grants held requests ≡ [] = grants_behind held requests is
    in rw none (rw (append-nil held) one)
alone_granted (lock ∷ held) requests false is one =
    rw (grants_beside lock held requests is) (λ some. absurd
    (let no : any_exclusive ((lock ∷ held) ++ map granted_lock (shared_prefix requests))
    ≡ false = shared_locks (lock ∷ held) requests ∙ is in cc (no, some)))
alone_granted [] [] false is one = one
alone_granted [] (request ∷ requests) false is one = at_mode (is_exclusive request.mode) refl
  where
    at_mode : (b : Bool) → is_exclusive request.mode ≡ b → alone
        ([] ++ map granted_lock (grants [] (request ∷ requests)))
    at_mode true is = let first : grants [] (request ∷ requests) ≡ request ∷ [] = rw is refl in rw first (λ some. refl)
    at_mode false is =
        let all : grants [] (request ∷ requests) ≡ shared_prefix (request ∷ requests) = rw is refl in
        rw all (λ some. absurd (let no : any_exclusive (map granted_lock (shared_prefix (request ∷ requests)))
        ≡ false = shared_locks [] (request ∷ requests) in cc (no, some)))

alone_process : (lists : Lists) (name : List ℕ) → All_alone lists.held → All_alone (process_queue lists name).held
alone_process lists name all other = at_name (bytes_eq name other) refl
  where
    at_name : (b : Bool) → bytes_eq name other ≡ b → alone (locks other (process_queue lists name).held)
    at_name true is = let same : name ≡ other = same_text name other (sym is) in
        rw (← same) (rw (locks_processed lists name) (alone_granted (locks name lists.held) (queue name lists.pending)
        (any_exclusive (locks name lists.held)) refl (all name)))
    at_name false is = rw (locks_unprocessed lists name other is) (all other)

alone_processes : (names : List (List ℕ)) (lists : Lists) → All_alone lists.held
    → All_alone (process_queues lists names).held
alone_processes [] lists all = all
alone_processes (name ∷ names) lists all = alone_processes names (process_queue lists name)
    (alone_process lists name all)

alone_processed : (s : State) (ends : List Change) (answer : Reply) → All_alone s.held
    → All_alone (after_processing s ends answer).state.held
alone_processed s ends answer all = alone_processes s.names (lists_of s.held s.pending ends) all

all_filter : (p : HeldRow → Bool) (held : List HeldRow) → All_alone held → All_alone (filter p held)
all_filter p held all name = rw (filters_commute (λ (lock : HeldRow). bytes_eq lock.name name) p held)
    (alone_filter p (locks name held) (all name))

all_flagged : (flag : HeldRow → Bool) (held : List HeldRow) → All_alone held → All_alone (map (flagged flag) held)
all_flagged flag held all name = rw (locks_flagged flag name held)
    (rw (exclusive_flagged flag (locks name held), length-map (locks name held) (flagged flag)) (all name))

abbrev IsAlone : State → Type 0
IsAlone s = All_alone s.held

alone_request : (s : State) (agent : ℕ) (ask : Ask) → IsAlone s → IsAlone (request_step s agent ask).state
alone_request s agent ask all =
    let request = new_request s agent ask in
    either IsAlone ask.steal (stealing_request s request) (cond (ask.if_available && not (available s request))
    (unavailable s request) (plain_request s request))
    (alone_processed (steal_locks s request) (lock_ends Stolen (locks request.name s.held)) reply.Done
    (all_filter (λ lock. not (bytes_eq lock.name request.name)) s.held all))
    (either IsAlone (ask.if_available && not (available s request)) (unavailable s request) (plain_request s request)
    all (alone_processed (enqueue s request) [] reply.Done all))

alone_accepted : (s : State) (command : Command) → IsAlone s → IsAlone (accepted s command).state
alone_accepted s (Enter kind) all = all
alone_accepted s (SetActive agent active) all = all
alone_accepted s (NewSignal agent) all = all
alone_accepted s (Request agent ask) all = alone_request s agent ask all
alone_accepted s (Take id) all = either IsAlone (list_any (is_untaken id) s.held) _ _
    (all_flagged (λ lock. lock.taken || lock.number == id) s.held all) all
alone_accepted s (Release agent id) all = either IsAlone (list_any (is_lock_of agent id) s.held) _ _
    (alone_processed (without_lock s agent id) (lock_ends Released (filter (is_lock_of agent id) s.held)) reply.Done
    (all_filter (λ lock. not (is_lock_of agent id lock)) s.held all)) all
alone_accepted s (Abort agent signal reason) all = either IsAlone (is_some (reason_in s.signals agent signal)) _ _ all
    (alone_processed (with_aborted s agent signal reason) (abort_ends s agent signal reason) reply.Done
    (all_filter (λ lock. not (is_abortable agent signal lock)) s.held all))
alone_accepted s (Terminate agent) all = alone_processed (without_agent s agent) (terminate_ends s agent) reply.Done
    (all_filter (λ lock. not (lock.agent == agent)) s.held all)
alone_accepted s (Query agent) all = all

pub exclusive_alone : ExclusiveIsAlone
exclusive_alone next commands = after_run IsAlone alone_accepted commands (opening next) (λ name some. absurd (cc))
