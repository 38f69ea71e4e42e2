-- How each command moves one request.
use Rattle.std.proofs.Common.{◌≡◌, ℕ, ◌+◌, ◌≤◌, Bool, true, false, cond, List, [], ◌∷◌, ◌++◌, length, map, refl, arith}
use Rattle.std.proofs.Common.{ap, sym, ◌∙◌, inl, inr, append-nil, append_assoc, length-append, eq-eqb, ne_eqb, subst}
use Rattle.std.specs.Prelude.{◌⊎◌, ◌==◌, filter, not, ◌&&◌, ◌||◌, is_some, Option, Some, None}
use Rattle.std.specs.List.{list_any}
use Rattle.std.proofs.lemmas.List.{map-append}
use Rattle.std.specs.Str.{bytes_eq}
use mathlib.Core.Logic.{dite}
use native.Mathlib.Decide.{ℕ_discrete}
use Rattle.wl_types.specs.Phases.{is_end, is_move}
use Rattle.wl_types.specs.declared.phases.Phase.{Phase}
use Rattle.wl_types.specs.declared.phases.Phase.TheVariants.{Pending, Granted, Taken, Unavailable, Aborted, Released}
use Rattle.wl_types.specs.declared.phases.Phase.TheVariants.{Stolen}
use Rattle.wl_types.specs.declared.words.Reason.{Reason}
use Rattle.wl_types.specs.declared.words.Reason.TheVariants.{AbortError}
use Rattle.wl_types.specs.declared.phases.Change.{Change}
use Rattle.wl_types.specs.declared.refusal.Refusal.{Refusal}
use Rattle.wl_types.specs.declared.ask.Ask.{Ask}
use Rattle.wl_machine.specs.declared.command.Command.{Command}
use Rattle.wl_machine.specs.declared.command.Command.TheVariants.{Enter, SetActive, NewSignal, Request, Take, Release}
use Rattle.wl_machine.specs.declared.command.Command.TheVariants.{Abort, Terminate, Query}
use Rattle.wl_machine.specs.declared.command.Reply.{Reply}
use Rattle.wl_machine.specs.declared.command.Reply.TheVariants as reply
use Rattle.wl_types.specs.declared.answers.ReleaseAnswer.TheVariants as released
use Rattle.wl_types.specs.declared.answers.AbortAnswer.TheVariants as aborted
use Rattle.wl_machine.specs.declared.rows.HeldRow.{HeldRow}
use Rattle.wl_machine.specs.declared.rows.PendingRow.{PendingRow}
use Rattle.wl_machine.specs.State.{State}
use Rattle.wl_machine.specs.Grants.{locks}
use Rattle.wl_machine.specs.Refusals.{refusal, reason_in}
use Rattle.wl_machine.specs.Step.{StepResult, step, accepted, unless_refused, no_changes, lock_ends, request_ends}
use Rattle.wl_machine.specs.Step.{with_name, new_request, with_number_used, available, plain_request, unavailable}
use Rattle.wl_machine.specs.Step.{stealing_request, request_step, is_lock_of, release_step, is_untaken, with_taken}
use Rattle.wl_machine.specs.Step.{is_waiting_on, is_abortable, with_reason, abort_step, terminate_step}
use Rattle.wl_machine.specs.Laws.{phases_of}
use Rattle.wl_machine.specs.OneMove.{lock_phase, held_phases, pending_phases, phases_in, MovesOnce, IsNumbered}
use Rattle.wl_machine.specs.OneMove.{is_plain_move, added_phases, table_of, is_take, taken_from, RequestsMoveOnce}
use Rattle.wl_machine.specs.OneMove.{NumbersStayApart, TakeTakesOne}
use Rattle.wl_machine.proofs.ProcessingMoves.{processed_moves, pending_phases-append, phases_of-append}
use Rattle.wl_machine.proofs.Runs.{either}
use Rattle.wl_machine.proofs.EndMoves.{locks_end, requests_end, both_end}

-- an outcome moves the request of this number once at most
record Moved (table : Phase → Phase → Bool) (before : List Phase) (id : ℕ) (o : StepResult) : Type 0 where
  pub once : MovesOnce table before (phases_of id o.changes) (phases_in o.state id)

if_moved : (table : Phase → Phase → Bool) (before : List Phase) (id : ℕ) (b : Bool) (x y : StepResult)
    → Moved table before id x → Moved table before id y → Moved table before id (cond b x y)
if_moved table before id true x y one two = one
if_moved table before id false x y one two = two

held_most : (s : State) (id : ℕ) → IsNumbered s → length (held_phases id s.held) ≤ 1
held_most s id num = let most = num.one id in let both = length-append (held_phases id s.held)
    (pending_phases id s.pending) in omega (arith, most, both)

pending_most : (s : State) (id : ℕ) → IsNumbered s → length (pending_phases id s.pending) ≤ 1
pending_most s id num = let most = num.one id in let both =
    length-append (held_phases id s.held) (pending_phases id s.pending) in omega (arith, most, both)

lock_leaves : (to : Phase) (l : HeldRow) → is_plain_move Granted to ≡ true → is_plain_move Taken to ≡ true
    → is_plain_move (lock_phase l) to ≡ true
lock_leaves to l granted taken = elim l.taken as (λ b. is_plain_move (cond b Taken Granted) to ≡ true)
    [ true ↦ taken | false ↦ granted ]

release_moves : (s : State) (agent lock id : ℕ) → IsNumbered s
    → Moved is_plain_move (phases_in s id) id (release_step s agent lock)
release_moves s agent lock id num =
    if_moved is_plain_move (phases_in s id) id (list_any (is_lock_of agent lock) s.held) _ _
    (record {
      once = processed_moves is_plain_move id (record s { held = filter (λ l. not (is_lock_of agent lock l)) s.held })
          (lock_ends Released (filter (is_lock_of agent lock) s.held)) (reply.Released released.Released)
          (phases_in s id)
          refl (num.one id)
          (both_end is_plain_move (held_phases id s.held) (pending_phases id s.pending) _ _ _ [] (num.one id)
          (locks_end is_plain_move (is_lock_of agent lock) Released id s.held refl
          (λ l chosen. lock_leaves Released l refl refl) (held_most s id num)) (inl (refl, refl)));
    })
    (record { once = inl (refl, refl) })

terminate_moves : (s : State) (agent id : ℕ) → IsNumbered s
    → Moved is_plain_move (phases_in s id) id (terminate_step s agent)
terminate_moves s agent id num = record {
  once =
      processed_moves is_plain_move id (record s {
        agents = filter (λ row. not (row.number == agent)) s.agents;
        signals = filter (λ row. not (row.agent == agent)) s.signals;
        held = filter (λ lock. not (lock.agent == agent)) s.held;
        pending = filter (λ request. not (request.agent == agent)) s.pending;
      })
      (request_ends (Aborted AbortError) (filter (λ request. request.agent == agent) s.pending)
      ++ lock_ends Released (filter (λ lock. lock.agent == agent) s.held)) reply.Done (phases_in s id) refl
      (num.one id)
      (rw (phases_of-append id (request_ends (Aborted AbortError)
      (filter (λ request. request.agent == agent) s.pending))
      (lock_ends Released (filter (λ lock. lock.agent == agent) s.held)))
      (both_end is_plain_move (held_phases id s.held) (pending_phases id s.pending) _ _ _ _ (num.one id)
      (locks_end is_plain_move (λ lock. lock.agent == agent) Released id s.held refl
      (λ l chosen. lock_leaves Released l refl refl) (held_most s id num))
      (requests_end is_plain_move (λ request. request.agent == agent) (Aborted AbortError) id s.pending refl refl
      (pending_most s id num))));
}

abortable_granted : (agent signal : ℕ) (reason : Reason) (l : HeldRow) → is_abortable agent signal l ≡ true
    → is_move (lock_phase l) (Aborted reason) ≡ true
abortable_granted agent signal reason l chosen = at_flag l.taken refl
  where
    none : (b : Bool) → (b && false) ≡ false
    none true = refl
    none false = refl

    at_flag : (b : Bool) → l.taken ≡ b → is_move (lock_phase l) (Aborted reason) ≡ true
    at_flag false is = rw is refl
    at_flag true is = absurd (let no : false ≡ true = sym (none _) ∙ (rw is at chosen) in cc)

abort_moves : (s : State) (agent signal : ℕ) (reason : Reason) (id : ℕ) → IsNumbered s
    → Moved is_move (phases_in s id) id (abort_step s agent signal reason)
abort_moves s agent signal reason id num =
    if_moved is_move (phases_in s id) id (is_some (reason_in s.signals agent signal)) _ _
    (record { once = inl (refl, refl) })
    (record {
      once = processed_moves is_move id (record s {
        signals = map (with_reason agent signal reason) s.signals;
        held = filter (λ lock. not (is_abortable agent signal lock)) s.held;
        pending = filter (λ request. not (is_waiting_on agent signal request)) s.pending;
      })
          (request_ends (Aborted reason) (filter (is_waiting_on agent signal) s.pending)
          ++ lock_ends (Aborted reason) (filter (is_abortable agent signal) s.held)) (reply.Aborted aborted.Done)
          (phases_in s id) refl (num.one id)
          (rw (phases_of-append id (request_ends (Aborted reason) (filter (is_waiting_on agent signal) s.pending))
          (lock_ends (Aborted reason) (filter (is_abortable agent signal) s.held)))
          (both_end is_move (held_phases id s.held) (pending_phases id s.pending) _ _ _ _ (num.one id)
          (locks_end is_move (is_abortable agent signal) (Aborted reason) id s.held refl
          (abortable_granted agent signal reason) (held_most s id num))
          (requests_end is_move (is_waiting_on agent signal) (Aborted reason) id s.pending refl refl
          (pending_most s id num))));
    })

-- the phase of a request that is added
abbrev added_by_request : State → ℕ → List Phase
added_by_request s id = cond (s.next.request == id) (Pending ∷ []) []

one_request : (s : State) (r : PendingRow) (id : ℕ) → r.number ≡ s.next.request
    → pending_phases id (r ∷ []) ≡ added_by_request s id
one_request s r id e = each (r.number == id) ∙ ap (λ n. cond (n == id) (Pending ∷ []) []) e
  where
    each : (b : Bool) → map (λ (x : PendingRow). Pending) (cond b (r ∷ []) []) ≡ cond b (Pending ∷ []) []
    each true = refl
    each false = refl

new_or_none : (s : State) (id : ℕ) → IsNumbered s → ((s.next.request == id) ≡ true × (phases_in s id ≡ []))
    ⊎ ((s.next.request == id) ≡ false)
new_or_none s id num = dite (ℕ_discrete s.next.request id) (λ e. inl
    (eq-eqb s.next.request id e, num.below id (omega (arith, e)))) (λ n. inr (ne_eqb s.next.request id n))

added_by_request_most : (s : State) (id : ℕ) → IsNumbered s → length (phases_in s id ++ added_by_request s id) ≤ 1
added_by_request_most s id num = at_new (new_or_none s id num)
  where
    at_new : ((s.next.request == id) ≡ true × (phases_in s id ≡ [])) ⊎ ((s.next.request == id) ≡ false)
        → length (phases_in s id ++ added_by_request s id) ≤ 1
    at_new (inl (is, none)) = rw (none, is) (omega arith)
    at_new (inr is) = rw (is, append-nil (phases_in s id)) (num.one id)

plain_moves : (s : State) (r : PendingRow) (id : ℕ) → r.number ≡ s.next.request → IsNumbered s
    → Moved is_plain_move (phases_in s id ++ added_by_request s id) id (plain_request s r)
plain_moves s r id e num = record {
  once =
      processed_moves is_plain_move id (record (with_number_used s) {
        names = with_name r.name s.names;
        pending = s.pending ++ r ∷ [];
      }) [] (reply.Request r.number) (phases_in s id ++ added_by_request s id) refl
      (added_by_request_most s id num)
      (inl (
        refl,
        rw (pending_phases-append id s.pending (r ∷ []), one_request s r id e)
            (sym (append_assoc (held_phases id s.held) (pending_phases id s.pending) (added_by_request s id))),
      ));
}

in_front : (s : State) (r : PendingRow) (id : ℕ) → r.number ≡ s.next.request → IsNumbered s
    → pending_phases id (r ∷ s.pending) ≡ pending_phases id s.pending ++ added_by_request s id
in_front s r id e num = at_new (new_or_none s id num)
  where
    right_none : (h p : List Phase) → h ++ p ≡ [] → p ≡ []
    right_none [] p none = none
    right_none (x ∷ h) p none = absurd (cc)

    at_new : ((s.next.request == id) ≡ true × (phases_in s id ≡ [])) ⊎ ((s.next.request == id) ≡ false)
        → pending_phases id (r ∷ s.pending) ≡ pending_phases id s.pending ++ added_by_request s id
    at_new (inl (is, none)) = rw (e, is, right_none (held_phases id s.held) (pending_phases id s.pending) none) refl
    at_new (inr is) = rw (e, is) (sym (append-nil (pending_phases id s.pending)))

steal_moves : (s : State) (r : PendingRow) (id : ℕ) → r.number ≡ s.next.request → IsNumbered s
    → Moved is_plain_move (phases_in s id ++ added_by_request s id) id (stealing_request s r)
steal_moves s r id e num = record {
  once =
      processed_moves is_plain_move id (record (with_number_used s) {
        names = with_name r.name s.names;
        held = filter (λ lock. not (bytes_eq lock.name r.name)) s.held;
        pending = r ∷ s.pending;
      })
      (lock_ends Stolen (locks r.name s.held)) (reply.Request r.number) (phases_in s id ++ added_by_request s id) refl
      (added_by_request_most s id num)
      (rw (
        append_assoc (held_phases id s.held) (pending_phases id s.pending) (added_by_request s id),
        in_front s r id e num,
      )
      (both_end is_plain_move (held_phases id s.held) (pending_phases id s.pending ++ added_by_request s id) _ _ _ []
      (rw (append_assoc (held_phases id s.held) (pending_phases id s.pending) (added_by_request s id)) at
      (added_by_request_most s id num))
      (locks_end is_plain_move (λ lock. bytes_eq lock.name r.name) Stolen id s.held refl
      (λ l chosen. lock_leaves Stolen l refl refl) (held_most s id num)) (inl (refl, refl))));
}

unavailable_moves : (s : State) (r : PendingRow) (id : ℕ) → r.number ≡ s.next.request → IsNumbered s
    → Moved is_plain_move (phases_in s id ++ added_by_request s id) id (unavailable s r)
unavailable_moves s r id e num = at_new (new_or_none s id num)
  where
    at_new : ((s.next.request == id) ≡ true × (phases_in s id ≡ [])) ⊎ ((s.next.request == id) ≡ false)
        → Moved is_plain_move (phases_in s id ++ added_by_request s id) id (unavailable s r)
    at_new (inl (is, none)) = record {
      once = inr (
        Pending,
        Unavailable,
        rw (none, is) refl,
        rw (e, is) refl,
        refl,
        none,
      );
    }
    at_new (inr is) = record { once = inl (rw (e, is) refl, rw is (sym (append-nil (phases_in s id)))) }

request_moves : (s : State) (agent : ℕ) (ask : Ask) (id : ℕ) → IsNumbered s
    → Moved is_plain_move (phases_in s id ++ added_by_request s id) id (request_step s agent ask)
request_moves s agent ask id num =
    if_moved is_plain_move (phases_in s id ++ added_by_request s id) id ask.steal _ _
    (steal_moves s (new_request s agent ask) id refl num)
    (if_moved is_plain_move (phases_in s id ++ added_by_request s id) id
    (ask.if_available && not (available s (new_request s agent ask))) _ _
    (unavailable_moves s (new_request s agent ask) id refl num) (plain_moves s (new_request s agent ask) id refl num))

-- a command that adds no request
none_added : (table : Phase → Phase → Bool) (before changes after : List Phase) → MovesOnce table before changes after
    → MovesOnce table (before ++ []) changes after
none_added table before changes after moves = rw (append-nil before) moves

pub requests_move_once : RequestsMoveOnce
requests_move_once s (Enter kind) id num other = none_added is_plain_move (phases_in s id) _ _ (inl (refl, refl))
requests_move_once s (SetActive agent active) id num other =
    none_added is_plain_move (phases_in s id) _ _ (inl (refl, refl))
requests_move_once s (NewSignal agent) id num other = none_added is_plain_move (phases_in s id) _ _ (inl (refl, refl))
requests_move_once s (Request agent ask) id num other = (request_moves s agent ask id num).once
requests_move_once s (Take taken) id num other = absurd (cc)
requests_move_once s (Release agent lock) id num other = none_added is_plain_move (phases_in s id) _ _
    (release_moves s agent lock id num).once
requests_move_once s (Abort agent signal reason) id num other =
    none_added is_move (phases_in s id) _ _ (abort_moves s agent signal reason id num).once
requests_move_once s (Terminate agent) id num other = none_added is_plain_move (phases_in s id) _ _
    (terminate_moves s agent id num).once
requests_move_once s (Query agent) id num other = none_added is_plain_move (phases_in s id) _ _ (inl (refl, refl))

-- a lock that is taken, and another
with_taken_phase : (taken : ℕ) (l : HeldRow) → lock_phase (with_taken taken l)
    ≡ cond (l.number == taken) (taken_from (lock_phase l)) (lock_phase l)
with_taken_phase taken l = at_flags (l.number == taken) l.taken refl refl
  where
    at_flags : (n t : Bool) → (l.number == taken) ≡ n → l.taken ≡ t
        → lock_phase (with_taken taken l) ≡ cond (l.number == taken) (taken_from (lock_phase l)) (lock_phase l)
    at_flags true true number flag = rw (number, flag) refl
    at_flags true false number flag = rw (number, flag) refl
    at_flags false true number flag = rw (number, flag) refl
    at_flags false false number flag = rw (number, flag) refl

take_held : (taken id : ℕ) (held : List HeldRow) → held_phases id (map (with_taken taken) held)
    ≡ cond (id == taken) (map taken_from (held_phases id held)) (held_phases id held)
take_held taken id [] = nothing (id == taken)
  where
    nothing : (b : Bool) → held_phases id [] ≡ cond b (map taken_from (held_phases id [])) (held_phases id [])
    nothing true = refl
    nothing false = refl
take_held taken id (l ∷ held) = at_number (ℕ_discrete l.number id) (ℕ_discrete id taken) (take_held taken id held)
  where
    at_number : Dec (l.number ≡ id) → Dec (id ≡ taken) → held_phases id (map (with_taken taken) held)
        ≡ cond (id == taken) (map taken_from (held_phases id held)) (held_phases id held)
        → map lock_phase (cond ((with_taken taken l).number == id)
        (with_taken taken l ∷ filter (λ x. x.number == id) (map (with_taken taken) held))
        (filter (λ x. x.number == id) (map (with_taken taken) held)))
        ≡ cond (id == taken) (map taken_from (map lock_phase
        (cond (l.number == id) (l ∷ filter (λ x. x.number == id) held) (filter (λ x. x.number == id) held))))
        (map lock_phase (cond (l.number == id) (l ∷ filter (λ x. x.number == id) held)
        (filter (λ x. x.number == id) held)))
    at_number (no other) here rest = rw (ne_eqb l.number id other) rest
    at_number (yes same) (yes this) rest =
        let was : held_phases id (map (with_taken taken) held)
        ≡ map taken_from (held_phases id held) = rw (eq-eqb id taken this) at rest in
        let one : lock_phase (with_taken taken l) ≡ taken_from (lock_phase l) = with_taken_phase taken l
        ∙ ap (λ b. cond b (taken_from (lock_phase l)) (lock_phase l)) (eq-eqb l.number taken (same ∙ this)) in
        rw (eq-eqb l.number id same, eq-eqb id taken this, one, was) refl
    at_number (yes same) (no other) rest =
        let was : held_phases id (map (with_taken taken) held)
        ≡ held_phases id held = rw (ne_eqb id taken other) at rest in
        let one : lock_phase (with_taken taken l) ≡ lock_phase l = with_taken_phase taken l
        ∙ ap (λ b. cond b (taken_from (lock_phase l)) (lock_phase l))
        (ne_eqb l.number taken (λ e. other (sym same ∙ e))) in
        rw (eq-eqb l.number id same, ne_eqb id taken other, one, was) refl

-- where none is untaken, a take leaves the locks
none_taken : (taken : ℕ) (held : List HeldRow) → list_any (is_untaken taken) held ≡ false
    → map (with_taken taken) held ≡ held
none_taken taken [] none = refl
none_taken taken (l ∷ held) none = at_flags (l.number == taken) l.taken refl refl (none_taken taken held)
  where
    as_it_is : (b : Bool) → b ≡ l.taken → record l { taken = b } ∷ held ≡ l ∷ held
    as_it_is b same = ap (λ (t : Bool). record l { taken = t } ∷ held) same

    at_flags : (n t : Bool) → (l.number == taken) ≡ n → l.taken ≡ t
        → (list_any (is_untaken taken) held ≡ false → map (with_taken taken) held ≡ held)
        → map (with_taken taken) (l ∷ held) ≡ l ∷ held
    at_flags true false number flag rest = absurd (let no : true ≡ false = rw (number, flag) at none in cc)
    at_flags true true number flag rest = rw (rest (rw (number, flag) at none))
        (as_it_is (l.taken || (l.number == taken)) (rw (number, flag) refl))
    at_flags false true number flag rest = rw (rest (rw number at none))
        (as_it_is (l.taken || (l.number == taken)) (rw (number, flag) refl))
    at_flags false false number flag rest = rw (rest (rw number at none))
        (as_it_is (l.taken || (l.number == taken)) (rw (number, flag) refl))

pub take_lists : (s : State) (taken : ℕ) → (step s (Take taken)).state
    ≡ record s { held = map (with_taken taken) s.held }
take_lists s taken = at_any (list_any (is_untaken taken) s.held) refl
  where
    at_any : (b : Bool) → list_any (is_untaken taken) s.held ≡ b
        → (step s (Take taken)).state ≡ record s { held = map (with_taken taken) s.held }
    at_any true is = rw is refl
    at_any false is = rw (is, none_taken taken s.held is) refl

still_pending : (rows : List PendingRow) → map taken_from (map (λ (x : PendingRow). Pending) rows)
    ≡ map (λ (x : PendingRow). Pending) rows
still_pending [] = refl
still_pending (r ∷ rows) = ap (λ (ps : List Phase). Pending ∷ ps) (still_pending rows)

take_phases : (b : Bool) (h : List Phase) (rows : List PendingRow)
    → cond b (map taken_from h) h ++ map (λ (x : PendingRow). Pending) rows
    ≡ cond b (map taken_from (h ++ map (λ (x : PendingRow). Pending) rows))
    (h ++ map (λ (x : PendingRow). Pending) rows)
take_phases true h rows = rw (map-append taken_from h (map (λ (x : PendingRow). Pending) rows), still_pending rows) refl
take_phases false h rows = refl

pub take_takes_one : TakeTakesOne
take_takes_one s taken id = rw (take_lists s taken, take_held taken id s.held)
    (take_phases (id == taken) (held_phases id s.held) (filter (λ request. request.number == id) s.pending))

pub after_most : (table : Phase → Phase → Bool) (before changes after : List Phase)
    → MovesOnce table before changes after → length before ≤ 1 → length after ≤ 1
after_most table before changes after (inl e) most = rw e.1 most
after_most table before changes after (inr (from, to, was, gives, move, left)) most =
    rw left (elim (is_end to) as (λ b. length (cond b [] (to ∷ [])) ≤ 1) [ true ↦ omega arith | false ↦ omega arith ])

pub after_none : (table : Phase → Phase → Bool) (before changes after : List Phase)
    → MovesOnce table before changes after → before ≡ [] → after ≡ []
after_none table before changes after (inl e) none = e.1 ∙ none
after_none table before changes after (inr (from, to, was, gives, move, left)) none =
    absurd (let no : (from ∷ []) ≡ [] = sym was ∙ none in cc)

-- a command that adds no request and moves each once
stay_apart : (table : Phase → Phase → Bool) (s : State) (o : StepResult) → o.state.next.request ≡ s.next.request
    → IsNumbered s → ((id : ℕ) → Moved table (phases_in s id) id o) → IsNumbered o.state
stay_apart table s o next num moves = record {
  one = λ id. after_most table (phases_in s id) (phases_of id o.changes) (phases_in o.state id) (moves id).once
      (num.one id);
  below = λ id low. after_none table (phases_in s id) (phases_of id o.changes) (phases_in o.state id) (moves id).once
      (num.below id (rw next at low));
}

if_next : (b : Bool) (x y : StepResult) (n : ℕ) → x.state.next.request ≡ n → y.state.next.request ≡ n
    → (cond b x y).state.next.request ≡ n
if_next true x y n one two = one
if_next false x y n one two = two

request_next : (s : State) (agent : ℕ) (ask : Ask) → (request_step s agent ask).state.next.request ≡ s.next.request + 1
request_next s agent ask =
    if_next ask.steal (stealing_request s (new_request s agent ask)) _ (s.next.request + 1) refl
    (if_next (ask.if_available && not (available s (new_request s agent ask))) (unavailable s (new_request s agent ask))
    (plain_request s (new_request s agent ask)) (s.next.request + 1) refl refl)

request_numbered : (s : State) (agent : ℕ) (ask : Ask) → IsNumbered s → IsNumbered (request_step s agent ask).state
request_numbered s agent ask num = record {
  one = λ id. after_most is_plain_move (phases_in s id ++ added_by_request s id) _ _
      (request_moves s agent ask id num).once (added_by_request_most s id num);
  below = λ id low.
      let high : s.next.request + 1 ≤ id = rw (request_next s agent ask) at low in
      after_none is_plain_move (phases_in s id ++ added_by_request s id) _ _ (request_moves s agent ask id num).once
      (rw (num.below id (omega (arith, high)), ne_eqb s.next.request id (λ e. absurd (omega (arith, high, e)))) refl);
}

mapped_most : (f : Phase → Phase) (b : Bool) (xs : List Phase) → length xs ≤ 1 → length (cond b (map f xs) xs) ≤ 1
mapped_most f false xs most = most
mapped_most f true [] most = omega arith
mapped_most f true (x ∷ []) most = omega arith
mapped_most f true (x ∷ y ∷ xs) most = absurd (omega (arith, most))

mapped_none : (f : Phase → Phase) (b : Bool) (xs : List Phase) → xs ≡ [] → cond b (map f xs) xs ≡ []
mapped_none f true xs none = rw none refl
mapped_none f false xs none = none

take_numbered : (s : State) (taken : ℕ) → IsNumbered s → IsNumbered (step s (Take taken)).state
take_numbered s taken num = record {
  one = λ id. rw (take_takes_one s taken id) (mapped_most taken_from (id == taken) (phases_in s id) (num.one id));
  below = λ id low. rw (take_takes_one s taken id) (mapped_none taken_from (id == taken) (phases_in s id)
      (num.below id (subst (λ (t : State). t.next.request ≤ id) (take_lists s taken) low)));
}

pub accepted_numbered : (s : State) (command : Command) → IsNumbered s → IsNumbered (accepted s command).state
accepted_numbered s (Enter kind) num = record { one = num.one; below = num.below }
accepted_numbered s (SetActive agent active) num = record { one = num.one; below = num.below }
accepted_numbered s (NewSignal agent) num = record { one = num.one; below = num.below }
accepted_numbered s (Request agent ask) num = request_numbered s agent ask num
accepted_numbered s (Take taken) num = take_numbered s taken num
accepted_numbered s (Release agent lock) num = stay_apart is_plain_move s (release_step s agent lock)
    (if_next (list_any (is_lock_of agent lock) s.held) _ (no_changes s (reply.Released released.NotHeld)) s.next.request
    refl refl) num (λ id. release_moves s agent lock id num)
accepted_numbered s (Abort agent signal reason) num = stay_apart is_move s (abort_step s agent signal reason)
    (if_next (is_some (reason_in s.signals agent signal)) (no_changes s (reply.Aborted aborted.AlreadyAborted)) _
    s.next.request refl refl) num (λ id. abort_moves s agent signal reason id num)
accepted_numbered s (Terminate agent) num = stay_apart is_plain_move s (terminate_step s agent) refl num
    (λ id. terminate_moves s agent id num)
accepted_numbered s (Query agent) num = num

unless_numbered : (r : Option Refusal) (s : State) (command : Command) → IsNumbered s
    → IsNumbered (unless_refused r s command).state
unless_numbered None s command num = accepted_numbered s command num
unless_numbered (Some r) s command num = num

pub numbers_stay_apart : NumbersStayApart
numbers_stay_apart s command num = unless_numbered (refusal s command) s command num

-- what a command that nothing refuses gives, by its reply
abbrev pub is_refused : Reply → Bool
is_refused (reply.Refused r) = true
is_refused answer = false

pub by_step : (s : State) (command : Command) (new : State) (answer : Reply) (changes : List Change)
    → step s command ≡ record { state = new; reply = answer; changes = changes } → is_refused answer ≡ false
    → accepted s command ≡ record { state = new; reply = answer; changes = changes }
by_step s command new answer changes gives free = at_refusal (refusal s command) gives
  where
    at_refusal : (r : Option Refusal) → unless_refused r s command
        ≡ record { state = new; reply = answer; changes = changes }
        → accepted s command ≡ record { state = new; reply = answer; changes = changes }
    at_refusal None gives = gives
    at_refusal (Some r) gives = absurd (let said : reply.Refused r ≡ answer = ap (λ (o : StepResult). o.reply) gives
        in let no : true ≡ false = ap is_refused said ∙ free in cc)

pub moves_by_step : (s : State) (command : Command) (new : State) (answer : Reply) (changes : List Change) (id : ℕ)
    → step s command ≡ record { state = new; reply = answer; changes = changes } → is_refused answer ≡ false
    → IsNumbered s → is_take command ≡ false → MovesOnce (table_of command)
    (phases_in s id ++ added_phases s command id) (phases_of id changes) (phases_in new id)
moves_by_step s command new answer changes id gives free num other =
    subst (λ (o : StepResult). MovesOnce (table_of command) (phases_in s id ++ added_phases s command id)
    (phases_of id o.changes) (phases_in o.state id)) (by_step s command new answer changes gives free)
    (requests_move_once s command id num other)

pub numbered_by_step : (s : State) (command : Command) (new : State) (answer : Reply) (changes : List Change)
    → step s command ≡ record { state = new; reply = answer; changes = changes } → IsNumbered s → IsNumbered new
numbered_by_step s command new answer changes gives num = subst (λ (o : StepResult). IsNumbered o.state) gives
    (numbers_stay_apart s command num)

-- agents are numbered by entering alone, and requests by asking
abbrev pub entrants : Command → ℕ
entrants (Enter kind) = 1
entrants command = 0

abbrev pub askers : Command → ℕ
askers (Request agent ask) = 1
askers command = 0

abbrev pub NumbersAfter : State → Command → State → Type 0
NumbersAfter s command new = (new.next.agent ≡ s.next.agent + entrants command)
    × (new.next.request ≡ s.next.request + askers command)

accepted_numbers : (s : State) (command : Command) → NumbersAfter s command (accepted s command).state
accepted_numbers s (Enter kind) = (refl, omega arith)
accepted_numbers s (SetActive agent active) = (omega arith, omega arith)
accepted_numbers s (NewSignal agent) = (omega arith, omega arith)
accepted_numbers s (Request agent ask) =
    let request = new_request s agent ask in
    either (NumbersAfter s (Request agent ask)) ask.steal (stealing_request s request)
    (cond (ask.if_available && not (available s request)) (unavailable s request) (plain_request s request))
    (omega arith, refl)
    (either (NumbersAfter s (Request agent ask)) (ask.if_available && not (available s request)) (unavailable s request)
    (plain_request s request) (omega arith, refl) (omega arith, refl))
accepted_numbers s (Take taken) = either (NumbersAfter s (Take taken)) (list_any (is_untaken taken) s.held) _ _
    (omega arith, omega arith) (omega arith, omega arith)
accepted_numbers s (Release agent lock) = either (NumbersAfter s (Release agent lock))
    (list_any (is_lock_of agent lock) s.held) _ _ (omega arith, omega arith) (omega arith, omega arith)
accepted_numbers s (Abort agent signal reason) = either (NumbersAfter s (Abort agent signal reason))
    (is_some (reason_in s.signals agent signal)) _ _ (omega arith, omega arith) (omega arith, omega arith)
accepted_numbers s (Terminate agent) = (omega arith, omega arith)
accepted_numbers s (Query agent) = (omega arith, omega arith)

pub numbers_by_step : (s : State) (command : Command) (new : State) (answer : Reply) (changes : List Change)
    → step s command ≡ record { state = new; reply = answer; changes = changes } → is_refused answer ≡ false
    → NumbersAfter s command new
numbers_by_step s command new answer changes gives free = subst (λ (o : StepResult). NumbersAfter s command o.state)
    (by_step s command new answer changes gives free) (accepted_numbers s command)

pub added_phases_most : (s : State) (command : Command) (id : ℕ) → IsNumbered s
    → length (phases_in s id ++ added_phases s command id) ≤ 1
added_phases_most s (Request agent ask) id num = added_by_request_most s id num
added_phases_most s (Enter kind) id num = rw (append-nil (phases_in s id)) (num.one id)
added_phases_most s (SetActive agent active) id num = rw (append-nil (phases_in s id)) (num.one id)
added_phases_most s (NewSignal agent) id num = rw (append-nil (phases_in s id)) (num.one id)
added_phases_most s (Take taken) id num = rw (append-nil (phases_in s id)) (num.one id)
added_phases_most s (Release agent lock) id num = rw (append-nil (phases_in s id)) (num.one id)
added_phases_most s (Abort agent signal reason) id num = rw (append-nil (phases_in s id)) (num.one id)
added_phases_most s (Terminate agent) id num = rw (append-nil (phases_in s id)) (num.one id)
added_phases_most s (Query agent) id num = rw (append-nil (phases_in s id)) (num.one id)

-- a request that isn't there isn't changed
pub no_change : (table : Phase → Phase → Bool) (before changes after : List Phase)
    → MovesOnce table before changes after → before ≡ [] → changes ≡ []
no_change table before changes after (inl e) none = e.0
no_change table before changes after (inr (from, to, was, gives, move, left)) none =
    absurd (let some : (from ∷ []) ≡ [] = sym was ∙ none in cc)

-- and a number that is given next or later is no request's
pub no_phase_added : (s : State) (command : Command) (id : ℕ) → IsNumbered s → s.next.request + askers command ≤ id
    → phases_in s id ++ added_phases s command id ≡ []
no_phase_added s (Request agent ask) id num high = rw (
  num.below id (omega (arith, high)),
  ne_eqb s.next.request id (λ e. absurd (omega (arith, high, e))),
) refl
no_phase_added s (Enter kind) id num high = rw (num.below id (omega (arith, high))) refl
no_phase_added s (SetActive agent active) id num high = rw (num.below id (omega (arith, high))) refl
no_phase_added s (NewSignal agent) id num high = rw (num.below id (omega (arith, high))) refl
no_phase_added s (Take taken) id num high = rw (num.below id (omega (arith, high))) refl
no_phase_added s (Release agent lock) id num high = rw (num.below id (omega (arith, high))) refl
no_phase_added s (Abort agent signal reason) id num high = rw (num.below id (omega (arith, high))) refl
no_phase_added s (Terminate agent) id num high = rw (num.below id (omega (arith, high))) refl
no_phase_added s (Query agent) id num high = rw (num.below id (omega (arith, high))) refl
