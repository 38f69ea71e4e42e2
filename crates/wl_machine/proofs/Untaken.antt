-- The locks of a signal that were not taken: which they are, what a take leaves of them, and what an abort does to
-- them.
use Rattle.std.proofs.Common.{◌≡◌, ℕ, ◌≤◌, Bool, true, false, cond, List, [], ◌∷◌, length, map, refl, arith, ap, sym}
use Rattle.std.proofs.Common.{◌∙◌, eq-eqb, ne_eqb, length-append, inl}
use Rattle.std.specs.Prelude.{◌==◌, ◌&&◌, ◌||◌, filter, not}
use Rattle.std.specs.List.{list_any}
use mathlib.Core.Logic.{dite}
use native.Mathlib.Decide.{ℕ_discrete}
use Rattle.wl_types.specs.declared.phases.Phase.{Phase}
use Rattle.wl_types.specs.declared.phases.Phase.TheVariants.{Granted, Taken, Aborted}
use Rattle.wl_types.specs.declared.phases.Change.{Change}
use Rattle.wl_types.specs.declared.answers.TakeAnswer.{TakeAnswer}
use Rattle.wl_types.specs.declared.answers.TakeAnswer.TheVariants as take_answer
use Rattle.wl_types.specs.declared.answers.AbortAnswer.TheVariants as abort_answer
use Rattle.wl_machine.specs.declared.rows.HeldRow.{HeldRow}
use Rattle.wl_machine.specs.declared.command.Command.TheVariants.{Take}
use Rattle.wl_machine.specs.declared.command.Reply.{Reply}
use Rattle.wl_machine.specs.declared.command.Reply.TheVariants as reply
use Rattle.wl_machine.specs.State.{State}
use Rattle.wl_machine.specs.Step.{StepResult, Gives, is_abortable, is_waiting_on, is_signal, is_untaken, with_taken}
use Rattle.wl_machine.specs.Step.{with_aborted, untaken_numbers, lock_ends, request_ends, abort_ends, after_processing}
use Rattle.wl_machine.specs.Laws.{phases_of}
use Rattle.wl_machine.specs.OneMove.{lock_phase, held_phases, pending_phases, phases_in, MovesOnce, is_plain_move}
use Rattle.wl_machine.specs.OneMove.{IsNumbered}
use Rattle.wl_machine.specs.Standing.{is_in, AbortEndsUntaken}
use Rattle.wl_machine.proofs.ProcessingMoves.{processed_moves, processed_none, phases_of-append}
use Rattle.wl_machine.proofs.EndMoves.{no_lock, no_request, requests_end, both_end}
use Rattle.wl_machine.proofs.OneMove.{take_takes_one, take_lists}

-- no number stands twice
abbrev pub Distinct : List ℕ → Type 0
Distinct [] = Unit {0}
Distinct (x ∷ xs) = (is_in x xs ≡ false) × Distinct xs

-- without the first that is the number
abbrev pub without : ℕ → List ℕ → List ℕ
without id [] = []
without id (x ∷ xs) = cond (x == id) xs (x ∷ without id xs)

abbrev chosen : ℕ → ℕ → List HeldRow → List ℕ
chosen agent signal held = map (λ lock. lock.number) (filter (is_abortable agent signal) held)

no_more : (p : Phase) (ps : List Phase) → length (p ∷ ps) ≤ 1 → ps ≡ []
no_more p [] most = refl
no_more p (x ∷ ps) most = absurd (omega (arith, most))

none_in : (agent signal id : ℕ) (held : List HeldRow) → held_phases id held ≡ []
    → is_in id (chosen agent signal held) ≡ false
none_in agent signal id [] none = refl
none_in agent signal id (l ∷ held) none = at_row (l.number == id) refl (is_abortable agent signal l)
    (none_in agent signal id held)
  where
    at_row : (b : Bool) → (l.number == id) ≡ b → (k : Bool)
        → (held_phases id held ≡ [] → is_in id (chosen agent signal held) ≡ false)
        → is_in id (map (λ lock. lock.number) (cond k (l ∷ filter (is_abortable agent signal) held)
        (filter (is_abortable agent signal) held))) ≡ false
    at_row true is k rest = absurd (let no : (lock_phase l ∷ held_phases id held) ≡ [] = rw is at none in cc)
    at_row false is true rest = rw is (rest (rw is at none))
    at_row false is false rest = rest (rw is at none)

tail_most : (l : HeldRow) (held : List HeldRow) → ((id : ℕ) → length (held_phases id (l ∷ held)) ≤ 1) → (id : ℕ)
    → length (held_phases id held) ≤ 1
tail_most l held most id = dite (ℕ_discrete l.number id) (λ e. let m : length (lock_phase l ∷ held_phases id held)
    ≤ 1 = rw (eq-eqb l.number id e) at (most id) in omega (arith, m)) (λ n. rw (ne_eqb l.number id n) at (most id))

head_alone : (l : HeldRow) (held : List HeldRow) → ((id : ℕ) → length (held_phases id (l ∷ held)) ≤ 1)
    → held_phases l.number held ≡ []
head_alone l held most = no_more (lock_phase l) (held_phases l.number held)
    (rw (eq-eqb l.number l.number refl) at (most l.number))

distinct_in : (agent signal : ℕ) (held : List HeldRow) → ((id : ℕ) → length (held_phases id held) ≤ 1)
    → Distinct (chosen agent signal held)
distinct_in agent signal [] most = tt
distinct_in agent signal (l ∷ held) most = at_row (is_abortable agent signal l)
    (distinct_in agent signal held (tail_most l held most))
  where
    at_row : (k : Bool) → Distinct (chosen agent signal held)
        → Distinct (map (λ lock. lock.number) (cond k (l ∷ filter (is_abortable agent signal) held)
        (filter (is_abortable agent signal) held)))
    at_row true rest = (none_in agent signal l.number held (head_alone l held most), rest)
    at_row false rest = rest

untaken_phase : (agent signal : ℕ) (l : HeldRow) → is_abortable agent signal l ≡ true → lock_phase l ≡ Granted
untaken_phase agent signal l is = at_flag l.taken refl
  where
    none : (b : Bool) → (b && false) ≡ false
    none true = refl
    none false = refl

    at_flag : (b : Bool) → l.taken ≡ b → lock_phase l ≡ Granted
    at_flag false flag = rw flag refl
    at_flag true flag = absurd (let no : false ≡ true = sym (none _) ∙ (rw flag at is) in cc)

granted_in : (agent signal id : ℕ) (held : List HeldRow) → ((other : ℕ) → length (held_phases other held) ≤ 1)
    → is_in id (chosen agent signal held) ≡ true → held_phases id held ≡ Granted ∷ []
granted_in agent signal id [] most has = absurd (cc)
granted_in agent signal id (l ∷ held) most has = at_row (ℕ_discrete l.number id) (is_abortable agent signal l) refl
    (granted_in agent signal id held (tail_most l held most))
  where
    at_row : Dec (l.number ≡ id) → (k : Bool) → is_abortable agent signal l ≡ k
        → (is_in id (chosen agent signal held) ≡ true → held_phases id held ≡ Granted ∷ [])
        → held_phases id (l ∷ held) ≡ Granted ∷ []
    at_row (no other) true is rest = rw (ne_eqb l.number id other) (rest (rw (is, ne_eqb l.number id other) at has))
    at_row (no other) false is rest = rw (ne_eqb l.number id other) (rest (rw is at has))
    at_row (yes e) true is rest =
        let alone : held_phases id held ≡ [] = ap (λ n. held_phases n held) (sym e) ∙ head_alone l held most in
        rw (eq-eqb l.number id e, alone, untaken_phase agent signal l is) refl
    at_row (yes e) false is rest =
        let alone : held_phases id held ≡ [] = ap (λ n. held_phases n held) (sym e) ∙ head_alone l held most in
        absurd (let some : is_in id (chosen agent signal held) ≡ true = rw is at has
        in let no : true ≡ false = sym some ∙ none_in agent signal id held alone in cc)

-- a take leaves other locks as they are
taken_other : (taken : ℕ) (l : HeldRow) → (l.number == taken) ≡ false → with_taken taken l ≡ l
taken_other taken l is = rw is (ap (λ (t : Bool). record l { taken = t }) (or_false l.taken))
  where
    or_false : (b : Bool) → (b || false) ≡ b
    or_false true = refl
    or_false false = refl

none_same : (taken : ℕ) (held : List HeldRow) → held_phases taken held ≡ [] → map (with_taken taken) held ≡ held
none_same taken [] none = refl
none_same taken (l ∷ held) none = at_number (l.number == taken) refl (none_same taken held)
  where
    at_number : (b : Bool) → (l.number == taken) ≡ b → (held_phases taken held ≡ []
        → map (with_taken taken) held ≡ held) → map (with_taken taken) (l ∷ held) ≡ l ∷ held
    at_number true is rest = absurd (let wrong : (lock_phase l ∷ held_phases taken held) ≡ [] = rw is at none in cc)
    at_number false is rest = ap (λ (x : HeldRow). x ∷ map (with_taken taken) held) (taken_other taken l is)
        ∙ ap (λ (xs : List HeldRow). l ∷ xs) (rest (rw is at none))

without_none : (id : ℕ) (xs : List ℕ) → is_in id xs ≡ false → without id xs ≡ xs
without_none id [] out = refl
without_none id (x ∷ xs) out = at_number (x == id) refl (without_none id xs)
  where
    at_number : (b : Bool) → (x == id) ≡ b → (is_in id xs ≡ false → without id xs ≡ xs) → without id (x ∷ xs) ≡ x ∷ xs
    at_number true is rest = absurd (let no : true ≡ false = rw is at out in cc)
    at_number false is rest = rw is (ap (λ (ys : List ℕ). x ∷ ys) (rest (rw is at out)))

-- a taken lock is none of the untaken
pub take_without : (agent signal taken : ℕ) (held : List HeldRow) → ((id : ℕ) → length (held_phases id held) ≤ 1)
    → is_in taken (chosen agent signal held) ≡ true → chosen agent signal (map (with_taken taken) held)
    ≡ without taken (chosen agent signal held)
take_without agent signal taken [] most has = refl
take_without agent signal taken (l ∷ held) most has = at_row (ℕ_discrete l.number taken) (is_abortable agent signal l)
    refl (take_without agent signal taken held (tail_most l held most))
  where
    and_false : (b : Bool) → (b && false) ≡ false
    and_false true = refl
    and_false false = refl

    at_row : Dec (l.number ≡ taken) → (k : Bool) → is_abortable agent signal l ≡ k
        → (is_in taken (chosen agent signal held) ≡ true → chosen agent signal (map (with_taken taken) held)
        ≡ without taken (chosen agent signal held))
        → chosen agent signal (map (with_taken taken) (l ∷ held)) ≡ without taken (chosen agent signal (l ∷ held))
    at_row (no other) true is rest =
        ap (λ (x : HeldRow). chosen agent signal (x ∷ map (with_taken taken) held))
        (taken_other taken l (ne_eqb l.number taken other))
        ∙ rw (is, ne_eqb l.number taken other) (ap (λ (xs : List ℕ). l.number ∷ xs)
        (rest (rw (is, ne_eqb l.number taken other) at has)))
    at_row (no other) false is rest =
        ap (λ (x : HeldRow). chosen agent signal (x ∷ map (with_taken taken) held))
        (taken_other taken l (ne_eqb l.number taken other)) ∙ rw is (rest (rw is at has))
    at_row (yes e) false is rest =
        let alone : held_phases taken held ≡ [] = ap (λ n. held_phases n held) (sym e) ∙ head_alone l held most in
        absurd (let some : is_in taken (chosen agent signal held) ≡ true = rw is at has
        in let no : true ≡ false = sym some ∙ none_in agent signal taken held alone in cc)
    at_row (yes e) true is rest =
        let alone : held_phases taken held ≡ [] = ap (λ n. held_phases n held) (sym e) ∙ head_alone l held most in
        let flag : l.taken ≡ false = untaken_flag l.taken refl in
        let was : ((l.agent == agent && is_signal signal l.signal) && true) ≡ true = rw flag at is in
        rw (
          none_same taken held alone,
          eq-eqb l.number taken e,
          flag,
          was,
          eq-eqb l.number taken e,
          and_false (l.agent == agent && is_signal signal l.signal),
        ) refl
      where
        untaken_flag : (b : Bool) → l.taken ≡ b → l.taken ≡ false
        untaken_flag false f = f
        untaken_flag true f = absurd (let no : false ≡ true = sym (and_false _) ∙ (rw f at is) in cc)

held_most : (s : State) → IsNumbered s → (id : ℕ) → length (held_phases id s.held) ≤ 1
held_most s num id = let most = num.one id in let both = length-append (held_phases id s.held)
    (pending_phases id s.pending) in omega (arith, most, both)

pub untaken_distinct : (s : State) (agent signal : ℕ) → IsNumbered s → Distinct (untaken_numbers s agent signal)
untaken_distinct s agent signal num = distinct_in agent signal s.held (held_most s num)

pub untaken_granted : (s : State) (agent signal id : ℕ) → IsNumbered s
    → is_in id (untaken_numbers s agent signal) ≡ true → phases_in s id ≡ Granted ∷ []
untaken_granted s agent signal id num has =
    let held = granted_in agent signal id s.held (held_most s num) has in
    let alone : pending_phases id s.pending ≡ [] = no_more Granted (pending_phases id s.pending)
    (rw held at (num.one id)) in
    rw (held, alone) refl

pub taken_untaken : (s : State) (agent signal taken : ℕ) (new : State) (answer : Reply) (changes : List Change)
    → IsNumbered s → is_in taken (untaken_numbers s agent signal) ≡ true → Gives s (Take taken) new answer changes
    → untaken_numbers new agent signal ≡ without taken (untaken_numbers s agent signal)
taken_untaken s agent signal taken new answer changes num has gives =
    ap (λ (t : State). untaken_numbers t agent signal) (sym (ap (λ (o : StepResult). o.state) gives)
    ∙ take_lists s taken) ∙ take_without agent signal taken s.held (held_most s num) has

-- the taken lock's phase, and the others'
pub taken_phases : (s : State) (agent signal taken : ℕ) (new : State) (answer : Reply) (changes : List Change) (id : ℕ)
    → IsNumbered s → is_in taken (untaken_numbers s agent signal) ≡ true → Gives s (Take taken) new answer changes
    → phases_in new id ≡ cond (id == taken) (Taken ∷ []) (phases_in s id)
taken_phases s agent signal taken new answer changes id num has gives =
    ap (λ (t : State). phases_in t id) (sym (ap (λ (o : StepResult). o.state) gives)) ∙ take_takes_one s taken id
    ∙ dite (ℕ_discrete id taken) (λ e. rw (eq-eqb id taken e)
    (rw (ap (phases_in s) e, untaken_granted s agent signal taken num has) refl)) (λ n. rw (ne_eqb id taken n) refl)

-- the lock of a number that is among the chosen ends, and is the only one of the number
one_ends : (agent signal : ℕ) (to : Phase) (id : ℕ) (held : List HeldRow)
    → ((other : ℕ) → length (held_phases other held) ≤ 1) → is_in id (chosen agent signal held) ≡ true
    → (phases_of id (lock_ends to (filter (is_abortable agent signal) held)) ≡ to ∷ [])
    × (held_phases id (filter (λ l. not (is_abortable agent signal l)) held) ≡ [])
one_ends agent signal to id [] most has = absurd (cc)
one_ends agent signal to id (l ∷ held) most has = at_row (ℕ_discrete l.number id) (is_abortable agent signal l) refl
    (one_ends agent signal to id held (tail_most l held most))
  where
    Ends : List HeldRow → Type 0
    Ends held = (phases_of id (lock_ends to (filter (is_abortable agent signal) held)) ≡ to ∷ [])
        × (held_phases id (filter (λ l. not (is_abortable agent signal l)) held) ≡ [])

    at_row : Dec (l.number ≡ id) → (k : Bool) → is_abortable agent signal l ≡ k
        → (is_in id (chosen agent signal held) ≡ true → (phases_of id
        (lock_ends to (filter (is_abortable agent signal) held)) ≡ to ∷ [])
        × (held_phases id (filter (λ l. not (is_abortable agent signal l)) held) ≡ []))
        → (phases_of id (lock_ends to (filter (is_abortable agent signal) (l ∷ held))) ≡ to ∷ [])
        × (held_phases id (filter (λ l. not (is_abortable agent signal l)) (l ∷ held)) ≡ [])
    at_row (no other) true is rest = rw is (rw (ne_eqb l.number id other)
        (rest (rw (is, ne_eqb l.number id other) at has)))
    at_row (no other) false is rest = rw is (rw (ne_eqb l.number id other) (rest (rw is at has)))
    at_row (yes e) true is rest =
        let alone : held_phases id held ≡ [] = ap (λ n. held_phases n held) (sym e) ∙ head_alone l held most in
        let none = no_lock (is_abortable agent signal) to id held alone in
        rw is (rw (eq-eqb l.number id e, none.0) refl, none.1)
    at_row (yes e) false is rest =
        let alone : held_phases id held ≡ [] = ap (λ n. held_phases n held) (sym e) ∙ head_alone l held most in
        absurd (let some : is_in id (chosen agent signal held) ≡ true = rw is at has
        in let wrong : true ≡ false = sym some ∙ none_in agent signal id held alone in cc)

-- the lock of a number that is not among the chosen stays
one_stays : (agent signal : ℕ) (to : Phase) (id : ℕ) (held : List HeldRow) → is_in id (chosen agent signal held) ≡ false
    → (phases_of id (lock_ends to (filter (is_abortable agent signal) held)) ≡ [])
    × (held_phases id (filter (λ l. not (is_abortable agent signal l)) held) ≡ held_phases id held)
one_stays agent signal to id [] out = (refl, refl)
one_stays agent signal to id (l ∷ held) out = at_row (l.number == id) refl (is_abortable agent signal l) refl
    (one_stays agent signal to id held)
  where
    at_row : (b : Bool) → (l.number == id) ≡ b → (k : Bool) → is_abortable agent signal l ≡ k
        → (is_in id (chosen agent signal held) ≡ false → (phases_of id
        (lock_ends to (filter (is_abortable agent signal) held)) ≡ [])
        × (held_phases id (filter (λ l. not (is_abortable agent signal l)) held) ≡ held_phases id held))
        → (phases_of id (lock_ends to (filter (is_abortable agent signal) (l ∷ held))) ≡ [])
        × (held_phases id (filter (λ l. not (is_abortable agent signal l)) (l ∷ held)) ≡ held_phases id (l ∷ held))
    at_row true same true is rest = absurd (let wrong : true ≡ false = rw (is, same) at out in cc)
    at_row false same true is rest = let left = rest (rw (is, same) at out) in rw is (rw same (left.0, left.1))
    at_row true same false is rest = let left = rest (rw is at out)
        in rw is (rw same (left.0, ap (λ (ps : List Phase). lock_phase l ∷ ps) left.1))
    at_row false same false is rest = let left = rest (rw is at out) in rw is (rw same (left.0, left.1))

pub abort_ends_untaken : AbortEndsUntaken
abort_ends_untaken s agent signal reason id num free = record {
  untaken = λ has. rw free (untaken has);
  others = λ out. rw free (others out);
}
  where
    requests : List Change
    requests = request_ends (Aborted reason) (filter (is_waiting_on agent signal) s.pending)

    locks : List Change
    locks = lock_ends (Aborted reason) (filter (is_abortable agent signal) s.held)

    mid : State
    mid = with_aborted s agent signal reason

    step_result : StepResult
    step_result = after_processing mid (abort_ends s agent signal reason) (reply.Aborted abort_answer.Done)

    pending_most : length (pending_phases id s.pending) ≤ 1
    pending_most = let most = num.one id in let both = length-append (held_phases id s.held)
        (pending_phases id s.pending) in omega (arith, most, both)

    untaken : is_in id (untaken_numbers s agent signal) ≡ true
        → (phases_in s id ≡ Granted ∷ []) × (phases_of id step_result.changes ≡ Aborted reason ∷ [])
        × (phases_in step_result.state id ≡ [])
    untaken has =
        let held = granted_in agent signal id s.held (held_most s num) has in
        let alone : pending_phases id s.pending ≡ [] = no_more Granted (pending_phases id s.pending)
        (rw held at (num.one id)) in
        let none = no_request (is_waiting_on agent signal) (Aborted reason) id s.pending alone in
        let one = one_ends agent signal (Aborted reason) id s.held (held_most s num) has in
        let ends : phases_of id (abort_ends s agent signal reason)
        ≡ Aborted reason ∷ [] = phases_of-append id requests locks ∙ rw (none.0, one.0) refl in
        let gone = processed_none id mid (abort_ends s agent signal reason) (reply.Aborted abort_answer.Done)
        (rw (one.1, none.1) refl) in
        (untaken_granted s agent signal id num has, gone.0 ∙ ends, gone.1)

    others : is_in id (untaken_numbers s agent signal) ≡ false
        → MovesOnce is_plain_move (phases_in s id) (phases_of id step_result.changes) (phases_in step_result.state id)
    others out =
        let stays = one_stays agent signal (Aborted reason) id s.held out in
        processed_moves is_plain_move id mid (abort_ends s agent signal reason) (reply.Aborted abort_answer.Done)
        (phases_in s id) refl (num.one id)
        (rw (phases_of-append id requests locks)
        (both_end is_plain_move (held_phases id s.held) (pending_phases id s.pending) _ _ _ _ (num.one id) (inl stays)
        (requests_end is_plain_move (is_waiting_on agent signal) (Aborted reason) id s.pending refl refl pending_most)))

-- a take of one of them answers Taken
pub untaken_taken : (s : State) (agent signal id : ℕ) (new : State) (answer : TakeAnswer) (changes : List Change)
    → is_in id (untaken_numbers s agent signal) ≡ true → Gives s (Take id) new (reply.Took answer) changes
    → answer ≡ take_answer.Taken
untaken_taken s agent signal id new answer changes has gives =
    let said : reply.Took take_answer.Taken ≡ reply.Took answer =
    rw (untaken_any s.held has) at (ap (λ (o : StepResult). o.reply) gives) in
    cc
  where
    untaken_any : (held : List HeldRow) → is_in id (chosen agent signal held) ≡ true
        → list_any (is_untaken id) held ≡ true
    untaken_any [] has = has
    untaken_any (l ∷ held) has = at_row (is_abortable agent signal l) refl (l.number == id) refl l.taken refl
        (untaken_any held)
      where
        and_false : (b : Bool) → (b && false) ≡ false
        and_false true = refl
        and_false false = refl

        or_true : (b : Bool) → (b || true) ≡ true
        or_true true = refl
        or_true false = refl

        at_row : (k : Bool) → is_abortable agent signal l ≡ k → (b : Bool) → (l.number == id) ≡ b → (t : Bool)
            → l.taken ≡ t → (is_in id (chosen agent signal held) ≡ true → list_any (is_untaken id) held ≡ true)
            → list_any (is_untaken id) (l ∷ held) ≡ true
        at_row true is true same false flag rest = rw (same, flag) refl
        at_row true is b same true flag rest = absurd (let wrong : false
            ≡ true = sym (and_false (l.agent == agent && is_signal signal l.signal)) ∙ (rw flag at is) in cc)
        at_row true is false same t flag rest = rw same (rest (rw (is, same) at has))
        at_row false is b same t flag rest = rw (rest (rw is at has)) (or_true (is_untaken id l))
