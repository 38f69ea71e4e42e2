-- How processing moves one request.
use Rattle.std.proofs.Common.{◌≡◌, ℕ, zero, suc, ◌+◌, ◌≤◌, Bool, true, false, cond, List, [], ◌∷◌, ◌++◌, length, map}
use Rattle.std.proofs.Common.{refl, arith, ap, sym, ◌∙◌, inl, inr, append-nil, length-append}
use Rattle.std.specs.Prelude.{◌⊎◌, ◌==◌, filter}
use Rattle.std.specs.Str.{bytes_eq}
use Rattle.std.proofs.lemmas.List.{map-append}
use Rattle.std.proofs.lemmas.List.Elements.{filter-append}
use Rattle.wl_types.specs.Phases.{is_end}
use Rattle.wl_types.specs.declared.phases.Phase.{Phase}
use Rattle.wl_types.specs.declared.phases.Phase.TheVariants.{Pending, Granted}
use Rattle.wl_types.specs.declared.phases.Change.{Change}
use Rattle.wl_machine.specs.declared.command.Reply.{Reply}
use Rattle.wl_machine.specs.declared.rows.HeldRow.{HeldRow}
use Rattle.wl_machine.specs.declared.rows.PendingRow.{PendingRow}
use Rattle.wl_machine.specs.State.{State}
use Rattle.wl_machine.specs.Grants.{Lists, lists_of, grants, queue, locks, without_first, granted_lock, grant_change}
use Rattle.wl_machine.specs.Grants.{process_queue, process_queues}
use Rattle.wl_machine.specs.Step.{after_processing}
use Rattle.wl_machine.proofs.Fronts.{first_requests, first_granted}
use Rattle.wl_machine.specs.Laws.{phases_of}
use Rattle.wl_machine.specs.OneMove.{lock_phase, held_phases, pending_phases, phases_in, MovesOnce}

abbrev pub of_number : ℕ → List PendingRow → List PendingRow
of_number id rows = filter (λ request. request.number == id) rows

pub held_phases-append : (id : ℕ) (xs ys : List HeldRow) → held_phases id (xs ++ ys)
    ≡ held_phases id xs ++ held_phases id ys
held_phases-append id xs ys = ap (map lock_phase) (filter-append (λ (l : HeldRow). l.number == id) xs ys)
    ∙ map-append lock_phase (filter (λ l. l.number == id) xs) (filter (λ l. l.number == id) ys)

pub pending_phases-append : (id : ℕ) (xs ys : List PendingRow)
    → pending_phases id (xs ++ ys) ≡ pending_phases id xs ++ pending_phases id ys
pending_phases-append id xs ys = ap (map (λ (r : PendingRow). Pending))
    (filter-append (λ (r : PendingRow). r.number == id) xs ys)
    ∙ map-append (λ (r : PendingRow). Pending) (of_number id xs) (of_number id ys)

pub phases_of-append : (id : ℕ) (xs ys : List Change) → phases_of id (xs ++ ys) ≡ phases_of id xs ++ phases_of id ys
phases_of-append id xs ys = ap (map (λ (c : Change). c.phase)) (filter-append (λ (c : Change). c.id == id) xs ys)
    ∙ map-append (λ (c : Change). c.phase) (filter (λ c. c.id == id) xs) (filter (λ c. c.id == id) ys)

-- a Granted for each
abbrev granted_each : List PendingRow → List Phase
granted_each rows = map (λ request. Granted) rows

held_granted : (id : ℕ) (g : List PendingRow) → held_phases id (map granted_lock g) ≡ granted_each (of_number id g)
held_granted id [] = refl
held_granted id (r ∷ g) = at_number (r.number == id) (held_granted id g)
  where
    at_number : (b : Bool) → held_phases id (map granted_lock g) ≡ granted_each (of_number id g)
        → map lock_phase (cond b (granted_lock r ∷ filter (λ l. l.number == id) (map granted_lock g))
        (filter (λ l. l.number == id) (map granted_lock g)))
        ≡ granted_each (cond b (r ∷ of_number id g) (of_number id g))
    at_number true rest = ap (λ (ps : List Phase). Granted ∷ ps) rest
    at_number false rest = rest

changes_granted : (id : ℕ) (g : List PendingRow) → phases_of id (map grant_change g) ≡ granted_each (of_number id g)
changes_granted id [] = refl
changes_granted id (r ∷ g) = at_number (r.number == id) (changes_granted id g)
  where
    at_number : (b : Bool) → phases_of id (map grant_change g) ≡ granted_each (of_number id g)
        → map (λ c. c.phase) (cond b (grant_change r ∷ filter (λ c. c.id == id) (map grant_change g))
        (filter (λ c. c.id == id) (map grant_change g))) ≡ granted_each (cond b (r ∷ of_number id g) (of_number id g))
    at_number true rest = ap (λ (ps : List Phase). Granted ∷ ps) rest
    at_number false rest = rest

longer : (b : Bool) (r : PendingRow) (xs : List PendingRow) → length (cond b (r ∷ xs) xs) ≡ cond b 1 0 + length xs
longer true r xs = omega arith
longer false r xs = omega arith

-- the first requests of a name and the others are all, number by number
split : (id : ℕ) (name : List ℕ) (count : ℕ) (xs : List PendingRow)
    → length (of_number id (first_requests name count xs)) + length (of_number id (without_first name count xs))
    ≡ length (of_number id xs)
split id name zero xs = omega arith
split id name (suc count) [] = refl
split id name (suc count) (x ∷ xs) =
    elim (bytes_eq x.name name) as (λ b. length (of_number id
    (cond b (x ∷ first_requests name count xs) (first_requests name (suc count) xs)))
    + length (of_number id (cond b (without_first name count xs) (x ∷ without_first name (suc count) xs)))
    ≡ length (of_number id (x ∷ xs))) [
      | true ↦ (let rest = split id name count xs in let one =
          longer (x.number == id) x (of_number id (first_requests name count xs))
          in let all = longer (x.number == id) x (of_number id xs) in omega (arith, rest, one, all))
      | false ↦ (let rest = split id name (suc count) xs in let one =
          longer (x.number == id) x (of_number id (without_first name (suc count) xs))
          in let all = longer (x.number == id) x (of_number id xs) in omega (arith, rest, one, all))
    ]

-- how processing moves the phases of one number: not, or from waiting to granted
abbrev Processes : List Phase → List Phase → List Phase → List Phase → List Phase → List Phase → Type 0
Processes h p c h' p' c' = ((h' ≡ h) × (p' ≡ p) × (c' ≡ c))
    ⊎ ((h ≡ []) × (p ≡ Pending ∷ []) × (h' ≡ Granted ∷ []) × (p' ≡ []) × (c' ≡ c ++ Granted ∷ []))

same_each : (xs ys : List PendingRow) → length xs ≡ length ys
    → map (λ (r : PendingRow). Pending) xs ≡ map (λ (r : PendingRow). Pending) ys
same_each [] [] e = refl
same_each [] (y ∷ ys) e = absurd (omega (arith, e))
same_each (x ∷ xs) [] e = absurd (omega (arith, e))
same_each (x ∷ xs) (y ∷ ys) e = ap (λ (ps : List Phase). Pending ∷ ps) (same_each xs ys (omega (arith, e)))

one_each : (xs : List PendingRow) → length (map (λ (r : PendingRow). Pending) xs) ≡ length xs
one_each [] = refl
one_each (x ∷ xs) = ap (λ n. suc n) (one_each xs)

no_phases : (h : List Phase) → length h ≤ 0 → h ≡ []
no_phases [] e = refl
no_phases (x ∷ xs) e = absurd (omega (arith, e))

-- over the rows of one number: g are granted, w still wait, f waited before
processes_rows : (h c : List Phase) (g w f : List PendingRow) → length g + length w ≡ length f → length h + length f ≤ 1
    → Processes h (map (λ (r : PendingRow). Pending) f) c (h ++ granted_each g) (map (λ (r : PendingRow). Pending) w)
    (c ++ granted_each g)
processes_rows h c [] w f sum most = inl (append-nil h, same_each w f (omega (arith, sum)), append-nil c)
processes_rows h c (x ∷ []) w f sum most =
    let none : h ≡ [] = no_phases h (omega (arith, sum, most)) in
    inr (
      none,
      same_each f (x ∷ []) (omega (arith, sum, most)),
      rw none refl,
      same_each w [] (omega (arith, sum, most)),
      refl,
    )
processes_rows h c (x ∷ y ∷ g) w f sum most = absurd (omega (arith, sum, most))

process_queue_moves : (id : ℕ) (lists : Lists) (name : List ℕ)
    → length (held_phases id lists.held ++ pending_phases id lists.pending) ≤ 1
    → Processes (held_phases id lists.held) (pending_phases id lists.pending) (phases_of id lists.changes)
    (held_phases id (process_queue lists name).held) (pending_phases id (process_queue lists name).pending)
    (phases_of id (process_queue lists name).changes)
process_queue_moves id lists name most = by_grants (grants (locks name lists.held) (queue name lists.pending))
    (first_granted name (locks name lists.held) lists.pending)
  where
    by_grants : (g : List PendingRow) → first_requests name (length g) lists.pending ≡ g
        → Processes (held_phases id lists.held) (pending_phases id lists.pending) (phases_of id lists.changes)
        (held_phases id (lists.held ++ map granted_lock g))
        (pending_phases id (without_first name (length g) lists.pending))
        (phases_of id (lists.changes ++ map grant_change g))
    by_grants g first =
        let all = split id name (length g) lists.pending in
        let sum : length (of_number id g) + length (of_number id (without_first name (length g) lists.pending))
        ≡ length (of_number id lists.pending) = rw first at all in
        let both = length-append (held_phases id lists.held) (pending_phases id lists.pending) in
        let each : length (pending_phases id lists.pending)
        ≡ length (of_number id lists.pending) = one_each (of_number id lists.pending) in
        rw (
          held_phases-append id lists.held (map granted_lock g),
          held_granted id g,
          phases_of-append id lists.changes (map grant_change g),
          changes_granted id g,
        )
        (processes_rows (held_phases id lists.held) (phases_of id lists.changes) (of_number id g)
        (of_number id (without_first name (length g) lists.pending)) (of_number id lists.pending) sum
        (omega (arith, most, both, each)))

pub processes_most : (h p c h' p' c' : List Phase) → length (h ++ p) ≤ 1 → Processes h p c h' p' c'
    → length (h' ++ p') ≤ 1
processes_most h p c h' p' c' most (inl e) = rw (e.0, e.1) most
processes_most h p c h' p' c' most (inr e) = rw (e.2, e.3) (omega arith)

processes_both : (h p c h1 p1 c1 h2 p2 c2 : List Phase) → Processes h p c h1 p1 c1 → Processes h1 p1 c1 h2 p2 c2
    → Processes h p c h2 p2 c2
processes_both h p c h1 p1 c1 h2 p2 c2 (inl e) (inl f) = inl (f.0 ∙ e.0, f.1 ∙ e.1, f.2 ∙ e.2)
processes_both h p c h1 p1 c1 h2 p2 c2 (inl e) (inr f) = inr
    (sym e.0 ∙ f.0, sym e.1 ∙ f.1, f.2, f.3, f.4 ∙ ap (λ (x : List Phase). x ++ Granted ∷ []) e.2)
processes_both h p c h1 p1 c1 h2 p2 c2 (inr e) (inl f) = inr (e.0, e.1, f.0 ∙ e.2, f.1 ∙ e.3, f.2 ∙ e.4)
processes_both h p c h1 p1 c1 h2 p2 c2 (inr e) (inr f) = absurd (let no : (Pending ∷ []) ≡ [] = sym f.1 ∙ e.3 in cc)

process_queues_move : (id : ℕ) (names : List (List ℕ)) (lists : Lists)
    → length (held_phases id lists.held ++ pending_phases id lists.pending) ≤ 1
    → Processes (held_phases id lists.held) (pending_phases id lists.pending) (phases_of id lists.changes)
    (held_phases id (process_queues lists names).held) (pending_phases id (process_queues lists names).pending)
    (phases_of id (process_queues lists names).changes)
process_queues_move id [] lists most = inl (refl, refl, refl)
process_queues_move id (name ∷ names) lists most =
    let one = process_queue_moves id lists name most in
    let rest = process_queues_move id names (process_queue lists name)
    (processes_most _ _ (phases_of id lists.changes) _ _ (phases_of id (process_queue lists name).changes) most one)
    in
    processes_both _ _ _ _ _ _ _ _ _ one rest

-- what an event's ends do to the phases of one number, before queues are processed
abbrev pub Ended : (Phase → Phase → Bool) → List Phase → List Phase → List Phase → Type 0
Ended table before ends after =
    ((ends ≡ []) × (after ≡ before)) ⊎ ((from to : Phase) × (before ≡ from ∷ []) × (ends ≡ to ∷ [])
    × (table from to ≡ true) × (is_end to ≡ true) × (after ≡ []))

processed_phases : (table : Phase → Phase → Bool) (before ends h p h' p' c' : List Phase) → table Pending Granted ≡ true
    → Ended table before ends (h ++ p) → Processes h p ends h' p' c' → MovesOnce table before c' (h' ++ p')
processed_phases table before ends h p h' p' c' may (inl e) (inl f) = inl (f.2 ∙ e.0, rw (f.0, f.1) e.1)
processed_phases table before ends h p h' p' c' may (inl e) (inr f) =
    inr (
      Pending,
      Granted,
      sym e.1 ∙ rw (f.0, f.1) refl,
      f.4
          ∙ ap (λ (x : List Phase). x ++ Granted ∷ []) e.0,
      may,
      rw (f.2, f.3) refl,
    )
processed_phases table before ends h p h' p' c' may (inr (from, to, was, gives, move, end, left)) (inl f) =
    inr (from, to, was, f.2 ∙ gives, move, rw (f.0, f.1, end) left)
processed_phases table before ends h p h' p' c' may (inr (from, to, was, gives, move, end, left)) (inr f) =
    absurd (let no : (Pending ∷ []) ≡ [] = rw (f.0, f.1) at left in cc)

-- an event that ends some and then processes the queues moves each request once at most
pub processed_moves : (table : Phase → Phase → Bool) (id : ℕ) (mid : State) (ends : List Change) (answer : Reply)
    (before : List Phase) → table Pending Granted ≡ true → length before ≤ 1
    → Ended table before (phases_of id ends) (phases_in mid id)
    → MovesOnce table before (phases_of id (after_processing mid ends answer).changes)
    (phases_in (after_processing mid ends answer).state id)
processed_moves table id mid ends answer before may most ended =
    processed_phases table before (phases_of id ends) (held_phases id mid.held) (pending_phases id mid.pending) _ _ _
    may ended
    (process_queues_move id mid.names (lists_of mid.held mid.pending ends)
    (ended_most table before (phases_of id ends) (phases_in mid id) most ended))
  where
    ended_most : (table : Phase → Phase → Bool) (before ends after : List Phase) → length before ≤ 1
        → Ended table before ends after → length after ≤ 1
    ended_most table before ends after most (inl e) = rw e.1 most
    ended_most table before ends after most (inr (from, to, was, gives, move, end, left)) = rw left (omega arith)

-- an event changes no request that its ends left nothing of
pub processed_none : (id : ℕ) (mid : State) (ends : List Change) (answer : Reply) → phases_in mid id ≡ []
    → (phases_of id (after_processing mid ends answer).changes ≡ phases_of id ends)
    × (phases_in (after_processing mid ends answer).state id ≡ [])
processed_none id mid ends answer none = nothing (process_queues_move id mid.names (lists_of mid.held mid.pending ends)
    (rw none (omega arith)))
  where
    first_none : (h p : List Phase) → h ++ p ≡ [] → h ≡ []
    first_none [] p none = refl
    first_none (x ∷ h) p none = absurd (cc)

    nothing : {h' p' c' : List Phase} → Processes (held_phases id mid.held) (pending_phases id mid.pending)
        (phases_of id ends) h' p' c' → (c' ≡ phases_of id ends) × (h' ++ p' ≡ [])
    nothing (inl e) = (e.2, rw (e.0, e.1) none)
    nothing (inr e) = absurd (let some : (Pending ∷ []) ≡ [] = sym e.1
        ∙ (ap (λ (h : List Phase). h ++ pending_phases id mid.pending)
        (sym (first_none (held_phases id mid.held) (pending_phases id mid.pending) none)) ∙ none) in cc)
