-- What ends do to the phases of one number.
use Rattle.std.proofs.Common.{◌≡◌, ℕ, ◌≤◌, Bool, true, false, cond, List, [], ◌∷◌, ◌++◌, length, map, refl, arith, ap}
use Rattle.std.proofs.Common.{sym, ◌∙◌, inl, inr, length-append}
use Rattle.std.specs.Prelude.{◌==◌, filter, not}
use Rattle.wl_types.specs.Phases.{is_end}
use Rattle.wl_types.specs.declared.phases.Change.{Change}
use Rattle.wl_types.specs.declared.phases.Phase.{Phase}
use Rattle.wl_types.specs.declared.phases.Phase.TheVariants.{Pending}
use Rattle.wl_machine.specs.declared.rows.HeldRow.{HeldRow}
use Rattle.wl_machine.specs.declared.rows.PendingRow.{PendingRow}
use Rattle.wl_machine.specs.Step.{lock_ends, request_ends}
use Rattle.wl_machine.specs.Laws.{phases_of}
use Rattle.wl_machine.specs.OneMove.{lock_phase, held_phases, pending_phases}
use Rattle.wl_machine.proofs.ProcessingMoves.{Ended}

no_more : (p : Phase) (ps : List Phase) → length (p ∷ ps) ≤ 1 → ps ≡ []
no_more p [] most = refl
no_more p (x ∷ ps) most = absurd (omega (arith, most))

-- rows that have a number and a phase, as locks and requests do
module _ {X : Type 0} (number : X → ℕ) (phase : X → Phase) where
  abbrev phases : ℕ → List X → List Phase
  phases id rows = map phase (filter (λ row. number row == id) rows)

  abbrev ends : Phase → List X → List Change
  ends to rows = map (λ row. record { id = number row; phase = to }) rows

  -- where there is none of this number, none is ended
  pub none_ends : (chosen : X → Bool) (to : Phase) (id : ℕ) (rows : List X) → phases id rows ≡ []
      → (phases_of id (ends to (filter chosen rows)) ≡ []) × (phases id (filter (λ row. not (chosen row)) rows) ≡ [])
  none_ends chosen to id [] none = (refl, refl)
  none_ends chosen to id (x ∷ rows) none = at_row (number x == id) refl (chosen x) (none_ends chosen to id rows)
    where
      at_row : (b : Bool) → (number x == id) ≡ b → (k : Bool)
          → (phases id rows ≡ [] → (phases_of id (ends to (filter chosen rows)) ≡ [])
          × (phases id (filter (λ row. not (chosen row)) rows) ≡ []))
          → (phases_of id (ends to (cond k (x ∷ filter chosen rows) (filter chosen rows))) ≡ [])
          × (phases id (cond (not k) (x ∷ filter (λ row. not (chosen row)) rows)
          (filter (λ row. not (chosen row)) rows)) ≡ [])
      at_row true is k rest = absurd (let no : (phase x ∷ phases id rows) ≡ [] = rw is at none in cc)
      at_row false is true rest = let r = rest (rw is at none) in (rw is r.0, r.1)
      at_row false is false rest = let r = rest (rw is at none) in (r.0, rw is r.1)

  -- where there is one at most, its end is the one told, if it is chosen
  pub one_ends : (table : Phase → Phase → Bool) (chosen : X → Bool) (to : Phase) (id : ℕ) (rows : List X)
      → is_end to ≡ true → ((row : X) → chosen row ≡ true → table (phase row) to ≡ true)
      → length (phases id rows) ≤ 1 → Ended table (phases id rows) (phases_of id (ends to (filter chosen rows)))
      (phases id (filter (λ row. not (chosen row)) rows))
  one_ends table chosen to id [] end may most = inl (refl, refl)
  one_ends table chosen to id (x ∷ rows) end may most = at_row (number x == id) refl (chosen x) refl
      (one_ends table chosen to id rows end may)
    where
      at_row : (b : Bool) → (number x == id) ≡ b → (k : Bool) → chosen x ≡ k
          → (length (phases id rows) ≤ 1 → Ended table (phases id rows) (phases_of id (ends to (filter chosen rows)))
          (phases id (filter (λ row. not (chosen row)) rows)))
          → Ended table (phases id (x ∷ rows)) (phases_of id
          (ends to (cond k (x ∷ filter chosen rows) (filter chosen rows))))
          (phases id (cond (not k) (x ∷ filter (λ row. not (chosen row)) rows)
          (filter (λ row. not (chosen row)) rows)))
      at_row false is true pick rest = let r = rest (rw is at most) in rw is r
      at_row false is false pick rest = let r = rest (rw is at most) in rw is r
      at_row true is true pick rest =
          let none : phases id rows ≡ [] = no_more (phase x) (phases id rows) (rw is at most) in
          let r = none_ends chosen to id rows none in
          rw is (inr (
            phase x,
            to,
            ap (λ (ps : List Phase). phase x ∷ ps) none,
            ap (λ (ps : List Phase). to ∷ ps) r.0,
            may x pick,
            end,
            r.1,
          ))
      at_row true is false pick rest =
          let none : phases id rows ≡ [] = no_more (phase x) (phases id rows) (rw is at most) in
          let r = none_ends chosen to id rows none in
          rw is (inl (r.0, ap (λ (ps : List Phase). phase x ∷ ps) (r.1 ∙ sym none)))

pub no_lock : (chosen : HeldRow → Bool) (to : Phase) (id : ℕ) (held : List HeldRow) → held_phases id held ≡ []
    → (phases_of id (lock_ends to (filter chosen held)) ≡ [])
    × (held_phases id (filter (λ l. not (chosen l)) held) ≡ [])
no_lock = none_ends (λ (l : HeldRow). l.number) lock_phase

pub locks_end : (table : Phase → Phase → Bool) (chosen : HeldRow → Bool) (to : Phase) (id : ℕ) (held : List HeldRow)
    → is_end to ≡ true → ((l : HeldRow) → chosen l ≡ true → table (lock_phase l) to ≡ true)
    → length (held_phases id held) ≤ 1 → Ended table (held_phases id held)
    (phases_of id (lock_ends to (filter chosen held))) (held_phases id (filter (λ l. not (chosen l)) held))
locks_end = one_ends (λ (l : HeldRow). l.number) lock_phase

pub no_request : (chosen : PendingRow → Bool) (to : Phase) (id : ℕ) (pending : List PendingRow)
    → pending_phases id pending ≡ []
    → (phases_of id (request_ends to (filter chosen pending)) ≡ [])
    × (pending_phases id (filter (λ r. not (chosen r)) pending) ≡ [])
no_request = none_ends (λ (r : PendingRow). r.number) (λ r. Pending)

pub requests_end : (table : Phase → Phase → Bool) (chosen : PendingRow → Bool) (to : Phase) (id : ℕ)
    (pending : List PendingRow) → is_end to ≡ true → table Pending to ≡ true
    → length (pending_phases id pending) ≤ 1 → Ended table (pending_phases id pending)
    (phases_of id (request_ends to (filter chosen pending)))
    (pending_phases id (filter (λ r. not (chosen r)) pending))
requests_end table chosen to id pending end may most = one_ends (λ (r : PendingRow). r.number) (λ r. Pending) table
    chosen to id pending end (λ r chosen. may) most

-- ends among the locks and among the requests, of one number
pub both_end : (table : Phase → Phase → Bool) (h p h' p' hc pc : List Phase) → length (h ++ p) ≤ 1 → Ended table h hc h'
    → Ended table p pc p' → Ended table (h ++ p) (pc ++ hc) (h' ++ p')
both_end table h p h' p' hc pc most (inl e) (inl f) = inl (rw (e.0, f.0) refl, rw (e.1, f.1) refl)
both_end table h p h' p' hc pc most (inr (from, to, was, gives, move, end, left)) (inl f) =
    let none : p ≡ [] = no_more from p (rw was at most) in
    inr (from, to, rw (was, none) refl, rw (f.0, gives) refl, move, end, rw (left, f.1, none) refl)
both_end table h p h' p' hc pc most (inl e) (inr (from, to, was, gives, move, end, left)) =
    let none : h ≡ [] = empty h from (rw was at most) in
    inr (from, to, rw (none, was) refl, rw (e.0, gives) refl, move, end, rw (e.1, none, left) refl)
  where
    empty : (h : List Phase) (x : Phase) → length (h ++ x ∷ []) ≤ 1 → h ≡ []
    empty [] x most = refl
    empty (y ∷ h) x most = absurd (let l = length-append h (x ∷ []) in omega (arith, most, l))
both_end table h p h' p' hc pc most (inr (from, to, was, gives, move, end, left))
    (inr (from2, to2, was2, gives2, move2, end2, left2)) = absurd
    (let two : length ((from ∷ []) ++ (from2 ∷ [])) ≤ 1 = rw (was, was2) at most in omega (arith, two))
