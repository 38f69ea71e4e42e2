-- Changes, one after another.
use Rattle.std.proofs.Common.{◌≡◌, ◌≢◌, ℕ, zero, suc, ◌+◌, ◌<◌, List, [], ◌∷◌, ◌++◌, length, take, refl, arith, sym, ap}
use Rattle.std.proofs.Common.{◌∙◌, cond, eq-eqb, ne_eqb, add-one, append-nil}
use Rattle.std.specs.Prelude.{◌==◌, slice_index_or}
use mathlib.Core.Logic.{dite}
use native.Mathlib.Decide.{ℕ_discrete}
use Rattle.wl_types.specs.declared.phases.Phase.{Phase}
use Rattle.wl_types.specs.declared.phases.Change.{Change}
use Rattle.wl_machine.specs.Laws.{phases_of}
use Rattle.wl_machine.proofs.ProcessingMoves.{phases_of-append}
use Rattle.wl_manager.specs.inner.Keepers.{MayPublish, MayPublishAll, after}

some_change : (changes : List Change) (i : ℕ) (d : Change) → i < length changes
    → phases_of (slice_index_or changes i d).id changes ≢ []
some_change [] i d within none = omega (arith, within)
some_change (x ∷ xs) zero d within none = let no : (x.phase ∷ phases_of x.id xs)
    ≡ [] = rw (eq-eqb x.id x.id refl) at none in cc
some_change (x ∷ xs) (suc i) d within none = dite (ℕ_discrete x.id (slice_index_or xs i d).id)
    (λ e. let no : (x.phase ∷ phases_of (slice_index_or xs i d).id xs)
    ≡ [] = rw (eq-eqb x.id (slice_index_or xs i d).id e) at none in cc)
    (λ n. some_change xs i d (omega (arith, within)) (rw (ne_eqb x.id (slice_index_or xs i d).id n) at none))

-- the change at a place is the only one of its number
pub only_change : (changes : List Change) (i : ℕ) (d : Change) (before : List Phase) → i < length changes
    → MayPublishAll before (phases_of (slice_index_or changes i d).id changes)
    → (phases_of (slice_index_or changes i d).id (take i changes) ≡ [])
    × MayPublish before (slice_index_or changes i d).phase
only_change [] i d before within may = absurd (omega (arith, within))
only_change (x ∷ xs) zero d before within may = let m : MayPublishAll before (x.phase ∷ phases_of x.id xs) =
    rw (eq-eqb x.id x.id refl) at may in (refl, m.0)
only_change (x ∷ xs) (suc i) d before within may = dite (ℕ_discrete x.id (slice_index_or xs i d).id)
    (λ e. let m : MayPublishAll before (x.phase ∷ phases_of (slice_index_or xs i d).id xs) =
    rw (eq-eqb x.id (slice_index_or xs i d).id e) at may in absurd (some_change xs i d (omega (arith, within)) m.1))
    (λ n. let rest = only_change xs i d before (omega (arith, within))
    (rw (ne_eqb x.id (slice_index_or xs i d).id n) at may) in rw (ne_eqb x.id (slice_index_or xs i d).id n) rest)

next_changes : (changes : List Change) (i : ℕ) (d : Change) (id : ℕ) → i < length changes
    → phases_of id (take (i + 1) changes) ≡ phases_of id (take i changes)
    ++ phases_of id (slice_index_or changes i d ∷ [])
next_changes changes i d id within = ap (phases_of id) (one_more changes i d within)
    ∙ phases_of-append id (take i changes) (slice_index_or changes i d ∷ [])
  where
    one_more : (xs : List Change) (i : ℕ) (d : Change) → i < length xs
        → take (i + 1) xs ≡ take i xs ++ slice_index_or xs i d ∷ []
    one_more [] i d within = absurd (omega (arith, within))
    one_more (x ∷ xs) zero d within = refl
    one_more (x ∷ xs) (suc i) d within = rw add-one (ap (λ (ys : List Change). x ∷ ys)
        (rw add-one at (one_more xs i d (omega (arith, within)))))

-- the phases after one change more
pub one_more_change : (changes : List Change) (i : ℕ) (d : Change) (id : ℕ) (before now new : List Phase)
    → i < length changes → MayPublishAll before (phases_of id changes)
    → now ≡ after (phases_of id (take i changes)) before → new
    ≡ cond (id == (slice_index_or changes i d).id) ((slice_index_or changes i d).phase ∷ []) now
    → new ≡ after (phases_of id (take (i + 1) changes)) before
one_more_change changes i d id before now new within may was is = dite (ℕ_discrete id (slice_index_or changes i d).id)
    (λ e.
    let none : phases_of id (take i changes) ≡ [] = rw (← e) at
    ((only_change changes i d before within (rw e at may)).0) in
    rw (next_changes changes i d id within, none, eq-eqb (slice_index_or changes i d).id id (sym e))
    (rw (eq-eqb id (slice_index_or changes i d).id e) at is))
    (λ n.
    rw (
      next_changes changes i d id within,
      ne_eqb (slice_index_or changes i d).id id (λ e. n (sym e)),
      append-nil (phases_of id (take i changes)),
    ) ((rw (ne_eqb id (slice_index_or changes i d).id n) at is) ∙ was))
