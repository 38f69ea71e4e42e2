-- Lists by number, and what `put` does to them.
use Rattle.std.proofs.Common.{◌≡◌, ℕ, zero, suc, ◌+◌, ◌<◌, ◌≤◌, List, [], ◌∷◌, Bool, true, false, cond, map, filter}
use Rattle.std.proofs.Common.{fold, length, get_or, ltb, eqb, refl, sym, ap, subst, inl, inr, ◌∙◌, arith}
use Rattle.std.proofs.lemmas.Bool.{lt-ltb, le-ltb, ne_eqb, eq-eqb, cases_eq, cases_lt}
use Rattle.wl_types.specs.declared.phases.Phase.TheVariants.{Pending}
use Rattle.wl_types.specs.Phases.{is_end}
use Rattle.wl_session.specs.LastReported.{RequestPhase, IsFrom, IsByNumber, is_live, before, beyond, put, phase_in}
use Rattle.wl_session.specs.LastReported.{as_released}

pub from_lower : (ls : List RequestPhase) (low higher : ℕ) → low ≤ higher → IsFrom higher ls → IsFrom low ls
from_lower [] low higher le h = tt
from_lower (l ∷ ls) low higher le h = (omega (arith, h.0), h.1)

kept_from : (b : Bool) (l : RequestPhase) (rest : List RequestPhase) (low : ℕ) → low ≤ l.0 → IsFrom (l.0 + 1) rest
    → IsFrom low (cond b (l ∷ rest) rest)
kept_from true l rest low le h = (le, h)
kept_from false l rest low le h = from_lower rest low (l.0 + 1) (omega (arith, le)) h

pub from_filter : (p : RequestPhase → Bool) (ls : List RequestPhase) (low : ℕ) → IsFrom low ls
    → IsFrom low (filter p ls)
from_filter p [] low h = tt
from_filter p (l ∷ ls) low h = kept_from (p l) l (filter p ls) low h.0 (from_filter p ls (l.0 + 1) h.1)

pub from_released : (ls : List RequestPhase) (low : ℕ) → IsFrom low ls → IsFrom low (map as_released ls)
from_released [] low h = tt
from_released (l ∷ ls) low h = (h.0, from_released ls (l.0 + 1) h.1)

-- each number is at least the low one
pub at_least : (ls : List RequestPhase) (low i : ℕ) (d : RequestPhase) → i < length ls → IsFrom low ls
    → low ≤ (get_or ls i d).0
at_least [] low i d lt h = absurd (omega arith)
at_least (l ∷ ls) low zero d lt h = h.0
at_least (l ∷ ls) low (suc i) d lt h =
    let more : l.0 + 1 ≤ (get_or ls i d).0 = at_least ls (l.0 + 1) i d (omega arith) h.1 in
    omega (arith, h.0)

-- a later number is higher
pub rises : (ls : List RequestPhase) (low i j : ℕ) (d : RequestPhase) → i < j → j < length ls → IsFrom low ls
    → (get_or ls i d).0 < (get_or ls j d).0
rises [] low i j d lt in_range h = absurd (omega arith)
rises (l ∷ ls) low i zero d lt in_range h = absurd (omega arith)
rises (l ∷ ls) low zero (suc j) d lt in_range h =
    let more : l.0 + 1 ≤ (get_or ls j d).0 = at_least ls (l.0 + 1) j d (omega arith) h.1 in
    omega arith
rises (l ∷ ls) low (suc i) (suc j) d lt in_range h = rises ls (l.0 + 1) i j d (omega arith) (omega arith) h.1

-- what a list says of a number below its own
pub record IsBelow (ls : List RequestPhase) (n : ℕ) : Type 0 where
  pub none_before : before n ls ≡ []
  pub all_beyond : beyond n ls ≡ ls
  pub not_reported : phase_in ls n ≡ Pending

pub below : (ls : List RequestPhase) (low n : ℕ) → n < low → IsFrom low ls → IsBelow ls n
below [] low n lt h = record { none_before = refl; all_beyond = refl; not_reported = refl }
below (l ∷ ls) low n lt h =
    let rest = below ls (l.0 + 1) n (omega (arith, h.0)) h.1 in
    let not_before : ltb l.0 n ≡ false = le-ltb l.0 n (omega (arith, h.0)) in
    let is_beyond : ltb n l.0 ≡ true = lt-ltb n l.0 (omega (arith, h.0)) in
    let other : eqb l.0 n ≡ false = ne_eqb l.0 n (λ e. omega (arith, h.0)) in
    record {
      none_before = rw not_before rest.none_before;
      all_beyond = rw is_beyond (ap (λ (xs : List RequestPhase). l ∷ xs) rest.all_beyond);
      not_reported = rw other rest.not_reported;
    }

-- an observation goes behind one of a lower number
pub put_behind : (x : RequestPhase) (xs : List RequestPhase) (l : RequestPhase) → x.0 < l.0
    → put (x ∷ xs) l ≡ x ∷ put xs l
put_behind x xs l lt = rw (lt-ltb x.0 l.0 lt, le-ltb l.0 x.0 (omega arith)) refl

-- over one of the same
pub put_over : (x : RequestPhase) (xs : List RequestPhase) (l : RequestPhase) → x.0 ≡ l.0 → IsFrom (x.0 + 1) xs
    → put (x ∷ xs) l ≡ l ∷ xs
put_over x xs l same h =
    let b = below xs (x.0 + 1) l.0 (omega arith) h in
    rw (le-ltb x.0 l.0 (omega arith), le-ltb l.0 x.0 (omega arith), b.none_before, b.all_beyond) refl

-- and before one of a higher
pub put_ahead : (x : RequestPhase) (xs : List RequestPhase) (l : RequestPhase) → l.0 < x.0 → IsFrom (x.0 + 1) xs
    → put (x ∷ xs) l ≡ l ∷ x ∷ xs
put_ahead x xs l lt h =
    let b = below xs (x.0 + 1) l.0 (omega arith) h in
    rw (le-ltb x.0 l.0 (omega arith), lt-ltb l.0 x.0 lt, b.none_before, b.all_beyond) refl

pub from_put : (ls : List RequestPhase) (l : RequestPhase) (low : ℕ) → low ≤ l.0 → IsFrom low ls → IsFrom low (put ls l)
from_put [] l low le h = (le, tt)
from_put (x ∷ xs) l low le h = elim (cases_lt x.0 l.0) [
  | inl lt ↦ subst (IsFrom low) (sym (put_behind x xs l lt)) (h.0, from_put xs l (x.0 + 1) (omega arith) h.1)
  | inr ge ↦ elim (cases_lt l.0 x.0) [
    | inl lt ↦ subst (IsFrom low) (sym (put_ahead x xs l lt h.1)) (le, (omega arith, h.1))
    | inr le' ↦ subst (IsFrom low) (sym (put_over x xs l (omega arith) h.1))
        (le, from_lower xs (l.0 + 1) (x.0 + 1) (omega arith) h.1)
  ]
]

pub by_number_put : (ls : List RequestPhase) (l : RequestPhase) → IsByNumber ls → IsByNumber (put ls l)
by_number_put ls l h = from_put ls l 0 (omega arith) h

pub by_number_fold : (ls xs : List RequestPhase) → IsByNumber xs → IsByNumber (fold put xs ls)
by_number_fold [] xs h = h
by_number_fold (l ∷ ls) xs h = by_number_fold ls (put xs l) (by_number_put xs l h)

-- ---- one look after another

-- an observation below all of a list goes before it
pub put_first : (ls : List RequestPhase) (l : RequestPhase) → IsFrom (l.0 + 1) ls → put ls l ≡ l ∷ ls
put_first [] l h = refl
put_first (x ∷ xs) l h = put_ahead x xs l (omega (arith, h.0)) h.1

-- observations above the first leave it where it is
pub fold_behind : (x : RequestPhase) (xs ls : List RequestPhase) → IsFrom (x.0 + 1) ls
    → fold put (x ∷ xs) ls ≡ x ∷ fold put xs ls
fold_behind x xs [] h = refl
fold_behind x xs (l ∷ ls) h =
    ap (λ (now : List RequestPhase). fold put now ls) (put_behind x xs l (omega (arith, h.0)))
    ∙ fold_behind x (put xs l) ls (from_lower ls (x.0 + 1) (l.0 + 1) (omega (arith, h.0)) h.1)

-- ---- what is live in a list

-- of a request whose end was reported, what is live says nothing
pub live_says : (ls : List RequestPhase) (low n : ℕ) → IsFrom low ls
    → phase_in (filter is_live ls) n ≡ cond (is_end (phase_in ls n)) Pending (phase_in ls n)
live_says [] low n h = refl
live_says (l ∷ ls) low n h = elim (cases_eq l.0 n) [
  | inl same ↦ here (eq-eqb l.0 n same) (is_end l.1) refl (below (filter is_live ls) (l.0 + 1) n (omega (arith, same))
      (from_filter is_live ls (l.0 + 1) h.1)).not_reported
  | inr other ↦ later (ne_eqb l.0 n other) (is_end l.1) refl (live_says ls (l.0 + 1) n h.1)
] where
  here : eqb l.0 n ≡ true → (b : Bool) → is_end l.1 ≡ b → phase_in (filter is_live ls) n ≡ Pending
      → phase_in (filter is_live (l ∷ ls)) n ≡ cond (is_end (phase_in (l ∷ ls) n)) Pending (phase_in (l ∷ ls) n)
  here is true e rest = rw (is, e) rest
  here is false e rest = rw (e, is, e) refl

  later : eqb l.0 n ≡ false → (b : Bool) → is_end l.1 ≡ b → phase_in (filter is_live ls) n
      ≡ cond (is_end (phase_in ls n)) Pending (phase_in ls n)
      → phase_in (filter is_live (l ∷ ls)) n ≡ cond (is_end (phase_in (l ∷ ls) n)) Pending (phase_in (l ∷ ls) n)
  later is true e rest = rw (e, is) rest
  later is false e rest = rw (e, is) rest
