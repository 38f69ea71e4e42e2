-- What a search by halves finds.
use Rattle.std.proofs.Common.{◌≡◌, ℕ, zero, suc, ◌+◌, ◌<◌, ◌≤◌, List, [], ◌∷◌, true, false, length, get_or, ltb, eqb}
use Rattle.std.proofs.Common.{Result, Ok, Err, IfOk, IfErr, refl, sym, ap, arith}
use Rattle.std.specs.List.Sorted.{IsSearchInRange, IsBinarySearchResult, IsNonDecreasingBy}
use Rattle.std.specs.Ordering.{nat_cmp, ordering_index}
use Rattle.std.proofs.lemmas.Cmp.{ranked}
use Rattle.std.proofs.lemmas.List.Sorted.{IsNonDecreasingBy-from_default}
use Rattle.std.proofs.lemmas.Bool.{lt-ltb, le-ltb, ne_eqb, eq-eqb}
use Rattle.std.proofs.lemmas.Bool.Decides.{nat_tests}
use Rattle.wl_types.specs.declared.phases.Phase.TheVariants.{Pending}
use Rattle.wl_session.specs.LastReported.{RequestPhase, IsFrom, IsByNumber}
use Rattle.wl_session.specs.inner.Places.{IsAt, IsGapFor}
use Rattle.wl_session.proofs.Order.{at_least, rises, below}
use Rattle.wl_session.proofs.Lookup.{absent}

-- any look, for what stands past a list's end
abbrev none : RequestPhase
none = (0, Pending)

-- what the tests say of a lower number
tests_behind : (low n : ℕ) → low < n → (ltb low n ≡ true) × (ltb n low ≡ false) × (eqb low n ≡ false)
tests_behind low n lt = (lt-ltb low n lt, le-ltb n low (omega arith), ne_eqb low n (λ e. omega arith))

-- the place of a number, one behind an observation of a lower one
at_behind : (l : RequestPhase) (ls : List RequestPhase) (n at : ℕ) → l.0 < n → IsAt ls n at → IsAt (l ∷ ls) n (suc at)
at_behind l ls n at lt p =
    let is = tests_behind l.0 n lt in
    record {
      in_range = omega (arith, p.in_range);
      lower = rw is.0 (ap (λ (xs : List RequestPhase). l ∷ xs) p.lower);
      higher = let next : suc at + 1 ≡ suc (at + 1) = omega arith in rw (next, is.1) p.higher;
      number = λ d. p.number d;
      phase = λ d. rw is.2 (p.phase d);
      found = λ d. rw is.2 (p.found d);
    }

pub found_at : (ls : List RequestPhase) (low n at : ℕ) → IsFrom low ls → at < length ls → (get_or ls at none).0 ≡ n
    → IsAt ls n at
found_at [] low n at h lt same = absurd (omega arith)
found_at (l ∷ ls) low n zero h lt same =
    let b = below ls (l.0 + 1) n (omega arith) h.1 in
    let not_before : ltb l.0 n ≡ false = le-ltb l.0 n (omega arith) in
    let not_beyond : ltb n l.0 ≡ false = le-ltb n l.0 (omega arith) in
    let here : eqb l.0 n ≡ true = eq-eqb l.0 n same in
    record {
      in_range = lt;
      lower = rw (not_before, b.none_before) refl;
      higher = rw (not_beyond, b.all_beyond) refl;
      number = λ d. same;
      phase = λ d. rw here refl;
      found = λ d. rw here refl;
    }
found_at (l ∷ ls) low n (suc at) h lt same =
    let more : l.0 + 1 ≤ (get_or ls at none).0 = at_least ls (l.0 + 1) at none (omega arith) h.1 in
    at_behind l ls n at (omega arith) (found_at ls (l.0 + 1) n at h.1 (omega arith) same)

-- the gap for a number, one behind an observation of a lower one
gap_behind : (l : RequestPhase) (ls : List RequestPhase) (n at : ℕ) → l.0 < n → IsGapFor ls n at
    → IsGapFor (l ∷ ls) n (suc at)
gap_behind l ls n at lt p =
    let is = tests_behind l.0 n lt in
    record {
      in_range = omega (arith, p.in_range);
      lower = rw is.0 (ap (λ (xs : List RequestPhase). l ∷ xs) p.lower);
      higher = rw is.1 p.higher;
      phase = rw is.2 p.phase;
      none_found = rw is.2 p.none_found;
    }

pub gap_at : (ls : List RequestPhase) (low n at : ℕ) → IsFrom low ls → at ≤ length ls
    → ((j : ℕ) → j < at → (get_or ls j none).0 < n)
    → ((j : ℕ) → at ≤ j → j < length ls → n < (get_or ls j none).0) → IsGapFor ls n at
gap_at [] low n zero h le smaller greater = record {
  in_range = le;
  lower = refl;
  higher = refl;
  phase = refl;
  none_found = refl;
}
gap_at [] low n (suc at) h le smaller greater = absurd (omega arith)
gap_at (l ∷ ls) low n zero h le smaller greater =
    let less : n < l.0 = greater 0 (omega arith) (omega arith) in
    let all : IsFrom l.0 (l ∷ ls) = (omega arith, h.1) in
    let b = below (l ∷ ls) l.0 n less all in
    record {
      in_range = le;
      lower = sym b.none_before;
      higher = sym b.all_beyond;
      phase = b.not_reported;
      none_found = absent (l ∷ ls) l.0 n less all;
    }
gap_at (l ∷ ls) low n (suc at) h le smaller greater =
    gap_behind l ls n at (smaller 0 (omega arith)) (gap_at ls (l.0 + 1) n at h.1 (omega arith)
    (λ j lt. smaller (suc j) (omega arith)) (λ j from lt. greater (suc j) (omega arith) (omega arith)))

module _ (ls : List RequestPhase) (h : IsByNumber ls) (n : ℕ) where
  -- the comparisons with n rise along the list, as a search by halves asks
  comparisons_rise : IsNonDecreasingBy (λ (l : RequestPhase). ordering_index (nat_cmp l.0 n)) ls
  comparisons_rise = IsNonDecreasingBy-from_default (λ (l : RequestPhase). ordering_index (nat_cmp l.0 n)) ls none
      (λ i j le in_range.
      let up : (get_or ls i none).0 ≤ (get_or ls j none).0 =
      grind (
        arith,
        rises ls 0 i j none,
        λ (lt : i < j). rises ls 0 i j none lt in_range h,
        λ (same : i ≡ j). ap (λ k. (get_or ls k none).0) same,
      ) in
      grind (arith, nat_tests))

  pub searched : (r : Result ℕ ℕ) → IsSearchInRange r (length ls)
      → IsBinarySearchResult (λ (l : RequestPhase). nat_cmp l.0 n) ls r
      → record { found : IfOk r (IsAt ls n); absent : IfErr r (IsGapFor ls n) }
  searched (Ok at) in_range equal = record {
    found = found_at ls 0 n at h in_range (ranked _ n _ (sym (equal none)));
    absent = tt;
  }
  searched (Err at) in_range parted = record {
    found = tt;
    absent = gap_at ls 0 n at h in_range (λ j lt. ranked _ n _
        (sym ((parted comparisons_rise).0 j none (omega arith) lt)))
        (λ j le lt. ranked _ n _ (sym ((parted comparisons_rise).1 j none le lt)));
  }
