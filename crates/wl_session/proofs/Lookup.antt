-- Lists by number as tables from numbers to phases, and observations that leave released requests out.
use Rattle.std.proofs.Common.{◌≡◌, ◌≢◌, ℕ, ◌+◌, ◌<◌, List, [], ◌∷◌, Bool, true, false, cond, Option, Some, None, map}
use Rattle.std.proofs.Common.{filter, fold, eqb, refl, sym, ap, subst, inl, inr, ◌∙◌, arith}
use Rattle.std.proofs.lemmas.Bool.{ne_eqb, eq-eqb, cases_eq, cases_lt}
use Rattle.wl_types.specs.declared.phases.Phase.{Phase}
use Rattle.wl_types.specs.declared.phases.Phase.TheVariants.{Released}
use Rattle.wl_session.specs.LastReported.{RequestPhase, IsFrom, IsByNumber, found_in, is_live, put, as_released}
use Rattle.wl_session.specs.LastReported.{with_released, notice}
use Rattle.wl_session.specs.Laws.{ObservedAreLeft, ObservedDecideNotices}
use Rattle.wl_session.proofs.Order.{from_filter, from_released, put_behind, put_over, put_ahead, by_number_put}
use Rattle.wl_session.proofs.Order.{by_number_fold}
use Rattle.wl_session.proofs.DueNotices.{is_due}

abbrev or_else : Option Phase → Option Phase → Option Phase
or_else None other = other
or_else (Some p) other = Some p

first_found : (l : RequestPhase) (ls : List RequestPhase) → found_in (l ∷ ls) l.0 ≡ Some l.1
first_found l ls = rw (eq-eqb l.0 l.0 refl) refl

later_found : (l : RequestPhase) (ls : List RequestPhase) (n : ℕ) → l.0 ≢ n → found_in (l ∷ ls) n ≡ found_in ls n
later_found l ls n other = rw (ne_eqb l.0 n other) refl

-- nothing below the first
pub absent : (ls : List RequestPhase) (low n : ℕ) → n < low → IsFrom low ls → found_in ls n ≡ None
absent [] low n lt h = refl
absent (l ∷ ls) low n lt h = later_found l ls n (λ e. omega (arith, h.0))
    ∙ absent ls (l.0 + 1) n (omega (arith, h.0)) h.1

-- lists by number with the same phases are the same
same_if_found : (xs ys : List RequestPhase) (low : ℕ) → IsFrom low xs → IsFrom low ys
    → ((n : ℕ) → found_in xs n ≡ found_in ys n) → xs ≡ ys
same_if_found [] [] low hx hy same = refl
same_if_found [] (y ∷ ys) low hx hy same = absurd (let wrong = same y.0 ∙ first_found y ys in cc)
same_if_found (x ∷ xs) [] low hx hy same = absurd (let wrong = sym (first_found x xs) ∙ same x.0 in cc)
same_if_found (x ∷ xs) (y ∷ ys) low hx hy same = elim (cases_lt x.0 y.0) [
  | inl lt ↦ absurd (let wrong = sym (first_found x xs) ∙ same x.0 ∙ absent (y ∷ ys) y.0 x.0 lt (omega arith, hy.1)
      in cc)
  | inr ge ↦ elim (cases_lt y.0 x.0) [
    | inl lt ↦ absurd (let wrong = sym (first_found y ys) ∙ sym (same y.0)
        ∙ absent (x ∷ xs) x.0 y.0 lt (omega arith, hx.1) in cc)
    | inr le ↦
        let number : x.0 ≡ y.0 = omega arith in
        let phase : Some x.1 ≡ Some y.1 = sym (first_found x xs) ∙ same x.0 ∙ ap (found_in (y ∷ ys)) number
        ∙ first_found y ys in
        let first : (let l : RequestPhase = (x.0, x.1) in l) ≡ (y.0, y.1) = cc in
        let rest : xs ≡ ys = same_if_found xs ys (x.0 + 1) hx.1 (subst (λ k. IsFrom (k + 1) ys) (sym number) hy.1)
        (later_same x y xs ys hx.1 hy.1 number same) in
        cc
  ]
] where
  later_same : (x y : RequestPhase) (xs ys : List RequestPhase) → IsFrom (x.0 + 1) xs → IsFrom (y.0 + 1) ys → x.0 ≡ y.0
      → ((n : ℕ) → found_in (x ∷ xs) n ≡ found_in (y ∷ ys) n) → (n : ℕ) → found_in xs n ≡ found_in ys n
  later_same x y xs ys hx hy number same n = elim (cases_lt x.0 n) [
    | inl lt ↦ sym (later_found x xs n (λ e. omega arith)) ∙ same n ∙ later_found y ys n (λ e. omega arith)
    | inr ge ↦ absent xs (x.0 + 1) n (omega arith) hx ∙ sym (absent ys (y.0 + 1) n (omega arith) hy)
  ]

-- ---- what is found after an edit

-- what passes a test
abbrev passed : (RequestPhase → Bool) → ℕ → Option Phase → Option Phase
passed p n None = None
passed p n (Some found) = cond (p (n, found)) (Some found) None

-- the first look of a list, where the test is known
in_filter_first : (p : RequestPhase → Bool) (b : Bool) (l : RequestPhase) (ls : List RequestPhase) → IsFrom (l.0 + 1) ls
    → p l ≡ b → found_in (cond b (l ∷ ls) ls) l.0 ≡ cond b (Some l.1) None
in_filter_first p true l ls h is = first_found l ls
in_filter_first p false l ls h is = absent ls (l.0 + 1) l.0 (omega arith) h

in_filter_later : (b : Bool) (l : RequestPhase) (ls : List RequestPhase) (n : ℕ) → l.0 ≢ n
    → found_in (cond b (l ∷ ls) ls) n ≡ found_in ls n
in_filter_later true l ls n other = later_found l ls n other
in_filter_later false l ls n other = refl

in_filter : (p : RequestPhase → Bool) (ls : List RequestPhase) (low n : ℕ) → IsFrom low ls
    → found_in (filter p ls) n ≡ passed p n (found_in ls n)
in_filter p [] low n h = refl
in_filter p (l ∷ ls) low n h = elim (cases_eq l.0 n) [
  | inl same ↦ subst (λ k. found_in (filter p (l ∷ ls)) k ≡ passed p k (found_in (l ∷ ls) k)) same
      (in_filter_first p (p l) l (filter p ls) (from_filter p ls (l.0 + 1) h.1) refl
      ∙ sym (ap (passed p l.0) (first_found l ls)))
  | inr other ↦ in_filter_later (p l) l (filter p ls) n other ∙ in_filter p ls (l.0 + 1) n h.1
      ∙ sym (ap (passed p n) (later_found l ls n other))
]

-- an observation is found first
in_put_same : (xs : List RequestPhase) (l : RequestPhase) (low : ℕ) → IsFrom low xs → found_in (put xs l) l.0 ≡ Some l.1
in_put_same [] l low h = first_found l []
in_put_same (x ∷ xs) l low h = elim (cases_lt x.0 l.0) [
  | inl lt ↦ ap (λ (ls : List RequestPhase). found_in ls l.0) (put_behind x xs l lt)
      ∙ later_found x (put xs l) l.0 (λ e. omega arith) ∙ in_put_same xs l (x.0 + 1) h.1
  | inr ge ↦ elim (cases_lt l.0 x.0) [
    | inl lt ↦ ap (λ (ls : List RequestPhase). found_in ls l.0) (put_ahead x xs l lt h.1) ∙ first_found l (x ∷ xs)
    | inr le ↦ ap (λ (ls : List RequestPhase). found_in ls l.0) (put_over x xs l (omega arith) h.1) ∙ first_found l xs
  ]
]

in_put_other : (xs : List RequestPhase) (l : RequestPhase) (low n : ℕ) → l.0 ≢ n → IsFrom low xs
    → found_in (put xs l) n ≡ found_in xs n
in_put_other [] l low n other h = later_found l [] n other
in_put_other (x ∷ xs) l low n other h = elim (cases_lt x.0 l.0) [
  | inl lt ↦ ap (λ (ls : List RequestPhase). found_in ls n) (put_behind x xs l lt)
      ∙ ap (λ (found : Option Phase). cond (eqb x.0 n) (Some x.1) found) (in_put_other xs l (x.0 + 1) n other h.1)
  | inr ge ↦ elim (cases_lt l.0 x.0) [
    | inl lt ↦ ap (λ (ls : List RequestPhase). found_in ls n) (put_ahead x xs l lt h.1) ∙ later_found l (x ∷ xs) n other
    | inr le ↦ ap (λ (ls : List RequestPhase). found_in ls n) (put_over x xs l (omega arith) h.1)
        ∙ later_found l xs n other ∙ sym (later_found x xs n (λ e. other (omega arith)))
  ]
]

in_fold : (ls xs : List RequestPhase) (low n : ℕ) → IsFrom low ls → IsByNumber xs
    → found_in (fold put xs ls) n ≡ or_else (found_in ls n) (found_in xs n)
in_fold [] xs low n h hx = refl
in_fold (l ∷ ls) xs low n h hx = elim (cases_eq l.0 n) [
  | inl same ↦ subst (λ k. found_in (fold put xs (l ∷ ls)) k ≡ or_else (found_in (l ∷ ls) k) (found_in xs k)) same
      (in_fold ls (put xs l) (l.0 + 1) l.0 h.1 (by_number_put xs l hx)
      ∙ ap (λ (found : Option Phase). or_else found (found_in (put xs l) l.0))
      (absent ls (l.0 + 1) l.0 (omega arith) h.1)
      ∙ in_put_same xs l 0 hx
      ∙ sym (ap (λ (found : Option Phase). or_else found (found_in xs l.0)) (first_found l ls)))
  | inr other ↦ in_fold ls (put xs l) (l.0 + 1) n h.1 (by_number_put xs l hx)
      ∙ ap (or_else (found_in ls n)) (in_put_other xs l 0 n other hx)
      ∙ sym (ap (λ (found : Option Phase). or_else found (found_in xs n)) (later_found l ls n other))
]

-- the phase of a number that was released, where it stands in the list
abbrev without_end : Option Phase → Option Phase
without_end None = None
without_end (Some last_reported) = Some Released

in_released : (ls : List RequestPhase) (n : ℕ) → found_in (map as_released ls) n ≡ without_end (found_in ls n)
in_released [] n = refl
in_released (l ∷ ls) n = first_or_later (eqb l.0 n) (in_released ls n) where
  first_or_later : (b : Bool) → found_in (map as_released ls) n ≡ without_end (found_in ls n)
      → cond b (Some Released) (found_in (map as_released ls) n) ≡ without_end (cond b (Some l.1) (found_in ls n))
  first_or_later true rest = refl
  first_or_later false rest = rest

-- ---- the laws

in_completed : (last_reported observed : List RequestPhase) (n : ℕ) → IsByNumber last_reported → IsByNumber observed
    → found_in (with_released last_reported observed) n ≡ or_else (found_in observed n)
    (without_end (found_in last_reported n))
in_completed last_reported observed n ht hl = in_fold observed (map as_released last_reported) 0 n hl
    (from_released last_reported 0 ht) ∙ ap (or_else (found_in observed n)) (in_released last_reported n)

by_number_completed : (last_reported observed : List RequestPhase) → IsByNumber last_reported
    → IsByNumber (with_released last_reported observed)
by_number_completed last_reported observed ht = by_number_fold observed (map as_released last_reported)
    (from_released last_reported 0 ht)

-- where a released request fails a test, it plays no part in what passes it
passed_released : (p : RequestPhase → Bool) (n : ℕ) (last_reported found : Option Phase) → p (n, Released) ≡ false
    → passed p n (or_else found (without_end last_reported)) ≡ passed p n found
passed_released p n None None fails = refl
passed_released p n (Some t) None fails = rw fails refl
passed_released p n last_reported (Some f) fails = refl

without_released : (p : RequestPhase → Bool) (last_reported observed : List RequestPhase) → IsByNumber last_reported
    → IsByNumber observed → ((n : ℕ) → p (n, Released) ≡ false)
    → filter p (with_released last_reported observed) ≡ filter p observed
without_released p last_reported observed ht hl fails =
    same_if_found (filter p (with_released last_reported observed)) (filter p observed) 0
    (from_filter p _ 0 (by_number_completed last_reported observed ht)) (from_filter p observed 0 hl) (λ n.
    in_filter p (with_released last_reported observed) 0 n (by_number_completed last_reported observed ht)
    ∙ ap (passed p n) (in_completed last_reported observed n ht hl)
    ∙ passed_released p n (found_in last_reported n) (found_in observed n) (fails n)
    ∙ sym (in_filter p observed 0 n hl))

-- each request that was told is named
none_left : (last_reported found : Option Phase) → or_else (or_else found (without_end last_reported)) last_reported
    ≡ or_else found (without_end last_reported)
none_left None None = refl
none_left (Some t) None = refl
none_left last_reported (Some f) = refl

all_named : (last_reported observed : List RequestPhase) → IsByNumber last_reported → IsByNumber observed
    → fold put last_reported (with_released last_reported observed) ≡ with_released last_reported observed
all_named last_reported observed ht hl =
    let hc = by_number_completed last_reported observed ht in
    same_if_found (fold put last_reported (with_released last_reported observed)) (with_released last_reported observed)
    0 (by_number_fold (with_released last_reported observed) last_reported ht) hc (λ n.
    in_fold (with_released last_reported observed) last_reported 0 n hc ht
    ∙ ap (λ (found : Option Phase). or_else found (found_in last_reported n))
    (in_completed last_reported observed n ht hl)
    ∙ none_left (found_in last_reported n) (found_in observed n) ∙ sym (in_completed last_reported observed n ht hl))

pub observed_are_left : ObservedAreLeft
observed_are_left last_reported observed ht hl = ap (filter is_live) (all_named last_reported observed ht hl)
    ∙ without_released is_live last_reported observed ht hl (λ n. refl)

pub observed_decide_notices : ObservedDecideNotices
observed_decide_notices o last_reported observed ht hl = ap (map notice)
    (without_released (is_due o last_reported) last_reported observed ht hl (λ n. refl))
