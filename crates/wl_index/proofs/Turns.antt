-- Requests and locks that end one after the other.
use Rattle.std.proofs.Common.{◌≡◌, ℕ, ◌+◌, ◌<◌, ◌==◌, Bool, true, false, cond, List, [], ◌∷◌, length, refl, ap, sym}
use Rattle.std.proofs.Common.{◌∙◌, arith, drop, get_or, nat_lt, add-one, drop-cons}
use Rattle.std.specs.Prelude.{not, ◌||◌, filter, Some, if◌then◌else◌}
use Rattle.std.specs.Option.{IsSome}
use Rattle.std.specs.List.{list_any, AllByRecursion}
use Rattle.std.specs.List.Sorted.{IsStrictlySortedBy}
use Rattle.std.specs.Map.{keys_of, lookup}
use Rattle.std.specs.BTreeMap.{is_at}
use Rattle.std.specs.Ordering.{nat_cmp}
use Rattle.std.proofs.lemmas.Bool.Decides.{nat_tests}
use Rattle.std.proofs.lemmas.Map.Keys.{sorted_head, sorted_tail}
use Rattle.wl_index.specs.inner.GrantOrder.{Distinct, place, by_grant_seq}
use Rattle.wl_index.proofs.GrantOrder.{by_grant_seq_all, place_all}
use Rattle.wl_index.specs.inner.Rows.{Entry, other}
use Rattle.wl_index.specs.inner.Ends.{AreLive}
use Rattle.wl_index.proofs.Lists.{all_filter, all_weaker}
use Rattle.wl_index.proofs.Distinct.{distinct_filter}
use Rattle.wl_number_map.proofs.Keyed.{same_number, number_same, above_apart}

-- the next of a list's rest
pub rest_next : {X : Type 0} (l : List X) (i : ℕ) (d : X) → i < length l → drop i l ≡ get_or l i d ∷ drop (i + 1) l
rest_next l i d less = rw (add-one) (drop-cons l i d less)

-- a number that some entry has is found
some_found : (n : ℕ) (es : List Entry) → list_any (λ (e : Entry). e.0 == n) es ≡ true
    → IsSome (lookup (is_at (nat_cmp n)) es)
some_found n [] some = absurd (cc)
some_found n (e ∷ es) some = by (e.0 == n) refl (some_found n es)
  where
    by : (b : Bool) → (e.0 == n) ≡ b → (list_any (λ (x : Entry). x.0 == n) es ≡ true
        → IsSome (lookup (is_at (nat_cmp n)) es)) → IsSome (cond (is_at (nat_cmp n) e.0) (Some e.1)
        (lookup (is_at (nat_cmp n)) es))
    by true h rest = rw (same_number n e.0, h) refl
    by false h rest = rw (same_number n e.0, h) (rest (sym (ap (λ b. b || list_any (λ (x : Entry). x.0 == n) es) h)
        ∙ some))

-- another end leaves it there
still_some : (k n : ℕ) (es : List Entry) → (k ≡ n → ⊥) → list_any (λ (e : Entry). e.0 == n) es ≡ true
    → list_any (λ (e : Entry). e.0 == n) (filter (other k) es) ≡ true
still_some k n [] apart some = some
still_some k n (e ∷ es) apart some = by (e.0 == k) refl (e.0 == n) refl (still_some k n es apart)
  where
    differs : (e.0 == k) ≡ true → (e.0 == n) ≡ true → ⊥
    differs h m = apart (grind (arith, nat_tests, h, m))

    seen : (b : Bool) → (e.0 == n) ≡ b → (b || list_any (λ (x : Entry). x.0 == n) es) ≡ true
    seen b m = sym (ap (λ c. c || list_any (λ (x : Entry). x.0 == n) es) m) ∙ some

    by : (b : Bool) → (e.0 == k) ≡ b → (c : Bool) → (e.0 == n) ≡ c
        → (list_any (λ (x : Entry). x.0 == n) es ≡ true → list_any (λ (x : Entry). x.0 == n) (filter (other k) es)
        ≡ true)
        → list_any (λ (x : Entry). x.0 == n) (cond (not (e.0 == k)) (e ∷ filter (other k) es) (filter (other k) es))
        ≡ true
    by true h true m rest = absurd (differs h m)
    by true h false m rest = rw h (rest (seen false m))
    by false h true m rest = rw (h, m) refl
    by false h false m rest = rw (h, m) (rest (seen false m))

abbrev number : Entry → ℕ
number e = e.0

-- entries that are there, and differ, are live when their turns come
pub in_turn : (l es : List Entry) → AllByRecursion (λ (e : Entry). list_any (λ (x : Entry). x.0 == e.0) es ≡ true) l
    → Distinct number l → AreLive (keys_of l) es
in_turn [] es there distinct = tt
in_turn (e ∷ l) es there distinct = (
  some_found e.0 es there.0,
  in_turn l (filter (other e.0) es) (later l there.1 distinct.0) distinct.1,
)
  where
    later : (l : List Entry) → AllByRecursion (λ (y : Entry). list_any (λ (x : Entry). x.0 == y.0) es ≡ true) l
        → AllByRecursion (λ (y : Entry). e.0 ≡ y.0 → ⊥) l → AllByRecursion
        (λ (y : Entry). list_any (λ (x : Entry). x.0 == y.0) (filter (other e.0) es) ≡ true) l
    later [] there apart = tt
    later (y ∷ l) there apart = (still_some e.0 y.0 es apart.0 there.0, later l there.1 apart.1)

pub all_there : (es : List Entry) → AllByRecursion (λ (e : Entry). list_any (λ (x : Entry). x.0 == e.0) es ≡ true) es
all_there [] = tt
all_there (e ∷ es) = (
  rw (number_same e.0) refl,
  all_weaker
      (λ (y : Entry). list_any (λ (x : Entry). x.0 == y.0) es ≡ true)
      (λ (y : Entry). list_any (λ (x : Entry). x.0 == y.0) (e ∷ es) ≡ true) es
      (λ y h. or_true (e.0 == y.0) (list_any (λ (x : Entry). x.0 == y.0) es) h) (all_there es),
)
  where
    or_true : (a b : Bool) → b ≡ true → (a || b) ≡ true
    or_true true b h = refl
    or_true false b h = h

pub all_distinct : (es : List Entry) → IsStrictlySortedBy nat_cmp (keys_of es) → Distinct number es
all_distinct [] sorted = tt
all_distinct (e ∷ es) sorted = (
  all_weaker (λ (x : Entry). (x.0 == e.0) ≡ false) (λ (x : Entry). e.0 ≡ x.0 → ⊥) es
      (λ x no_one same. apart x.0 no_one same) (above_apart e.0 e.0 es (number_same e.0)
      (sorted_head nat_cmp e.0 (keys_of es) sorted)),
  all_distinct es (sorted_tail nat_cmp e.0 (keys_of es) sorted),
)
  where
    apart : (n : ℕ) → (n == e.0) ≡ false → e.0 ≡ n → ⊥
    apart n no_one same = grind (arith, nat_tests, no_one, same)

-- another order keeps numbers apart
module _ {X : Type 0} (f g : X → ℕ) where
  distinct_place : (x : X) (l : List X) → Distinct g (x ∷ l) → Distinct g (place f x l)
  distinct_place x [] distinct = distinct
  distinct_place x (y ∷ l) distinct = by (nat_lt (f x) (f y)) (distinct_place x l (distinct.0.1, distinct.1.1))
    where
      by : (b : Bool) → Distinct g (place f x l) → Distinct g (if b then x ∷ y ∷ l else y ∷ place f x l)
      by true rest = distinct
      by false rest = (place_all f (λ z. g y ≡ g z → ⊥) x l (λ same. distinct.0.0 (sym same)) distinct.1.0, rest)

  pub distinct_by_grant_seq : (l : List X) → Distinct g l → Distinct g (by_grant_seq f l)
  distinct_by_grant_seq [] distinct = tt
  distinct_by_grant_seq (x ∷ l) distinct = distinct_place x (by_grant_seq f l)
      (by_grant_seq_all f (λ y. g x ≡ g y → ⊥) l distinct.0, distinct_by_grant_seq l distinct.1)

-- those that pass, in whatever order of grant sequences, are live when their turns come
pub passed_in_turn : (p : Entry → Bool) (es : List Entry) → IsStrictlySortedBy nat_cmp (keys_of es)
    → AreLive (keys_of (filter p es)) es
passed_in_turn p es sorted = in_turn (filter p es) es (all_filter
    (λ (e : Entry). list_any (λ (x : Entry). x.0 == e.0) es ≡ true) p es (all_there es))
    (distinct_filter number p es (all_distinct es sorted))

pub ordered_in_turn : (f : Entry → ℕ) (p : Entry → Bool) (es : List Entry) → IsStrictlySortedBy nat_cmp (keys_of es)
    → AreLive (keys_of (by_grant_seq f (filter p es))) es
ordered_in_turn f p es sorted =
    in_turn (by_grant_seq f (filter p es)) es (by_grant_seq_all f
    (λ (e : Entry). list_any (λ (x : Entry). x.0 == e.0) es ≡ true) (filter p es)
    (all_filter (λ (e : Entry). list_any (λ (x : Entry). x.0 == e.0) es ≡ true) p es (all_there es)))
    (distinct_by_grant_seq f number (filter p es) (distinct_filter number p es (all_distinct es sorted)))
