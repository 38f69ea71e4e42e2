-- Entries by number: those that some numbers name, and those that they spare.
use Rattle.std.proofs.Common.{◌≡◌, ℕ, ◌==◌, Bool, true, false, cond, List, [], ◌∷◌, refl, ap, arith}
use Rattle.std.specs.Prelude.{filter, not, ◌||◌}
use Rattle.std.specs.List.{list_any, AllByRecursion}
use Rattle.std.specs.List.Sorted.{IsStrictlySortedBy}
use Rattle.std.specs.Map.{keys_of}
use Rattle.std.specs.Ordering.{nat_cmp}
use Rattle.std.proofs.lemmas.Bool.Decides.{nat_tests}
use Rattle.std.proofs.lemmas.Map.Keys.{sorted_head, sorted_tail}
use Rattle.wl_index.specs.inner.Lists.{is_spared}
use Rattle.wl_number_map.proofs.Keyed.{number_same, above_apart}

-- tests that agree on the elements
pub filter_agree : {X : Type 0} (p q : X → Bool) (l : List X) → AllByRecursion (λ x. p x ≡ q x) l
    → filter p l ≡ filter q l
filter_agree p q [] all = refl
filter_agree p q (x ∷ l) all = rw (all.0, filter_agree p q l all.1) refl

all_both : {X : Type 0} (P Q R : X → Type 0) (l : List X) → ((x : X) → P x → Q x → R x) → AllByRecursion P l
    → AllByRecursion Q l → AllByRecursion R l
all_both P Q R [] f ps qs = tt
all_both P Q R (x ∷ l) f ps qs = (f x ps.0 qs.0, all_both P Q R l f ps.1 qs.1)

-- no number spares all
pub spared_all : {X : Type 0} (es : List (ℕ × X)) → filter (is_spared []) es ≡ es
spared_all [] = refl
spared_all (e ∷ es) = ap (λ l. e ∷ l) (spared_all es)

-- one number after the other
pub spared_next : {X : Type 0} (n : ℕ) (ns : List ℕ) (es : List (ℕ × X))
    → filter (is_spared ns) (filter (λ (e : ℕ × X). not (e.0 == n)) es) ≡ filter (is_spared (n ∷ ns)) es
spared_next n ns [] = refl
spared_next {X} n ns (e ∷ es) = by (e.0 == n) refl (spared_next n ns es)
  where
    apart : ℕ × X → Bool
    apart x = not (x.0 == n)

    flip : (b : Bool) → (e.0 == n) ≡ b → (n == e.0) ≡ b
    flip true h = grind (arith, nat_tests, h)
    flip false h = grind (arith, nat_tests, h)

    by : (b : Bool) → (e.0 == n) ≡ b → filter (is_spared ns) (filter apart es) ≡ filter (is_spared (n ∷ ns)) es
        → filter (is_spared ns) (cond (not (e.0 == n)) (e ∷ filter apart es) (filter apart es))
        ≡ cond (not ((n == e.0) || list_any (λ k. k == e.0) ns)) (e ∷ filter (is_spared (n ∷ ns)) es)
        (filter (is_spared (n ∷ ns)) es)
    by true h rest = rw (h, flip true h) rest
    by false h rest = rw (h, flip false h) (ap (λ l. cond (is_spared ns e) (e ∷ l) l) rest)

none_named : {X : Type 0} (p : ℕ × X → Bool) (k : ℕ) (es : List (ℕ × X))
    → AllByRecursion (λ (e : ℕ × X). (e.0 == k) ≡ false) es → list_any (λ n. n == k) (keys_of (filter p es)) ≡ false
none_named p k [] apart = refl
none_named {X} p k (e ∷ es) apart = by (p e) (none_named p k es apart.1)
  where
    by : (b : Bool) → list_any (λ n. n == k) (keys_of (filter p es)) ≡ false
        → list_any (λ n. n == k) (keys_of (cond b (e ∷ filter p es) (filter p es))) ≡ false
    by true rest = rw apart.0 rest
    by false rest = rest

-- the numbers of those that pass name just those
pub named : {X : Type 0} (p : ℕ × X → Bool) (es : List (ℕ × X)) → IsStrictlySortedBy nat_cmp (keys_of es)
    → AllByRecursion (λ (e : ℕ × X). list_any (λ n. n == e.0) (keys_of (filter p es)) ≡ p e) es
named p [] sorted = tt
named {X} p (e ∷ es) sorted = by (p e) refl (named p es (sorted_tail nat_cmp e.0 (keys_of es) sorted))
  where
    apart : AllByRecursion (λ (x : ℕ × X). (x.0 == e.0) ≡ false) es
    apart = above_apart e.0 e.0 es (number_same e.0) (sorted_head nat_cmp e.0 (keys_of es) sorted)

    flip : (a b : ℕ) → (a == b) ≡ false → (b == a) ≡ false
    flip a b h = grind (arith, nat_tests, h)

    by : (b : Bool) → p e ≡ b → AllByRecursion (λ (x : ℕ × X). list_any (λ n. n == x.0) (keys_of (filter p es)) ≡ p x)
        es → (list_any (λ n. n == e.0) (keys_of (cond (p e) (e ∷ filter p es) (filter p es))) ≡ p e)
        × AllByRecursion (λ (x : ℕ × X). list_any (λ n. n == x.0) (keys_of (cond (p e) (e ∷ filter p es) (filter p es)))
        ≡ p x) es
    by true h rest = rw h (
      rw (number_same e.0) refl,
      all_both (λ (x : ℕ × X). (x.0 == e.0) ≡ false)
          (λ (x : ℕ × X). list_any (λ n. n == x.0) (keys_of (filter p es)) ≡ p x)
          (λ (x : ℕ × X). ((e.0 == x.0) || list_any (λ n. n == x.0) (keys_of (filter p es))) ≡ p x) es
          (λ x no is. rw (flip x.0 e.0 no) is) apart rest,
    )
    by false h rest = rw h (none_named p e.0 es apart, rest)

-- those that pass are named, and the others are spared
pub spared_fail : {X : Type 0} (p : ℕ × X → Bool) (es : List (ℕ × X)) → IsStrictlySortedBy nat_cmp (keys_of es)
    → filter (is_spared (keys_of (filter p es))) es ≡ filter (λ e. not (p e)) es
spared_fail {X} p es sorted =
    filter_agree (is_spared (keys_of (filter p es))) (λ e. not (p e)) es
    (all_map_same es (named p es sorted))
  where
    all_map_same : (l : List (ℕ × X)) → AllByRecursion (λ (e : ℕ × X). list_any (λ n. n == e.0) (keys_of (filter p es))
        ≡ p e) l → AllByRecursion (λ (e : ℕ × X). is_spared (keys_of (filter p es)) e ≡ not (p e)) l
    all_map_same [] all = tt
    all_map_same (e ∷ l) all = (ap not all.0, all_map_same l all.1)
