-- A list whose grant sequences differ has one order by grant sequence, whatever sorts it.
use Rattle.std.proofs.Common.{◌≡◌, ℕ, zero, suc, ◌<◌, ◌≤◌, List, [], ◌∷◌, refl, sym, ap, ◌∙◌, length, get_or, set}
use Rattle.std.proofs.Common.{arith, Bool, true, false, nat_lt, if◌then◌else◌}
use Rattle.std.specs.List.{AllByRecursion, swap}
use Rattle.std.specs.List.Sorted.{IsPermutation, IsNonDecreasingBy}
use Rattle.std.proofs.lemmas.List.Elements.{recursion_from_All}
use Rattle.std.proofs.lemmas.List.Sorted.{IsPermutation-keeps, IsPermutation-refl, IsPermutation-sym}
use Rattle.std.proofs.lemmas.List.Sorted.{IsPermutation-trans, IsPermutation-cons, IsPermutation-middle}
use Rattle.wl_index.specs.inner.GrantOrder.{Distinct, place, by_grant_seq}
use Rattle.wl_index.proofs.GrantOrder.{Rising, place_apart, place_first}
use Rattle.wl_index.proofs.GrantOrder.{by_grant_seq_rising}

-- A relation holds along each permutation if it is reflexive and transitive, and goes under a head and over an exchange
-- of two heads.
module _ {X : Type 0} (R : List X → List X → Type 0) (same : (xs : List X) → R xs xs)
    (skip : (x : X) (xs ys : List X) → R xs ys → R (x ∷ xs) (x ∷ ys))
    (turn : (x y : X) (xs : List X) → R (x ∷ y ∷ xs) (y ∷ x ∷ xs))
    (chain : (xs ys zs : List X) → R xs ys → R ys zs → R xs zs) where
  to_head : (l : List X) (j : ℕ) (x d : X) → j < length l → R (x ∷ l) (get_or l j d ∷ set l j x)
  to_head [] j x d h = absurd (omega arith)
  to_head (y ∷ l) zero x d h = turn x y l
  to_head (y ∷ l) (suc j) x d h =
      chain _ _ _ (turn x y l) (chain _ _ _ (skip y _ _ (to_head l j x d (omega arith)))
      (turn y (get_or l j d) (set l j x)))

  exchanged : (l : List X) (i j : ℕ) (d : X) → i < length l → j < length l
      → R l (set (set l i (get_or l j d)) j (get_or l i d))
  exchanged [] i j d p q = absurd (omega arith)
  exchanged (x ∷ l) zero zero d p q = same (x ∷ l)
  exchanged (x ∷ l) zero (suc j) d p q = to_head l j x d (omega arith)
  exchanged (x ∷ l) (suc i) zero d p q = to_head l i x d (omega arith)
  exchanged (x ∷ l) (suc i) (suc j) d p q = skip x _ _ (exchanged l i j d (omega arith) (omega arith))

  swapped : (l : List X) (i j : ℕ) → i < length l → j < length l → R l (swap l i j)
  swapped [] i j p q = same []
  swapped (x ∷ l) i j p q = exchanged (x ∷ l) i j x p q

  pub along_permutation : (xs ys : List X) → IsPermutation xs ys → R xs ys
  along_permutation xs = IsPermutation-keeps xs (R xs) (same xs) (λ l i j p q h. chain xs l _ h (swapped l i j p q))

-- what another order of the same elements keeps
pub record Kept {X : Type 0} (f : X → ℕ) (xs ys : List X) : Type 0 where
  pub distinct : Distinct f ys
  pub same : by_grant_seq f ys ≡ by_grant_seq f xs
  pub apart : (n : ℕ) → AllByRecursion (λ y. n ≡ f y → ⊥) xs → AllByRecursion (λ y. n ≡ f y → ⊥) ys

module _ {X : Type 0} (f : X → ℕ) where
  abbrev Keeps : List X → List X → Type 0
  Keeps xs ys = Distinct f xs → Kept f xs ys

  keeps_itself : (xs : List X) → Keeps xs xs
  keeps_itself xs distinct = record { distinct = distinct; same = refl; apart = λ n all. all }

  keeps_under : (x : X) (xs ys : List X) → Keeps xs ys → Keeps (x ∷ xs) (x ∷ ys)
  keeps_under x xs ys keeps distinct =
      let kept = keeps distinct.1 in
      record {
        distinct = (kept.apart (f x) distinct.0, kept.distinct);
        same = ap (place f x) kept.same;
        apart = λ n all. (all.0, kept.apart n all.1);
      }

  keeps_turned : (x y : X) (xs : List X) → Keeps (x ∷ y ∷ xs) (y ∷ x ∷ xs)
  keeps_turned x y xs distinct =
      record {
        distinct = (((λ same. distinct.0.0 (sym same)), distinct.1.0), (distinct.0.1, distinct.1.1));
        same = sym (place_apart f x y (by_grant_seq f xs) distinct.0.0);
        apart = λ n all. (all.1.0, (all.0, all.1.1));
      }

  keeps_on : (xs ys zs : List X) → Keeps xs ys → Keeps ys zs → Keeps xs zs
  keeps_on xs ys zs first next distinct =
      let one = first distinct in
      let two = next one.distinct in
      record {
        distinct = two.distinct;
        same = two.same ∙ one.same;
        apart = λ n all. two.apart n (one.apart n all);
      }

  pub permuted : (xs ys : List X) → IsPermutation xs ys → Distinct f xs → Kept f xs ys
  permuted = along_permutation Keeps keeps_itself keeps_under keeps_turned keeps_on

  -- each is below all after it
  abbrev pub Climbing : List X → Type 0
  Climbing [] = Unit {0}
  Climbing (x ∷ l) = AllByRecursion (λ y. f x < f y) l × Climbing l

  pub climbs : (l : List X) → Rising f l → Distinct f l → Climbing l
  climbs [] rising distinct = tt
  climbs (x ∷ l) rising distinct = (above l rising.0 distinct.0, climbs l rising.1 distinct.1)
    where
      above : (l : List X) → AllByRecursion (λ y. f x ≤ f y) l → AllByRecursion (λ y. f x ≡ f y → ⊥) l
          → AllByRecursion (λ y. f x < f y) l
      above [] all apart = tt
      above (y ∷ l) all apart = let low = all.0 in let differs = apart.0
          in (omega (arith, low, differs), above l all.1 apart.1)

  -- a list that climbs is in order already
  pub in_order : (l : List X) → Climbing l → by_grant_seq f l ≡ l
  in_order [] climbing = refl
  in_order (x ∷ l) climbing = ap (place f x) (in_order l climbing.1) ∙ place_first f x l climbing.0

  -- by_grant_seq moves elements alone
  moves : (x : X) (l : List X) → IsPermutation (x ∷ l) (place f x l)
  moves x [] = IsPermutation-refl (x ∷ [])
  moves x (y ∷ l) = by (nat_lt (f x) (f y)) (moves x l)
    where
      by : (b : Bool) → IsPermutation (x ∷ l) (place f x l)
          → IsPermutation (x ∷ y ∷ l) (if b then x ∷ y ∷ l else y ∷ place f x l)
      by true rest = IsPermutation-refl (x ∷ y ∷ l)
      by false rest = IsPermutation-trans (x ∷ y ∷ l) (y ∷ x ∷ l) (y ∷ place f x l)
          (IsPermutation-sym (y ∷ x ∷ l) (x ∷ y ∷ l) (IsPermutation-middle (y ∷ []) x l))
          (IsPermutation-cons y (x ∷ l) (place f x l) rest)

  pub by_grant_seq_moves : (l : List X) → IsPermutation l (by_grant_seq f l)
  by_grant_seq_moves [] = IsPermutation-refl []
  by_grant_seq_moves (x ∷ l) = IsPermutation-trans (x ∷ l) (x ∷ by_grant_seq f l) (place f x (by_grant_seq f l))
      (IsPermutation-cons x l (by_grant_seq f l) (by_grant_seq_moves l)) (moves x (by_grant_seq f l))

  pub by_grant_seq_climbs : (l : List X) → Distinct f l → Climbing (by_grant_seq f l)
  by_grant_seq_climbs l distinct = climbs (by_grant_seq f l) (by_grant_seq_rising f l)
      (permuted l (by_grant_seq f l) (by_grant_seq_moves l) distinct).distinct

  rises : (l : List X) → IsNonDecreasingBy f l → Rising f l
  rises [] sorted = tt
  rises (x ∷ l) sorted = (
    recursion_from_All (λ y. f x ≤ f y) l (λ k d low. sorted 0 (suc k) d (omega arith) (omega (arith, low))),
    rises l (λ i j d le low. sorted (suc i) (suc j) d (omega (arith, le)) (omega (arith, low))),
  )

  -- whatever sorts a list by grant sequences that differ gives the one order
  pub sorted_by_grant_seq : (xs ys : List X) → Distinct f xs → IsPermutation xs ys → IsNonDecreasingBy f ys
      → ys ≡ by_grant_seq f xs
  sorted_by_grant_seq xs ys distinct moved sorted =
      let kept = permuted xs ys moved distinct in
      sym (in_order ys (climbs ys (rises ys sorted) kept.distinct)) ∙ kept.same
