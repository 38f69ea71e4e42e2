-- Entries sorted by number stand in the order of their numbers.
use Rattle.std.proofs.Common.{◌≡◌, ℕ, ◌<◌, ◌==◌, List, [], ◌∷◌, length, map, get_or, refl, sym, ap, ◌∙◌, arith, subst}
use Rattle.std.specs.Prelude.{Some, None, Option}
use Rattle.std.specs.List.{IsDistinct, slice_get}
use Rattle.std.specs.List.Sorted.{IsNonDecreasing, IsNonDecreasingBy, IsPermutation}
use Rattle.std.specs.Map.{keys_of, lookup}
use Rattle.std.proofs.lemmas.Bool.Decides.{nat_tests}
use Rattle.std.proofs.lemmas.Cmp.{nat_eq_equiv}
use Rattle.std.proofs.lemmas.List.{get_or-map, length-map}
use Rattle.std.proofs.lemmas.List.Sorted.{Contains-permutation, IsPermutation-map, IsPermutation-sym}
use Rattle.std.proofs.lemmas.Map.Entries.{lookup_from_place, place_from_lookup}
use Rattle.std.proofs.lemmas.Map.Keys.{sorted_from_strictly_increasing, IsDistinct-IsPermutation}
use Rattle.std.proofs.lemmas.Map.Keys.{IsStrictlyIncreasing-from_distinct}
use Rattle.std.proofs.lemmas.Option.{get_or_from_slice_get, none-some, slice_get-get_or, slice_get_within}
use Rattle.wl_number_map.specs.inner.NumberMap.{in_order}
use Rattle.wl_number_map.proofs.InOrder.{in_order_sorted, lookup_in_order, same_entries, same_test}

module _ {X : Type 0} where
  -- what another order of entries with distinct numbers finds
  seen_through : (es fs : List (ℕ × X)) → IsPermutation es fs → IsDistinct (λ a b. a == b) (keys_of fs)
      → (q : ℕ) (v : X) → lookup (λ k. q == k) es ≡ Some v → lookup (λ k. q == k) fs ≡ Some v
  seen_through es fs moved distinct q v there =
      let place = place_from_lookup (λ k. q == k) es v there in
      let is : q ≡ place.1 = grind (arith, nat_tests, place.3) in
      let among = Contains-permutation es fs (place.1, v) moved (
        place.0,
        slice_get_within es place.0 (place.1, v) place.2,
        get_or_from_slice_get es place.0 (place.1, v) (place.1, v) place.2,
      ) in
      let now : slice_get fs among.0 ≡ Some (place.1, v) = slice_get-get_or fs among.0 (place.1, v) among.1
      ∙ ap (λ e. Some e) among.2 in
      rw is (lookup_from_place nat_eq_equiv fs among.0 place.1 v distinct now)

  lookup_permuted : (es fs : List (ℕ × X)) → IsPermutation es fs → IsDistinct (λ a b. a == b) (keys_of es)
      → IsDistinct (λ a b. a == b) (keys_of fs) → (q : ℕ) → lookup (λ k. q == k) fs ≡ lookup (λ k. q == k) es
  lookup_permuted es fs moved was distinct q = by (lookup (λ k. q == k) es) (lookup (λ k. q == k) fs) refl refl
    where
      by : (o p : Option X) → lookup (λ k. q == k) es ≡ o → lookup (λ k. q == k) fs ≡ p
          → lookup (λ k. q == k) fs ≡ lookup (λ k. q == k) es
      by (Some v) p is now = seen_through es fs moved distinct q v is ∙ sym is
      by None None is now = now ∙ sym is
      by None (Some w) is now = absurd (none-some w (sym is
          ∙ seen_through fs es (IsPermutation-sym es fs moved) was q w now))

  -- a sort by number is that order
  pub sorted_in_order : (es fs : List (ℕ × X)) → IsPermutation es fs → IsNonDecreasing (keys_of fs)
      → IsDistinct (λ a b. a == b) (keys_of es) → fs ≡ in_order es
  sorted_in_order es fs moved rises was =
      let distinct = IsDistinct-IsPermutation (λ a b. a == b) (λ x y. grind (arith, nat_tests)) (keys_of es)
      (keys_of fs) (IsPermutation-map (λ e. e.0) es fs moved) was in
      let sorted = sorted_from_strictly_increasing (keys_of fs)
      (IsStrictlyIncreasing-from_distinct (keys_of fs) rises distinct) in
      same_entries fs (in_order es) sorted (in_order_sorted es)
      (λ q. ap (λ t. lookup t fs) (same_test q) ∙ (lookup_permuted es fs moved was distinct q
      ∙ sym (lookup_in_order es q)))

  numbers_rise : {Y : Type 0} (shown : Y → ℕ × X) (rows : List Y) → IsNonDecreasingBy (λ row. (shown row).0) rows
      → IsNonDecreasing (keys_of (map shown rows))
  numbers_rise shown [] rises i j d le less = absurd (omega (arith, less))
  numbers_rise shown (row ∷ rows) rises i j d le less =
      let size : length (keys_of (map shown (row ∷ rows))) ≡ length (row ∷ rows) =
      length-map (map shown (row ∷ rows)) (λ e. e.0) ∙ length-map (row ∷ rows) shown in
      rw (number i (omega (arith, le, less, size)), number j (omega (arith, less, size)))
      (rises i j row le (omega (arith, less, size)))
    where
      number : (k : ℕ) → k < length (row ∷ rows) → get_or (keys_of (map shown (row ∷ rows))) k d
          ≡ (shown (get_or (row ∷ rows) k row)).0
      number k within =
          get_or-map (λ e. e.0) (map shown (row ∷ rows)) k (shown row) d (rw (length-map (row ∷ rows) shown) within)
          ∙ ap (λ e. e.0) (get_or-map shown (row ∷ rows) k row (shown row) within)

  -- and so is a sort of rows that show the entries
  pub rows_in_order : {Y : Type 0} (shown : Y → ℕ × X) (rows sorted : List Y) (es : List (ℕ × X)) → map shown rows ≡ es
      → IsPermutation rows sorted → IsNonDecreasingBy (λ row. (shown row).0) sorted
      → IsDistinct (λ a b. a == b) (keys_of es)
      → map shown sorted ≡ in_order es
  rows_in_order shown rows sorted es are moved rises was =
      let order = subst (λ l. IsPermutation l (map shown sorted)) are (IsPermutation-map shown rows sorted moved) in
      sorted_in_order es (map shown sorted) order (numbers_rise shown sorted rises) was
