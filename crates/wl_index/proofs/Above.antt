-- The least lock above a number that an abort of a signal would end, found by the signal's list.
use Rattle.std.proofs.Common.{◌≡◌, ◌==◌, ℕ, zero, suc, Bool, true, false, cond, List, [], ◌∷◌, ◌++◌, map, drop, refl}
use Rattle.std.proofs.Common.{sym, ap, subst, ◌∙◌, arith, leb, nat_lt, Option, Some, None}
use Rattle.std.specs.Prelude.{filter, is_some, ◌&&◌}
use Rattle.std.specs.Option.{option_to_list}
use Rattle.std.specs.List.{find, list_any}
use Rattle.std.specs.List.Sorted.{IsStrictlySortedBy, IsPartitionPoint}
use Rattle.std.specs.Map.{keys_of, lookup}
use Rattle.std.specs.BTreeMap.{is_at}
use Rattle.std.specs.Ordering.{nat_cmp}
use Rattle.std.proofs.lemmas.Bool.Decides.{nat_tests}
use Rattle.std.proofs.lemmas.List.{map-append}
use Rattle.std.proofs.lemmas.List.Elements.{recursion_from_All}
use Rattle.wl_machine.specs.declared.rows.HeldRow.{HeldRow}
use Rattle.wl_machine.specs.Least.{IsLeast, above}
use Rattle.wl_machine.specs.Standing.{is_in}
use Rattle.wl_machine.proofs.Covers.{rising_filter}
use Rattle.wl_machine.proofs.Least.{least_alike, least_found, in_filter}
use Rattle.wl_machine.proofs.Lists.{filters_commute, any_map}
use Rattle.wl_index.specs.declared.request.Owner.{Owner}
use Rattle.wl_index.specs.declared.request.Standing.TheVariants.{Holds}
use Rattle.wl_index.specs.declared.request.Place.{Place}
use Rattle.wl_index.specs.declared.request.Request.{Request}
use Rattle.wl_index.specs.inner.GrantOrder.{by_grant_seq}
use Rattle.wl_index.specs.inner.Rows.{Entry, holding, grant_seq_of, lock_row, held_of}
use Rattle.wl_index.specs.inner.Order.{place_of}
use Rattle.wl_index.specs.inner.Ends.{IsOwners, ends_entry, ends_lock, place_if, numbers_of}
use Rattle.wl_index.specs.inner.Untaken.{finds_untaken}
use Rattle.wl_index.proofs.Lists.{any_by_grant_seq, filter_whole}
use Rattle.wl_index.proofs.Rows.{held_filter}
use Rattle.wl_index.proofs.Picks.{pick, picked, all_picked}
use Rattle.wl_index.proofs.Owned.{both_filters}

module _ (owner : Owner) (es : List Entry) where
  abbrev ends : Entry → Bool
  ends = ends_entry owner Holds

  abbrev finds : ℕ → Bool
  finds = finds_untaken owner es

  abbrev pub untaken : List ℕ
  untaken = map (λ (lock : HeldRow). lock.number) (filter (ends_lock owner) (held_of es))

  -- ---- the numbers of a list that find such a lock

  number_of : (n : ℕ) (o : Option Request) → numbers_of (option_to_list (place_if ends n o))
      ≡ cond (is_some (place_if ends n o)) (n ∷ []) []
  number_of n None = refl
  number_of n (Some r) = by (ends (n, r))
    where
      by : (b : Bool) → numbers_of (option_to_list (cond b (Some (place_of (n, r))) None))
          ≡ cond (is_some (cond b (Some (place_of (n, r))) None)) (n ∷ []) []
      by true = refl
      by false = refl

  numbers_picked : (ns : List ℕ) → numbers_of (picked ends es ns) ≡ filter finds ns
  numbers_picked [] = refl
  numbers_picked (n ∷ ns) =
      map-append (λ (p : Place). p.number) (pick ends es n) (picked ends es ns)
      ∙ (ap (λ l. l ++ numbers_of (picked ends es ns)) (number_of n (lookup (is_at (nat_cmp n)) es))
      ∙ by (finds n) (numbers_picked ns))
    where
      by : (b : Bool) → numbers_of (picked ends es ns) ≡ filter finds ns
          → cond b (n ∷ []) [] ++ numbers_of (picked ends es ns) ≡ cond b (n ∷ filter finds ns) (filter finds ns)
      by true rest = ap (λ l. n ∷ l) rest
      by false rest = rest

  -- where the list has all of the signal's, they are the numbers of its untaken locks
  same_numbers : (ns : List ℕ) → IsStrictlySortedBy nat_cmp (keys_of es) → IsStrictlySortedBy nat_cmp ns
      → IsOwners owner es ns → (n : ℕ) → is_in n untaken ≡ is_in n (filter finds ns)
  same_numbers ns sorted rising all n =
      let q : Entry → Bool = λ e. ends_lock owner (lock_row e) in
      ap (λ locks. is_in n (map (λ (lock : HeldRow). lock.number) locks)) (sym (held_filter (ends_lock owner) es))
      ∙ any_map (λ m. m == n) (λ (lock : HeldRow). lock.number) (held_of (filter q es))
      ∙ any_map (λ (lock : HeldRow). lock.number == n) lock_row
      (by_grant_seq grant_seq_of (filter holding (filter q es)))
      ∙ any_by_grant_seq grant_seq_of (λ (e : Entry). e.0 == n) (filter holding (filter q es))
      ∙ ap (list_any (λ (e : Entry). e.0 == n)) (filters_commute holding q es ∙ sym (both_filters holding q es))
      ∙ sym (any_map (λ m. m == n) (λ (p : Place). p.number) (map place_of (filter ends es))
      ∙ any_map (λ (p : Place). p.number == n) place_of (filter ends es))
      ∙ ap (is_in n) (ap numbers_of (sym (all_picked owner Holds es sorted ns rising all)) ∙ numbers_picked ns)

-- what stands behind the place that halving finds is above
drop_above : (after : ℕ) (ns : List ℕ) (i : ℕ) → IsPartitionPoint (λ n. leb n after ≡ true) (λ n. leb n after ≡ false)
    ns i → drop i ns ≡ above after ns
drop_above after ns zero point =
    sym (filter_whole (nat_lt after) ns (recursion_from_All (λ n. nat_lt after n ≡ true) ns
    (λ k d less. let high = point.1 k d (omega arith) less in grind (arith, nat_tests, high))))
drop_above after [] (suc i) point = refl
drop_above after (n ∷ ns) (suc i) point =
    let low : nat_lt after n ≡ false = let is = point.0 0 n (omega arith) (omega arith) in grind (arith, nat_tests, is)
    in
    rw low (drop_above after ns i (
      (λ k d from to. point.0 (suc k) d (omega arith) (omega arith)),
      (λ k d from to. point.1 (suc k) d (omega arith) (omega arith)),
    ))

-- the first that finds one there is the least
pub least_behind : (owner : Owner) (after : ℕ) (es : List Entry) (ns : List ℕ) (i : ℕ)
    → IsStrictlySortedBy nat_cmp (keys_of es) → IsStrictlySortedBy nat_cmp ns → IsOwners owner es ns
    → IsPartitionPoint (λ n. leb n after ≡ true) (λ n. leb n after ≡ false) ns i
    → IsLeast (above after (untaken owner es)) (find (finds_untaken owner es) (drop i ns))
least_behind owner after es ns i sorted rising all point =
    let found = finds_untaken owner es in
    let least = least_found found (above after ns) (rising_filter (nat_lt after) ns rising) in
    subst (λ l. IsLeast (above after (untaken owner es)) (find found l)) (sym (drop_above after ns i point))
    (least_alike (filter found (above after ns)) (above after (untaken owner es)) (find found (above after ns))
    (λ n. in_filter (nat_lt after) (untaken owner es) n ∙ ap (λ b. b && nat_lt after n)
    (same_numbers owner es ns sorted rising all n) ∙ sym (in_filter (nat_lt after) (filter found ns) n)
    ∙ ap (is_in n) (filters_commute (nat_lt after) found ns))
    least)
