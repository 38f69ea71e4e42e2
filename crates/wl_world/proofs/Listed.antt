-- What a map of managers holds stands at its keys, in whatever order it is listed.
use Rattle.std.proofs.Common.{◌≡◌, ◌+◌, ◌<◌, ℕ, true, false, refl, ap, sym, subst, ◌∙◌, List, [], ◌∷◌, length, get_or}
use Rattle.std.proofs.Common.{Option, Some, None, arith}
use Rattle.std.specs.Prelude.{Result, Ok, Err, IfOk, OnOk}
use Rattle.std.specs.List.{IsDistinct}
use Rattle.std.specs.List.Sorted.{IsPermutation, IsSortedByKey, IsStrictlySortedBy}
use Rattle.std.specs.Map.{keys_of, lookup}
use Rattle.std.specs.Option.{option_map, unwrap_or}
use Rattle.std.specs.Ordering.{eq_by_cmp, is_eq, is_lt, ordering_reverse}
use Rattle.std.specs.Cmp.{IsEquivalence}
use Rattle.std.specs.declared.cmp.Ordering.{Ordering}
use Rattle.std.specs.declared.cmp.Ordering.TheVariants.{Less, Equal, Greater}
use Rattle.std.proofs.lemmas.Cmp.{eq_by_cmp_equiv}
use Rattle.std.proofs.lemmas.List.{get_or-map, length-map}
use Rattle.std.proofs.lemmas.List.Sorted.{Contains-permutation, IsPermutation-map, IsPermutation-sym}
use Rattle.std.proofs.lemmas.Map.Keys.{IsDistinct-IsPermutation, IsDistinct-from_sorted, apart_from_distinct}
use Rattle.std.proofs.lemmas.Map.Keys.{sorted_from_all_adjacent}
use Rattle.std.proofs.lemmas.Map.Made.{keys_of-map_values, lookup-map_values}
use Rattle.std.proofs.lemmas.Map.Views.{Contains-from_lookup, lookup-from_Contains, tells_apart}
use Rattle.std.proofs.lemmas.Option.{none-some}
use mathlib.Core.Path.{fun_ext}
use Rattle.wl_origin.specs.Manager.{exact_managers, manager_cmp, manager_cmp_total}
use Rattle.wl_origin.specs.declared.manager_key.ManagerKey.{ManagerKey}
use Rattle.wl_world.specs.Cores.{IsListOf, seen_by}
use Rattle.wl_world.specs.Managers.{Manager}
use Rattle.wl_world.specs.Origins.{unused}
use Rattle.wl_world.specs.Realms.{entries_in, origin_in}

-- ---- keys in order

-- entries whose keys are in order and differ have them strictly in order
strictly : {X : Type 0} (es : List (ManagerKey × X)) → IsSortedByKey (λ entry. entry.0) manager_cmp es
    → IsDistinct (eq_by_cmp manager_cmp) (keys_of es) → IsStrictlySortedBy manager_cmp (keys_of es)
unfolding IsStrictlySortedBy
strictly [] sorted distinct = tt
strictly {X} (e ∷ es) sorted distinct =
    sorted_from_all_adjacent manager_cmp_total (keys_of (e ∷ es)) e.0
    (λ k within. by (key k) (key (k + 1)) (manager_cmp (key k) (key (k + 1))) refl
    (subst (λ x. is_lt (manager_cmp x (key k)) ≡ false) (key_at (k + 1) (long k within))
    (subst (λ x. is_lt (manager_cmp (at (k + 1)).0 x) ≡ false) (key_at k (before k (long k within)))
    (sorted k e (omega arith) (long k within))))
    (apart_from_distinct (eq_by_cmp manager_cmp) (keys_of (e ∷ es)) k (k + 1) e.0 distinct (omega arith) within))
  where
    at : ℕ → ManagerKey × X
    at k = get_or (e ∷ es) k e

    key : ℕ → ManagerKey
    key k = get_or (keys_of (e ∷ es)) k e.0

    key_at : (k : ℕ) → k < length (e ∷ es) → (at k).0 ≡ key k
    key_at k within = sym (get_or-map (λ (entry : ManagerKey × X). entry.0) (e ∷ es) k e e.0 within)

    long : (k : ℕ) → k + 1 < length (keys_of (e ∷ es)) → k + 1 < length (e ∷ es)
    long k within = subst (λ n. k + 1 < n) (length-map (e ∷ es) (λ (entry : ManagerKey × X). entry.0)) within

    before : (k : ℕ) → k + 1 < length (e ∷ es) → k < length (e ∷ es)
    before k within = omega arith

    by : (x y : ManagerKey) (o : Ordering) → manager_cmp x y ≡ o → is_lt (manager_cmp y x) ≡ false
        → eq_by_cmp manager_cmp x y ≡ false → manager_cmp x y ≡ Less
    by x y Less h below apart = h
    by x y Equal h below apart = absurd (let off : true ≡ false = ap is_eq (sym h) ∙ apart in cc)
    by x y Greater h below apart = absurd (let off : true ≡ false =
        ap is_lt (sym (manager_cmp_total.antisymm y x ∙ ap ordering_reverse h)) ∙ below in cc)

-- ---- what is found in entries in another order

equiv : IsEquivalence (eq_by_cmp manager_cmp)
equiv = eq_by_cmp_equiv manager_cmp_total

same_lookup : {X : Type 0} (es fs : List (ManagerKey × X)) → IsPermutation es fs
    → IsDistinct (eq_by_cmp manager_cmp) (keys_of es) → IsDistinct (eq_by_cmp manager_cmp) (keys_of fs)
    → (q : ManagerKey) → lookup (eq_by_cmp manager_cmp q) es ≡ lookup (eq_by_cmp manager_cmp q) fs
same_lookup {X} es fs moved apart apart2 q = by (lookup (eq_by_cmp manager_cmp q) es)
    (lookup (eq_by_cmp manager_cmp q) fs) refl refl
  where
    there : (v : X) → lookup (eq_by_cmp manager_cmp q) es ≡ Some v → lookup (eq_by_cmp manager_cmp q) fs ≡ Some v
    there v h = lookup-from_Contains equiv q v fs apart2 (Contains-permutation es fs (q, v) moved
        (Contains-from_lookup (tells_apart exact_managers) q v es h))

    back : (v : X) → lookup (eq_by_cmp manager_cmp q) fs ≡ Some v → lookup (eq_by_cmp manager_cmp q) es ≡ Some v
    back v h = lookup-from_Contains equiv q v es apart (Contains-permutation fs es (q, v)
        (IsPermutation-sym es fs moved) (Contains-from_lookup (tells_apart exact_managers) q v fs h))

    by : (o p : Option X) → lookup (eq_by_cmp manager_cmp q) es ≡ o → lookup (eq_by_cmp manager_cmp q) fs ≡ p
        → lookup (eq_by_cmp manager_cmp q) es ≡ lookup (eq_by_cmp manager_cmp q) fs
    by (Some v) p h k = h ∙ sym (there v h)
    by None (Some w) h k = absurd (none-some w (sym h ∙ back w k))
    by None None h k = h ∙ sym k

-- ---- what is listed

-- a list that was made of these managers, and then sorted by its keys
pub sorted_list : {C X : Type 0} (see : C → X) (at : Manager → X) (managers : List (ManagerKey × Manager))
    (cores cores2 : List (ManagerKey × C)) → IsDistinct (eq_by_cmp manager_cmp) (keys_of managers)
    → seen_by see cores ≡ seen_by at managers → IsPermutation cores cores2
    → IsSortedByKey (λ entry. entry.0) manager_cmp cores2
    → IsStrictlySortedBy manager_cmp (keys_of cores2)
sorted_list {C} see at managers cores cores2 distinct are moved sorted =
    let same : keys_of cores ≡ keys_of managers = sym (keys_of-map_values see cores) ∙ ap keys_of are
    ∙ keys_of-map_values at managers in
    let apart = IsDistinct-IsPermutation (eq_by_cmp manager_cmp) equiv.symm (keys_of cores) (keys_of cores2)
    (IsPermutation-map (λ (entry : ManagerKey × C). entry.0) cores cores2 moved)
    (subst (IsDistinct (eq_by_cmp manager_cmp)) (sym same) distinct) in
    strictly cores2 sorted apart

pub moved_list : {C X : Type 0} (see : C → X) (at : Manager → X) (managers : List (ManagerKey × Manager))
    (cores cores2 : List (ManagerKey × C))
    → seen_by see cores ≡ seen_by at managers → IsPermutation cores cores2
    → IsPermutation (seen_by at managers) (seen_by see cores2)
moved_list {C} see at managers cores cores2 are moved =
    subst (λ l. IsPermutation l (seen_by see cores2)) are
    (IsPermutation-map (λ (entry : ManagerKey × C). (
      entry.0,
      see entry.1,
    )) cores cores2 moved)

-- what stands at each key, where `all` says it of what the map of managers has there
pub stands : {T E C X : Type 0} (cores_in : T → List (ManagerKey × C)) (see : C → X) (at : Manager → X)
    (all : Option Manager → X) (managers : List (ManagerKey × Manager)) (result : Result T E)
    → ((o : Option Manager) → all o ≡ unwrap_or (option_map at o) (all None))
    → OnOk result (IsDistinct (eq_by_cmp manager_cmp) (keys_of managers))
    → IfOk result (λ cores. IsStrictlySortedBy manager_cmp (keys_of (cores_in cores)))
    → IfOk result (λ cores. IsPermutation (seen_by at managers) (seen_by see (cores_in cores)))
    → IfOk result (λ cores. IsListOf (all None) (λ key. all (lookup (eq_by_cmp manager_cmp key) managers))
    (seen_by see (cores_in cores)))
stands cores_in see at all managers (Err e) of_none distinct sorted moved = tt
stands cores_in see at all managers (Ok cores) of_none distinct sorted moved =
    let in_order = subst (IsStrictlySortedBy manager_cmp) (sym (keys_of-map_values see (cores_in cores))) sorted in
    let apart = subst (IsDistinct (eq_by_cmp manager_cmp)) (sym
    (keys_of-map_values at managers)) distinct in
    let apart2 = IsDistinct-from_sorted manager_cmp (keys_of (seen_by see (cores_in cores))) in_order in
    record {
      in_order = in_order;
      each = fun_ext (λ key. of_none (lookup (eq_by_cmp manager_cmp key) managers)
          ∙ ap (λ found. unwrap_or found (all None)) (sym (lookup-map_values at (eq_by_cmp manager_cmp key) managers)
          ∙ same_lookup (seen_by at managers) (seen_by see (cores_in cores)) moved apart apart2 key));
    }

pub origins_listed : (o : Option Manager)
    → (origin_in o).state ≡ unwrap_or (option_map (λ m. m.origin.state) o) unused.state
origins_listed None = refl
origins_listed (Some m) = refl

pub entries_listed : (start : Option ℕ) (o : Option Manager)
    → entries_in start o ≡ unwrap_or (option_map (λ m. m.entries) o) start
entries_listed start None = refl
entries_listed start (Some m) = refl
