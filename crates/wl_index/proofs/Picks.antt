-- What ends with an owner, found by the owner's list.
use Rattle.std.proofs.Common.{◌≡◌, ◌⊎◌, ℕ, ◌≤◌, ◌==◌, Bool, true, false, cond, List, [], ◌∷◌, ◌++◌, length, map, refl}
use Rattle.std.proofs.Common.{ap, subst, ◌∙◌, inl, inr, arith}
use Rattle.std.specs.Prelude.{not, ◌&&◌, filter, Option, Some, None, is_some}
use Rattle.std.specs.Option.{option_to_list}
use Rattle.std.specs.List.{AllByRecursion, Contains, flat_map}
use Rattle.std.specs.List.Sorted.{IsStrictlySortedBy}
use Rattle.std.specs.Map.{keys_of, lookup}
use Rattle.std.specs.BTreeMap.{is_at}
use Rattle.std.specs.Ordering.{nat_cmp}
use Rattle.std.proofs.lemmas.List.{length-map}
use Rattle.std.proofs.lemmas.Map.Lookups.{exact_unsigned}
use Rattle.std.proofs.lemmas.Map.Views.{Contains-keys_from_lookup, tells_apart}
use Rattle.wl_machine.specs.Step.{is_signal}
use Rattle.wl_machine.proofs.Covers.{looked_alike}
use Rattle.wl_machine.proofs.Lists.{and_first, and_second}
use Rattle.wl_index.proofs.Counting.{length-filter-not}
use Rattle.wl_index.specs.declared.request.Owner.{Owner}
use Rattle.wl_index.specs.declared.request.Owner.TheVariants.{Signal, Agent}
use Rattle.wl_index.specs.declared.request.Standing.{Standing}
use Rattle.wl_index.specs.declared.request.Standing.TheVariants.{Waits, Holds}
use Rattle.wl_index.specs.declared.request.Place.{Place}
use Rattle.wl_index.specs.declared.request.Request.{Request}
use Rattle.wl_index.specs.inner.Rows.{Entry, is_taken, waiting, holding}
use Rattle.wl_index.specs.inner.Order.{place_of}
use Rattle.wl_index.specs.inner.Ends.{IsOwners, ends_entry, is_owned, place_if}
use Rattle.wl_index.proofs.Lists.{all_back}
use Rattle.wl_number_map.proofs.Keyed.{found, found_each}

-- the place of the request of a number, if it passes
abbrev pub pick : (Entry → Bool) → List Entry → ℕ → List Place
pick q es n = option_to_list (place_if q n (lookup (is_at (nat_cmp n)) es))

-- those of several numbers
abbrev pub picked : (Entry → Bool) → List Entry → List ℕ → List Place
picked q es ns = flat_map (pick q es) ns

picked_keys : (q : Entry → Bool) (es l : List Entry) → AllByRecursion
    (λ (e : Entry). lookup (is_at (nat_cmp e.0)) es ≡ Some e.1) l → picked q es (keys_of l) ≡ map place_of (filter q l)
picked_keys q es [] all = refl
picked_keys q es (e ∷ l) all = ap (λ o. option_to_list (place_if q e.0 o) ++ picked q es (keys_of l)) all.0
    ∙ by (q e) (picked_keys q es l all.1)
  where
    by : (b : Bool) → picked q es (keys_of l) ≡ map place_of (filter q l)
        → option_to_list (cond b (Some (place_of e)) None) ++ picked q es (keys_of l)
        ≡ map place_of (cond b (e ∷ filter q l) (filter q l))
    by true rest = ap (λ ps. place_of e ∷ ps) rest
    by false rest = rest

-- what ends with an owner is the owner's
ends_owned : (owner : Owner) (standing : Standing) (e : Entry) → ends_entry owner standing e ≡ true
    → is_owned owner e ≡ true
ends_owned (Signal agent signal) Waits e ends = and_second (waiting e)
    ((e.1.agent == agent) && is_signal signal e.1.signal) ends
ends_owned (Signal agent signal) Holds e ends = and_first ((e.1.agent == agent) && is_signal signal e.1.signal)
    (not (is_taken e.1.stage)) (and_second (holding e) (((e.1.agent == agent) && is_signal signal e.1.signal)
    && not (is_taken e.1.stage)) ends)
ends_owned (Agent agent) Waits e ends = and_second (waiting e) (e.1.agent == agent) ends
ends_owned (Agent agent) Holds e ends = and_second (holding e) (e.1.agent == agent) ends

-- numbers that find all of an owner's pick what ends with it
module _ (owner : Owner) (standing : Standing) (es : List Entry) (sorted : IsStrictlySortedBy nat_cmp (keys_of es))
  where
    abbrev ends : Entry → Bool
    ends = ends_entry owner standing

    known : (q : ℕ) (o : Option Request) → lookup (is_at (nat_cmp q)) es ≡ o
        → Contains (keys_of es) q ⊎ (pick ends es q ≡ [])
    known q None there = inr (ap (λ o. option_to_list (place_if ends q o)) there)
    known q (Some r) there = inl (Contains-keys_from_lookup (tells_apart exact_unsigned) q es (ap is_some there))

    mine : (ns : List ℕ) → IsOwners owner es ns → (q : ℕ) (r : Request) → lookup (is_at (nat_cmp q)) es ≡ Some r
        → (b : Bool) → ends (q, r) ≡ b → Contains ns q ⊎ (pick ends es q ≡ [])
    mine ns all q r there true ending =
        let f = found q es r sorted there in
        let own = all_back (λ (e : Entry). is_owned owner e ≡ true → Contains ns e.0) f.front ((q, r) ∷ f.back)
        (subst (λ l. IsOwners owner l ns) f.whole all) in
        inl (own.0 (ends_owned owner standing (q, r) ending))
    mine ns all q r there false not_this = inr (ap (λ o. option_to_list (place_if ends q o)) there
        ∙ ap (λ b. option_to_list (cond b (Some (place_of (q, r))) None)) not_this)

    listed : (ns : List ℕ) → IsOwners owner es ns → (q : ℕ) (o : Option Request) → lookup (is_at (nat_cmp q)) es ≡ o
        → Contains ns q ⊎ (pick ends es q ≡ [])
    listed ns all q None there = inr (ap (λ o. option_to_list (place_if ends q o)) there)
    listed ns all q (Some r) there = mine ns all q r there (ends (q, r)) refl

    pub all_picked : (ns : List ℕ) → IsStrictlySortedBy nat_cmp ns → IsOwners owner es ns
        → picked (ends_entry owner standing) es ns ≡ map place_of (filter (ends_entry owner standing) es)
    all_picked ns rising all =
        looked_alike (pick ends es) ns (keys_of es) rising sorted (λ q _. known q (lookup (is_at (nat_cmp q)) es) refl)
        (λ q _. listed ns all q (lookup (is_at (nat_cmp q)) es) refl)
        ∙ picked_keys ends es es (found_each es sorted)

-- no more end than are live
pub ends_fewer : (q : Entry → Bool) (es : List Entry) → length (map place_of (filter q es)) ≤ length es
ends_fewer q es =
    let one = length-map (filter q es) place_of in
    let two = length-filter-not q es in
    omega (arith, one, two)
