-- Lists whose grant sequences differ, and a list sorted by grant sequence.
use Rattle.std.proofs.Common.{◌≡◌, ℕ, ◌<◌, Bool, true, false, cond, List, [], ◌∷◌, ◌++◌, sym, ◌∙◌, map, filter, arith}
use Rattle.std.specs.List.{AllByRecursion}
use Rattle.wl_index.specs.inner.GrantOrder.{Distinct}
use Rattle.wl_index.proofs.Lists.{all_filter, all_weaker, all_append, all_front, all_back}

module _ {X : Type 0} (f : X → ℕ) where
  abbrev Differs : X → List X → Type 0
  Differs x l = AllByRecursion (λ y. f x ≡ f y → ⊥) l

  pub distinct_filter : (p : X → Bool) (l : List X) → Distinct f l → Distinct f (filter p l)
  distinct_filter p [] distinct = tt
  distinct_filter p (x ∷ l) distinct = by (p x) (distinct_filter p l distinct.1)
    where
      by : (b : Bool) → Distinct f (filter p l) → Distinct f (cond b (x ∷ filter p l) (filter p l))
      by true rest = (all_filter (λ y. f x ≡ f y → ⊥) p l distinct.0, rest)
      by false rest = rest

  -- a map that keeps the grant sequences
  pub distinct_map : {Y : Type 0} (h : Y → ℕ) (g : X → Y) → ((x : X) → h (g x) ≡ f x) → (l : List X) → Distinct f l
      → Distinct h (map g l)
  distinct_map h g keeps [] distinct = tt
  distinct_map h g keeps (x ∷ l) distinct = (others l distinct.0, distinct_map h g keeps l distinct.1)
    where
      others : (l : List X) → Differs x l → AllByRecursion (λ y. h (g x) ≡ h y → ⊥) (map g l)
      others [] all = tt
      others (y ∷ l) all = ((λ same. all.0 (sym (keeps x) ∙ same ∙ keeps y)), others l all.1)

  distinct_middle : (x : X) (front back : List X) → Differs x front → Differs x back → Distinct f (front ++ back)
      → Distinct f (front ++ x ∷ back)
  distinct_middle x [] back low high distinct = (high, distinct)
  distinct_middle x (y ∷ front) back low high distinct =
      let P : X → Type 0 = λ z. f y ≡ f z → ⊥ in
      let first : f y ≡ f x → ⊥ = λ same. low.0 (sym same) in (
        all_append P front (x ∷ back) (all_front P front back distinct.0) (first, all_back P front back distinct.0),
        distinct_middle x front back low.1 high distinct.1,
      )

  -- one more, whose grant sequence is above all
  pub distinct_last_come : (x : X) (front back : List X) → AllByRecursion (λ y. f y < f x) front
      → AllByRecursion (λ y. f y < f x) back → Distinct f (front ++ back) → Distinct f (front ++ x ∷ back)
  distinct_last_come x front back low high distinct =
      let apart : (y : X) → f y < f x → f x ≡ f y → ⊥ = λ y less same. omega (arith, less, same) in
      distinct_middle x front back (all_weaker (λ y. f y < f x) (λ y. f x ≡ f y → ⊥) front apart low)
      (all_weaker (λ y. f y < f x) (λ y. f x ≡ f y → ⊥) back apart high) distinct
