-- Those that wait, among the live of a queue: a filter by number that cuts the list in two.
use Rattle.std.proofs.Common.{◌≡◌, ℕ, ◌<◌, ◌==◌, Bool, true, false, cond, List, [], ◌∷◌, ◌++◌, refl, ap, subst, sym}
use Rattle.std.proofs.Common.{◌∙◌, arith, append_assoc}
use Rattle.std.specs.Prelude.{filter, Some}
use Rattle.std.specs.Option.{option_eq}
use Rattle.std.specs.Prelude.{nat_eq}
use Rattle.std.specs.List.{AllByRecursion}
use Rattle.std.specs.List.Sorted.{IsStrictlySortedBy}
use Rattle.std.specs.Map.{keys_of}
use Rattle.std.specs.Ordering.{nat_cmp}
use Rattle.std.specs.BTreeMap.Range.{range_contains}
use Rattle.std.specs.declared.cmp.Ordering.TheVariants.{Less}
use Rattle.std.specs.declared.ops.Bound.TheVariants.{Included, Excluded, Unbounded}
use Rattle.std.proofs.lemmas.List.Elements.{filter-append}
use Rattle.std.proofs.lemmas.Bool.Decides.{nat_tests}
use Rattle.std.proofs.lemmas.Map.Keys.{sorted_head, sorted_tail}
use Rattle.wl_index.specs.inner.NameQueue.{Numbered, other_than, head_number, live_after, waits_from}
use Rattle.wl_index.proofs.Lists.{all_append, all_weaker, filter_none, filter_whole}

less_back : (n : ℕ) (front rest : List Numbered) (e : Numbered)
    → AllByRecursion (λ y. nat_cmp n y ≡ Less) (keys_of (front ++ e ∷ rest)) → n < e.0
less_back n [] rest e all = let first = all.0 in grind (arith, nat_tests, first)
less_back n (x ∷ front) rest e all = less_back n front rest e all.1

pub low : (front rest : List Numbered) (e : Numbered) → IsStrictlySortedBy nat_cmp (keys_of (front ++ e ∷ rest))
    → AllByRecursion (λ (x : Numbered). x.0 < e.0) front
low [] rest e sorted = tt
low (x ∷ front) rest e sorted = (
  less_back x.0 front rest e (sorted_head nat_cmp x.0 (keys_of (front ++ e ∷ rest)) sorted),
  low front rest e (sorted_tail nat_cmp x.0 (keys_of (front ++ e ∷ rest)) sorted),
)

above : (n : ℕ) (es : List Numbered) → AllByRecursion (λ y. nat_cmp n y ≡ Less) (keys_of es)
    → AllByRecursion (λ (x : Numbered). n < x.0) es
above n [] all = tt
above n (e ∷ es) all = (let first = all.0 in grind (arith, nat_tests, first), above n es all.1)

pub high : (front rest : List Numbered) (e : Numbered) → IsStrictlySortedBy nat_cmp (keys_of (front ++ e ∷ rest))
    → AllByRecursion (λ (x : Numbered). e.0 < x.0) rest
high [] rest e sorted = above e.0 rest (sorted_head nat_cmp e.0 (keys_of rest) sorted)
high (x ∷ front) rest e sorted = high front rest e (sorted_tail nat_cmp x.0 (keys_of (front ++ e ∷ rest)) sorted)

-- what none in front passes, and all behind
cut : (p : Numbered → Bool) (front rest : List Numbered) → AllByRecursion (λ x. p x ≡ false) front
    → AllByRecursion (λ x. p x ≡ true) rest → filter p (front ++ rest) ≡ rest
cut p front rest fails passes = filter-append p front rest ∙ ap (λ l. l ++ filter p rest) (filter_none p front fails)
    ∙ filter_whole p rest passes

-- from the first of the back on there is the back
pub seam : (front back : List Numbered) → IsStrictlySortedBy nat_cmp (keys_of (front ++ back))
    → waits_from (head_number back) (front ++ back) ≡ back
seam front [] sorted = refl
seam front (e ∷ rest) sorted = cut from_it front (e ∷ rest)
    (all_weaker (λ (x : Numbered). x.0 < e.0) (λ x. from_it x ≡ false) front (λ x less. grind (arith, nat_tests, less))
    (low front rest e sorted)) (
      itself,
      all_weaker (λ (x : Numbered). e.0 < x.0) (λ x. from_it x ≡ true) rest
          (λ x less. grind (arith, nat_tests, less)) (high front rest e sorted),
    )
  where
    from_it : Numbered → Bool
    from_it x = range_contains nat_cmp (Included e.0) Unbounded x.0

    itself : from_it e ≡ true
    itself = grind (arith, nat_tests)

-- after it there is the rest
pub after_seam : (front rest : List Numbered) (e : Numbered) → IsStrictlySortedBy nat_cmp (keys_of (front ++ e ∷ rest))
    → live_after e.0 (front ++ e ∷ rest) ≡ rest
after_seam front rest e sorted = ap (filter after_it) (sym (append_assoc front (e ∷ []) rest))
    ∙ cut after_it (front ++ e ∷ []) rest
    (all_append (λ x. after_it x ≡ false) front (e ∷ []) (all_weaker (λ (x : Numbered). x.0 < e.0)
    (λ x. after_it x ≡ false) front (λ x less. grind (arith, nat_tests, less)) (low front rest e sorted))
    (itself, tt))
    (all_weaker (λ (x : Numbered). e.0 < x.0) (λ x. after_it x ≡ true) rest (λ x less. grind (arith, nat_tests, less))
    (high front rest e sorted))
  where
    after_it : Numbered → Bool
    after_it x = range_contains nat_cmp (Excluded e.0) Unbounded x.0

    itself : after_it e ≡ false
    itself = grind (arith, nat_tests)

-- the first is another than the first of the back just where something stands in front
pub heads_apart : (front back : List Numbered) → IsStrictlySortedBy nat_cmp (keys_of (front ++ back))
    → (x : Numbered) (rest : List Numbered) → front ≡ x ∷ rest
    → option_eq nat_eq (head_number (front ++ back)) (head_number back) ≡ false
heads_apart [] back sorted x rest is = absurd (cc)
heads_apart (y ∷ front) [] sorted x rest is = refl
heads_apart (y ∷ front) (e ∷ back) sorted x rest is = let less = (low (y ∷ front) back e sorted).0
    in grind (arith, nat_tests, less)

-- the first that is left where one leaves
pub head_left : (front waits : List Numbered) (number : ℕ) → IsStrictlySortedBy nat_cmp (keys_of (front ++ waits))
    → cond (option_eq nat_eq (head_number waits) (Some number)) (head_number (live_after number (front ++ waits)))
    (head_number waits) ≡ head_number (filter (other_than number) waits)
head_left front [] number sorted = refl
head_left front (e ∷ rest) number sorted = by (e.0 == number) refl
  where
    others : AllByRecursion (λ x. other_than e.0 x ≡ true) rest
    others = all_weaker (λ (x : Numbered). e.0 < x.0) (λ x. other_than e.0 x ≡ true) rest
        (λ x less. grind (arith, nat_tests, less)) (high front rest e sorted)

    leaves : head_number (live_after e.0 (front ++ e ∷ rest)) ≡ head_number (filter (other_than e.0) rest)
    leaves = ap head_number (after_seam front rest e sorted ∙ sym (filter_whole (other_than e.0) rest others))

    is_it : (e.0 == number) ≡ true → e.0 ≡ number
    is_it h = grind (arith, nat_tests, h)

    by : (b : Bool) → (e.0 == number) ≡ b → cond (e.0 == number) (head_number (live_after number (front ++ e ∷ rest)))
        (Some e.0) ≡ head_number (filter (other_than number) (e ∷ rest))
    by true h = rw h (subst (λ n. head_number (live_after n (front ++ e ∷ rest))
        ≡ head_number (filter (other_than n) rest)) (is_it h) leaves)
    by false h = rw h refl
