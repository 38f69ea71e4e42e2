-- What is looked up at numbers in order, some of which find nothing, is what is looked up at all that find something.
use Rattle.std.proofs.Common.{◌≡◌, ◌⊎◌, ℕ, ◌<◌, ◌==◌, Bool, true, false, cond, List, [], ◌∷◌, ◌++◌, refl, sym, ap}
use Rattle.std.proofs.Common.{subst, ◌∙◌, inl, inr, arith}
use Rattle.std.specs.Prelude.{filter}
use Rattle.std.specs.List.{AllByRecursion, Contains, flat_map}
use Rattle.std.specs.List.Sorted.{IsStrictlySortedBy}
use Rattle.std.specs.Ordering.{nat_cmp}
use Rattle.std.specs.declared.cmp.Ordering.{Ordering}
use Rattle.std.specs.declared.cmp.Ordering.TheVariants.{Less, Equal, Greater}
use Rattle.std.proofs.lemmas.Bool.Decides.{nat_tests}
use Rattle.std.proofs.lemmas.List.Elements.{All-contains, All-from_recursion, Contains-append_right, Contains-get_or}
use Rattle.std.proofs.lemmas.Map.Keys.{sorted_head, sorted_tail}
use Rattle.std.proofs.lemmas.Map.Made.{Contains-tail}

-- ---- numbers

pub less : (a b : ℕ) → nat_cmp a b ≡ Less → a < b
less a b h = grind (arith, nat_tests, h)

before : (a b c : ℕ) → nat_cmp a b ≡ Less → nat_cmp b c ≡ Less → nat_cmp a c ≡ Less
before a b c h k = grind (arith, nat_tests, less a b h, less b c k)

pub turned : (a b : ℕ) → nat_cmp a b ≡ Greater → nat_cmp b a ≡ Less
turned a b h = grind (arith, nat_tests, h)

pub equal : (a b : ℕ) → nat_cmp a b ≡ Equal → a ≡ b
equal a b h = grind (arith, nat_tests, h)

pub alike : (k n : ℕ) → (k == n) ≡ true → k ≡ n
alike k n h = grind (arith, nat_tests, h)

-- what is above a number is above one that is lower
pub all_above : (a b : ℕ) → nat_cmp a b ≡ Less → (ks : List ℕ) → AllByRecursion (λ k. nat_cmp b k ≡ Less) ks
    → AllByRecursion (λ k. nat_cmp a k ≡ Less) ks
all_above a b h [] all = tt
all_above a b h (k ∷ ks) all = (before a b k h all.0, all_above a b h ks all.1)

-- ---- lists

pub head_in : (k : ℕ) (ks : List ℕ) → Contains (k ∷ ks) k
head_in k ks = Contains-get_or (k ∷ ks) 0 0 (omega arith)

pub tail_in : (k q : ℕ) (ks : List ℕ) → Contains ks q → Contains (k ∷ ks) q
tail_in k q ks has = Contains-append_right (k ∷ []) ks q has

pub Contains-filter : (test : ℕ → Bool) (xs : List ℕ) (q : ℕ) → test q ≡ true → Contains xs q
    → Contains (filter test xs) q
Contains-filter test [] q passes has = has
Contains-filter test (x ∷ xs) q passes has = by (x == q) refl (test x) refl (Contains-filter test xs q passes)
  where
    rest_in : (x == q) ≡ false → Contains xs q
    rest_in h = Contains-tail x xs q (λ e. grind (arith, nat_tests, h, e)) has

    by : (a : Bool) → (x == q) ≡ a → (b : Bool) → test x ≡ b → (Contains xs q → Contains (filter test xs) q)
        → Contains (cond b (x ∷ filter test xs) (filter test xs)) q
    by true h true t rest = subst (Contains (x ∷ filter test xs)) (alike x q h) (head_in x (filter test xs))
    by true h false t rest = absurd (let off : true ≡ false = sym passes ∙ ap test (sym (alike x q h)) ∙ t in cc)
    by false h true t rest = tail_in x q (filter test xs) (rest (rest_in h))
    by false h false t rest = rest (rest_in h)

-- ---- numbers that rise

-- those that pass a test
pub rising_filter : (test : ℕ → Bool) (xs : List ℕ) → IsStrictlySortedBy nat_cmp xs
    → IsStrictlySortedBy nat_cmp (filter test xs)
unfolding IsStrictlySortedBy
rising_filter test [] s = s
rising_filter test (x ∷ xs) s = by (test x) (rising_filter test xs (sorted_tail nat_cmp x xs s))
  where
    kept : (l : List ℕ) → AllByRecursion (λ y. nat_cmp x y ≡ Less) l
        → AllByRecursion (λ y. nat_cmp x y ≡ Less) (filter test l)
    kept [] all = tt
    kept (y ∷ l) all = or_not (test y) (kept l all.1)
      where
        or_not : (b : Bool) → AllByRecursion (λ z. nat_cmp x z ≡ Less) (filter test l)
            → AllByRecursion (λ z. nat_cmp x z ≡ Less) (cond b (y ∷ filter test l) (filter test l))
        or_not true rest = (all.0, rest)
        or_not false rest = rest

    by : (b : Bool) → IsStrictlySortedBy nat_cmp (filter test xs)
        → IsStrictlySortedBy nat_cmp (cond b (x ∷ filter test xs) (filter test xs))
    by true rest = (kept xs (sorted_head nat_cmp x xs s), rest)
    by false rest = rest

-- one more, above all
pub rising_more : (xs : List ℕ) (n : ℕ) → IsStrictlySortedBy nat_cmp xs → AllByRecursion (λ x. x < n) xs
    → IsStrictlySortedBy nat_cmp (xs ++ n ∷ [])
unfolding IsStrictlySortedBy
rising_more [] n s all = (tt, tt)
rising_more (x ∷ xs) n s all = (over xs s.0, rising_more xs n s.1 all.1)
  where
    over : (l : List ℕ) → AllByRecursion (λ y. nat_cmp x y ≡ Less) l
        → AllByRecursion (λ y. nat_cmp x y ≡ Less) (l ++ n ∷ [])
    over [] above = (let lower = all.0 in grind (arith, nat_tests, lower), tt)
    over (y ∷ l) above = (above.0, over l above.1)

-- ---- the same, looked up at two lists of numbers in order

module _ {X : Type 0} (g : ℕ → List X) where
  -- nothing is at the numbers of ks that ns lacks
  abbrev pub Covers : List ℕ → List ℕ → Type 0
  Covers ns ks = (q : ℕ) → Contains ks q → Contains ns q ⊎ (g q ≡ [])

  -- one that another list does not have
  lone : (n : ℕ) (ns ks : List ℕ) → AllByRecursion (λ k. nat_cmp n k ≡ Less) ks → Covers ks (n ∷ ns) → g n ≡ []
  lone n ns ks above covers = elim (covers n (head_in n ns)) [
    | inl has ↦ absurd (omega (
      arith,
      less n n (All-contains (λ k. nat_cmp n k ≡ Less) ks n
          (All-from_recursion (λ k. nat_cmp n k ≡ Less) ks above) has),
    ))
    | inr none ↦ none
  ]

  -- a lower one covers nothing of a list
  lower : (n : ℕ) (ns ks : List ℕ) → AllByRecursion (λ k. nat_cmp n k ≡ Less) ks → Covers (n ∷ ns) ks → Covers ns ks
  lower n ns ks above covers q has = elim (covers q has) [
    | inl there ↦ inl (Contains-tail n ns q (λ e. differ e) there)
    | inr none ↦ inr none
  ]
    where
      differ : n ≡ q → ⊥
      differ e = omega (
        arith,
        e,
        less n q (All-contains (λ k. nat_cmp n k ≡ Less) ks q
            (All-from_recursion (λ k. nat_cmp n k ≡ Less) ks above) has),
      )

  fewer : (n : ℕ) (ns ks : List ℕ) → Covers ks (n ∷ ns) → Covers ks ns
  fewer n ns ks covers q has = covers q (tail_in n q ns has)

  nothing : (ks : List ℕ) → Covers [] ks → flat_map g ks ≡ []
  nothing [] covers = refl
  nothing (k ∷ ks) covers = rw (lone k ks [] tt covers) (nothing ks (fewer k ks [] covers))

  pub looked_alike : (ns ks : List ℕ) → IsStrictlySortedBy nat_cmp ns → IsStrictlySortedBy nat_cmp ks → Covers ks ns
      → Covers ns ks → flat_map g ns ≡ flat_map g ks
  looked_alike [] ks s t some all = sym (nothing ks all)
  looked_alike (n ∷ ns) ks s t some all = inner (looked_alike ns) ks t some all
    where
      above : AllByRecursion (λ k. nat_cmp n k ≡ Less) ns
      above = sorted_head nat_cmp n ns s

      inner : ((ks : List ℕ) → IsStrictlySortedBy nat_cmp ns → IsStrictlySortedBy nat_cmp ks → Covers ks ns
          → Covers ns ks → flat_map g ns ≡ flat_map g ks)
          → (ks : List ℕ) → IsStrictlySortedBy nat_cmp ks → Covers ks (n ∷ ns) → Covers (n ∷ ns) ks
          → flat_map g (n ∷ ns) ≡ flat_map g ks
      inner outer [] t some all = nothing (n ∷ ns) some
      inner outer (k ∷ ks) t some all = by (nat_cmp n k) refl (inner outer ks)
        where
          rises : IsStrictlySortedBy nat_cmp ns
          rises = sorted_tail nat_cmp n ns s

          over : AllByRecursion (λ q. nat_cmp k q ≡ Less) ks
          over = sorted_head nat_cmp k ks t

          by : (o : Ordering) → nat_cmp n k ≡ o → (IsStrictlySortedBy nat_cmp ks → Covers ks (n ∷ ns)
              → Covers (n ∷ ns) ks → flat_map g (n ∷ ns) ≡ flat_map g ks)
              → flat_map g (n ∷ ns) ≡ flat_map g (k ∷ ks)
          by Less h rest =
              let high : AllByRecursion (λ q. nat_cmp n q ≡ Less) (k ∷ ks) = (h, all_above n k h ks over) in
              let gone : flat_map g (n ∷ ns) ≡ flat_map g ns = rw (lone n ns (k ∷ ks) high some) refl in
              gone ∙ outer (k ∷ ks) rises t (fewer n ns (k ∷ ks) some) (lower n ns (k ∷ ks) high all)
          by Greater h rest =
              let down = turned n k h in
              let high : AllByRecursion (λ q. nat_cmp k q ≡ Less) (n ∷ ns) = (down, all_above k n down ns above) in
              let gone : flat_map g (k ∷ ks) ≡ flat_map g ks = rw (lone k ks (n ∷ ns) high all) refl in
              rest (sorted_tail nat_cmp k ks t) (lower k ks (n ∷ ns) high some) (fewer k ks (n ∷ ns) all) ∙ sym gone
          by Equal h rest =
              let is = equal n k h in
              let high : AllByRecursion (λ q. nat_cmp n q ≡ Less) ks =
              subst (λ m. AllByRecursion (λ q. nat_cmp m q ≡ Less) ks) (sym is) over in
              let low : AllByRecursion (λ q. nat_cmp k q ≡ Less) ns =
              subst (λ m. AllByRecursion (λ q. nat_cmp m q ≡ Less) ns) is above in
              let tails = outer ks rises (sorted_tail nat_cmp k ks t) (lower k ks ns low (fewer n ns (k ∷ ks) some))
              (lower n ns ks high (fewer k ks (n ∷ ns) all)) in
              ap (λ l. g n ++ l) tails ∙ ap (λ m. g m ++ flat_map g ks) is
