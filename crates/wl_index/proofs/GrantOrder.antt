-- Laws of lists in the order of a grant sequence.
use Rattle.std.proofs.Common.{⊎_elim, ◌≡◌, ℕ, ◌<◌, ◌≤◌, Bool, true, false, cond, if◌then◌else◌, List, [], ◌∷◌, ◌++◌}
use Rattle.std.proofs.Common.{refl, sym, ap, ◌∙◌, filter, nat_lt, arith}
use Rattle.std.proofs.lemmas.Bool.{ltb-true, ltb-false, lt-ltb, le-ltb, cases_lt}
use Rattle.std.specs.List.{AllByRecursion}
use Rattle.wl_index.specs.inner.GrantOrder.{place, by_grant_seq}

not_below : (a b : ℕ) → b < a → nat_lt a b ≡ false
not_below a b less = le-ltb a b (omega arith)

module _ {X : Type 0} (f : X → ℕ) where
  pub place_last : (e : X) (l : List X) → AllByRecursion (λ y. f y < f e) l → place f e l ≡ l ++ e ∷ []
  place_last e [] below = refl
  place_last e (y ∷ ys) below = rw (not_below (f e) (f y) below.0) (ap (λ l. y ∷ l) (place_last e ys below.1))

  pub place_before : (x e : X) (l : List X) → f x < f e → place f x (l ++ e ∷ []) ≡ place f x l ++ e ∷ []
  place_before x e [] less = rw (lt-ltb (f x) (f e) less) refl
  place_before x e (y ∷ ys) less = by (nat_lt (f x) (f y)) (place_before x e ys less)
    where
      by : (b : Bool) → place f x (ys ++ e ∷ []) ≡ place f x ys ++ e ∷ []
          → (if b then x ∷ y ∷ (ys ++ e ∷ []) else y ∷ place f x (ys ++ e ∷ []))
          ≡ (if b then x ∷ y ∷ ys else y ∷ place f x ys) ++ e ∷ []
      by true rest = refl
      by false rest = ap (λ l. y ∷ l) rest

  pub place_all : (P : X → Type 0) (x : X) (l : List X) → P x → AllByRecursion P l → AllByRecursion P (place f x l)
  place_all P x [] p all = (p, tt)
  place_all P x (y ∷ ys) p all = by (nat_lt (f x) (f y)) (place_all P x ys p all.1)
    where
      by : (b : Bool) → AllByRecursion P (place f x ys) → AllByRecursion P (if b then x ∷ y ∷ ys else y ∷ place f x ys)
      by true rest = (p, all)
      by false rest = (all.0, rest)

  pub by_grant_seq_all : (P : X → Type 0) (l : List X) → AllByRecursion P l → AllByRecursion P (by_grant_seq f l)
  by_grant_seq_all P [] all = tt
  by_grant_seq_all P (x ∷ xs) all = place_all P x (by_grant_seq f xs) all.0 (by_grant_seq_all P xs all.1)

  -- one with the greatest grant sequence, wherever it comes in, is last
  pub by_grant_seq_last : (front back : List X) (e : X) → AllByRecursion (λ y. f y < f e) front
      → AllByRecursion (λ y. f y < f e) back
      → by_grant_seq f (front ++ e ∷ back) ≡ by_grant_seq f (front ++ back) ++ e ∷ []
  by_grant_seq_last [] back e fs bs = place_last e (by_grant_seq f back) (by_grant_seq_all (λ y. f y < f e) back bs)
  by_grant_seq_last (x ∷ front) back e fs bs =
      ap (place f x) (by_grant_seq_last front back e fs.1 bs) ∙ place_before x e (by_grant_seq f (front ++ back)) fs.0

  -- ---- a filter and the order
  abbrev pub Rising : List X → Type 0
  Rising [] = Unit {0}
  Rising (x ∷ xs) = AllByRecursion (λ y. f x ≤ f y) xs × Rising xs

  weaker : (a b : ℕ) (l : List X) → a ≤ b → AllByRecursion (λ y. b ≤ f y) l → AllByRecursion (λ y. a ≤ f y) l
  weaker a b [] less all = tt
  weaker a b (y ∷ ys) less all = let h = all.0 in (omega arith, weaker a b ys less all.1)

  pub place_rising : (x : X) (l : List X) → Rising l → Rising (place f x l)
  place_rising x [] rising = (tt, tt)
  place_rising x (y ∷ ys) rising = by (nat_lt (f x) (f y)) refl (place_rising x ys rising.1)
    where
      by : (b : Bool) → nat_lt (f x) (f y) ≡ b → Rising (place f x ys)
          → Rising (if b then x ∷ y ∷ ys else y ∷ place f x ys)
      by true h rest = let l = ltb-true (f x) (f y) h in (
        (omega arith, weaker (f x) (f y) ys (omega arith) rising.0),
        rising,
      )
      by false h rest = (place_all (λ z. f y ≤ f z) x ys (ltb-false (f x) (f y) h) rising.0, rest)

  pub by_grant_seq_rising : (l : List X) → Rising (by_grant_seq f l)
  by_grant_seq_rising [] = tt
  by_grant_seq_rising (x ∷ xs) = place_rising x (by_grant_seq f xs) (by_grant_seq_rising xs)

  -- before all that are above it
  pub place_first : (x : X) (l : List X) → AllByRecursion (λ y. f x < f y) l → place f x l ≡ x ∷ l
  place_first x [] all = refl
  place_first x (y ∷ ys) all = rw (lt-ltb (f x) (f y) all.0) refl

  pub filter_all : (p : X → Bool) (P : X → Type 0) (l : List X) → AllByRecursion P l → AllByRecursion P (filter p l)
  filter_all p P [] all = tt
  filter_all p P (y ∷ ys) all = by (p y) (filter_all p P ys all.1)
    where
      by : (b : Bool) → AllByRecursion P (filter p ys) → AllByRecursion P (cond b (y ∷ filter p ys) (filter p ys))
      by true rest = (all.0, rest)
      by false rest = rest

  above : (a b : ℕ) (l : List X) → a < b → AllByRecursion (λ y. b ≤ f y) l → AllByRecursion (λ y. a < f y) l
  above a b [] less all = tt
  above a b (y ∷ ys) less all = let h = all.0 in (omega arith, above a b ys less all.1)

  pub filter_place_in : (p : X → Bool) (x : X) (l : List X) → Rising l → p x ≡ true
      → filter p (place f x l) ≡ place f x (filter p l)
  filter_place_in p x [] rising passes = rw passes refl
  filter_place_in p x (y ∷ ys) rising passes = by (nat_lt (f x) (f y)) (p y) refl
      (filter_place_in p x ys rising.1 passes)
    where
      first : nat_lt (f x) (f y) ≡ true → AllByRecursion (λ z. f x < f z) (y ∷ ys)
      first h = (ltb-true (f x) (f y) h, above (f x) (f y) ys (ltb-true (f x) (f y) h) rising.0)

      by : (b k : Bool) → nat_lt (f x) (f y) ≡ b → filter p (place f x ys) ≡ place f x (filter p ys)
          → filter p (if b then x ∷ y ∷ ys else y ∷ place f x ys)
          ≡ place f x (cond (p y) (y ∷ filter p ys) (filter p ys))
      by true k h rest = rw passes (sym (place_first x (filter p (y ∷ ys))
          (filter_all p (λ z. f x < f z) (y ∷ ys) (first h))))
      by false k h rest = ap (λ l. cond (p y) (y ∷ l) l) rest ∙ after (p y)
        where
          after : (c : Bool) → cond c (y ∷ place f x (filter p ys)) (place f x (filter p ys))
              ≡ place f x (cond c (y ∷ filter p ys) (filter p ys))
          after true = rw h refl
          after false = refl

  pub filter_place_out : (p : X → Bool) (x : X) (l : List X) → p x ≡ false → filter p (place f x l) ≡ filter p l
  filter_place_out p x [] fails = rw fails refl
  filter_place_out p x (y ∷ ys) fails = by (nat_lt (f x) (f y)) (filter_place_out p x ys fails)
    where
      by : (b : Bool) → filter p (place f x ys) ≡ filter p ys
          → filter p (if b then x ∷ y ∷ ys else y ∷ place f x ys) ≡ filter p (y ∷ ys)
      by true rest = rw fails refl
      by false rest = ap (λ l. cond (p y) (y ∷ l) l) rest

  pub filter_by_grant_seq : (p : X → Bool) (l : List X) → by_grant_seq f (filter p l) ≡ filter p (by_grant_seq f l)
  filter_by_grant_seq p [] = refl
  filter_by_grant_seq p (x ∷ xs) = by (p x) refl (filter_by_grant_seq p xs)
    where
      by : (b : Bool) → p x ≡ b → by_grant_seq f (filter p xs) ≡ filter p (by_grant_seq f xs)
          → by_grant_seq f (cond b (x ∷ filter p xs) (filter p xs)) ≡ filter p (place f x (by_grant_seq f xs))
      by true h rest = ap (place f x) rest ∙ sym (filter_place_in p x (by_grant_seq f xs) (by_grant_seq_rising xs) h)
      by false h rest = rest ∙ sym (filter_place_out p x (by_grant_seq f xs) h)

  -- ---- in any order

  swap_first : (x y : X) → f x < f y → place f x (y ∷ []) ≡ place f y (x ∷ [])
  swap_first x y less = rw (lt-ltb (f x) (f y) less, not_below (f y) (f x) less) refl

  swap_above : (x y z : X) (zs : List X) → f x < f y → nat_lt (f x) (f z) ≡ true
      → place f x (place f y (z ∷ zs)) ≡ place f y (x ∷ z ∷ zs)
  swap_above x y z zs less low = by (nat_lt (f y) (f z)) refl
    where
      by : (b : Bool) → nat_lt (f y) (f z) ≡ b → place f x (if b then y ∷ z ∷ zs else z ∷ place f y zs)
          ≡ place f y (x ∷ z ∷ zs)
      by true h = simp (lt-ltb (f x) (f y) less, not_below (f y) (f x) less, h) refl
      by false h = simp (low, not_below (f y) (f x) less, h) refl

  pub place_swap : (x y : X) (l : List X) → f x < f y → place f x (place f y l) ≡ place f y (place f x l)
  place_swap x y [] less = swap_first x y less
  place_swap x y (z ∷ zs) less = by (nat_lt (f x) (f z)) refl (place_swap x y zs less)
    where
      by : (b : Bool) → nat_lt (f x) (f z) ≡ b → place f x (place f y zs) ≡ place f y (place f x zs)
          → place f x (place f y (z ∷ zs)) ≡ place f y (if b then x ∷ z ∷ zs else z ∷ place f x zs)
      by true h rest = swap_above x y z zs less h
      by false h rest =
          let high : nat_lt (f y) (f z) ≡ false = not_below (f y) (f z) (let l = ltb-false (f x) (f z) h in omega arith)
          in
          simp (high, h) (ap (λ l. z ∷ l) rest)

  pub place_apart : (x y : X) (l : List X) → (f x ≡ f y → ⊥) → place f x (place f y l) ≡ place f y (place f x l)
  place_apart x y l apart = ⊎_elim (λ less. place_swap x y l less) (λ more. sym (place_swap y x l (below more)))
      (cases_lt (f x) (f y))
    where
      below : f y ≤ f x → f y < f x
      below h = omega (arith, apart)

  -- where one stands plays no part, if its grant sequence is its own
  pub by_grant_seq_anywhere : (x : X) (front back : List X) → AllByRecursion (λ y. f x ≡ f y → ⊥) front
      → by_grant_seq f (front ++ x ∷ back) ≡ place f x (by_grant_seq f (front ++ back))
  by_grant_seq_anywhere x [] back apart = refl
  by_grant_seq_anywhere x (y ∷ ys) back apart =
      ap (place f y) (by_grant_seq_anywhere x ys back apart.1)
      ∙ sym (place_apart x y (by_grant_seq f (ys ++ back)) apart.0)
