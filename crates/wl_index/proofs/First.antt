-- The first by grant sequence, and those after it.
use Rattle.std.proofs.Common.{◌≡◌, ℕ, suc, ◌<◌, ◌≤◌, ◌+◌, ◌-◌, Bool, true, false, cond, List, [], ◌∷◌, ◌++◌, refl, sym}
use Rattle.std.proofs.Common.{ap, ◌∙◌, filter, nat_lt, nat_le, if◌then◌else◌, arith, Option, Some, None, subst}
use Rattle.std.specs.List.{AllByRecursion, slice_get}
use Rattle.std.specs.Option.{option_to_list, unwrap_or}
use Rattle.std.proofs.lemmas.Bool.Decides.{nat_tests}
use Rattle.std.proofs.lemmas.Option.{none-some}
use Rattle.wl_index.specs.inner.GrantOrder.{place, by_grant_seq}
use Rattle.wl_index.proofs.Lists.{filter_whole, all_weaker}
use Rattle.wl_index.proofs.Sorted.{Climbing}

-- where nothing is left, the list has ended
pub none_left : {X : Type 0} (i k : ℕ) (l rest : List X) → slice_get rest 0 ≡ None → slice_get l i ≡ slice_get rest k
    → slice_get l i ≡ None
none_left i k l [] none before = before
none_left i k l (x ∷ rest) none before = absurd (none-some x (sym none))

-- what is true of all is true of the first
pub first_all : {X : Type 0} (P : X → Type 0) (l : List X) (x : X) → AllByRecursion P l → slice_get l 0 ≡ Some x → P x
first_all P [] x all there = absurd (cc)
first_all P (y ∷ l) x all there = subst P (ap (λ o. unwrap_or o y) there) all.0

module _ {X : Type 0} (f : X → ℕ) where
  abbrev pub first : List X → Option X
  first l = slice_get (by_grant_seq f l) 0

  -- ---- the first of two lists

  abbrev pick : Option X → Option X → Option X
  pick None b = b
  pick (Some x) None = Some x
  pick (Some x) (Some y) = Some (if nat_lt (f x) (f y) then x else y)

  pick_all : (x y z : X) → pick (Some x) (pick (Some y) (Some z)) ≡ pick (pick (Some x) (Some y)) (Some z)
  pick_all x y z = by (nat_lt (f x) (f y)) (nat_lt (f y) (f z)) (nat_lt (f x) (f z)) refl refl refl
    where
      by : (a b c : Bool) → nat_lt (f x) (f y) ≡ a → nat_lt (f y) (f z) ≡ b → nat_lt (f x) (f z) ≡ c
          → pick (Some x) (Some (if nat_lt (f y) (f z) then y else z))
          ≡ pick (Some (if nat_lt (f x) (f y) then x else y)) (Some z)
      by true true true ha hb hc = rw (hb, ha, hc) refl
      by true true false ha hb hc = absurd (grind (arith, nat_tests, ha, hb, hc))
      by true false c ha hb hc = rw (hb, ha) refl
      by false true c ha hb hc = simp (hb, ha) refl
      by false false true ha hb hc = absurd (grind (arith, nat_tests, ha, hb, hc))
      by false false false ha hb hc = simp (hb, ha, hc) refl

  pick_assoc : (a b c : Option X) → pick a (pick b c) ≡ pick (pick a b) c
  pick_assoc None b c = refl
  pick_assoc (Some x) None c = refl
  pick_assoc (Some x) (Some y) None = refl
  pick_assoc (Some x) (Some y) (Some z) = pick_all x y z

  first_place : (x : X) (l : List X) → slice_get (place f x l) 0 ≡ pick (Some x) (slice_get l 0)
  first_place x [] = refl
  first_place x (y ∷ l) = by (nat_lt (f x) (f y))
    where
      by : (b : Bool) → slice_get (if b then x ∷ y ∷ l else y ∷ place f x l) 0 ≡ Some (if b then x else y)
      by true = refl
      by false = refl

  first_append : (l r : List X) → first (l ++ r) ≡ pick (first l) (first r)
  first_append [] r = refl
  first_append (x ∷ l) r =
      first_place x (by_grant_seq f (l ++ r)) ∙ ap (pick (Some x)) (first_append l r)
      ∙ pick_assoc (Some x) (first l) (first r) ∙ ap (λ o. pick o (first r)) (sym (first_place x (by_grant_seq f l)))

  first_self : (o : Option X) → first (option_to_list o) ≡ o
  first_self None = refl
  first_self (Some x) = refl

  -- the first of a list stands for the list
  pub first_again : (l r : List X) → first (option_to_list (first l) ++ r) ≡ first (l ++ r)
  first_again l r = first_append (option_to_list (first l)) r ∙ ap (λ o. pick o (first r)) (first_self (first l))
      ∙ sym (first_append l r)

  -- ---- those after the first

  abbrev pub from : ℕ → List X → List X
  from low l = filter (λ x. nat_le low (f x)) l

  -- a list that climbs, from a grant sequence on
  pub record After (low : ℕ) (l : List X) (x : X) : Type 0 where
    pub high : low ≤ f x
    pub rest : from low l ≡ x ∷ from (f x + 1) l

  all_from : (low : ℕ) (l : List X) → AllByRecursion (λ y. low ≤ f y) l → from low l ≡ l
  all_from low l all = filter_whole (λ x. nat_le low (f x)) l
      (all_weaker (λ y. low ≤ f y) (λ y. nat_le low (f y) ≡ true) l (λ y h. grind (arith, nat_tests, h)) all)

  pub after : (low : ℕ) (l : List X) (x : X) → Climbing f l → slice_get (from low l) 0 ≡ Some x → After low l x
  after low [] x climbing there = absurd (cc)
  after low (y ∷ l) x climbing there = by (nat_le low (f y)) refl (after low l x climbing.1)
    where
      seen : (b : Bool) → nat_le low (f y) ≡ b → slice_get (cond b (y ∷ from low l) (from low l)) 0 ≡ Some x
      seen b h = sym (ap (λ c. slice_get (cond c (y ∷ from low l) (from low l)) 0) h) ∙ there

      here : nat_le low (f y) ≡ true → After low (y ∷ l) y
      here h =
          let high : low ≤ f y = grind (arith, nat_tests, h) in
          let past : nat_le (f y + 1) (f y) ≡ false = grind (arith, nat_tests) in
          record {
            high = high;
            rest = rw (h, past) (ap (λ t. y ∷ t) (
                all_from low l (all_weaker (λ z. f y < f z) (λ z. low ≤ f z) l (λ z less. omega (arith, less, high))
                climbing.0)
                ∙ sym (all_from (f y + 1) l (all_weaker (λ z. f y < f z) (λ z. f y + 1 ≤ f z) l
                (λ z less. omega (arith, less)) climbing.0))));
          }

      by : (b : Bool) → nat_le low (f y) ≡ b → (slice_get (from low l) 0 ≡ Some x → After low l x) → After low (y ∷ l) x
      by true h rest = subst (After low (y ∷ l)) (ap (λ o. unwrap_or o y) (seen true h)) (here h)
      by false h rest =
          let r = rest (seen false h) in
          let high = r.high in
          let past : nat_le (f x + 1) (f y) ≡ false = grind (arith, nat_tests, h, high) in
          record { high = high; rest = rw (h, past) r.rest }

  -- ---- one after the other

  pub from_start : (l : List X) → from 0 l ≡ l
  from_start l = filter_whole (λ x. nat_le 0 (f x)) l (all l)
    where
      all : (l : List X) → AllByRecursion (λ y. nat_le 0 (f y) ≡ true) l
      all [] = tt
      all (y ∷ l) = (grind (arith, nat_tests), all l)

  -- the first from a grant sequence on is passed
  pub passed : (low i done : ℕ) (l : List X) (x : X) → Climbing f l → done < i → slice_get (from low l) 0 ≡ Some x
      → slice_get l i ≡ slice_get (from low l) (i - done) → slice_get l i
      ≡ slice_get (from (f x + 1) l) (i - (done + 1))
  passed low i done l x climbing less there before =
      let one : i - done ≡ suc (i - (done + 1)) = omega (arith, less) in
      before ∙ ap (λ t. slice_get t (i - done)) (after low l x climbing there).rest
      ∙ ap (slice_get (x ∷ from (f x + 1) l)) one
