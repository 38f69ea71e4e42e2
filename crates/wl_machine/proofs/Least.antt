-- The least of some numbers is that of any list of the same numbers.
use Rattle.std.proofs.Common.{◌≡◌, ◌≤◌, ◌==◌, ◌||◌, ◌&&◌, ℕ, Bool, true, false, cond, List, [], ◌∷◌, refl, sym, ap, ◌∙◌}
use Rattle.std.proofs.Common.{eq-eqb, subst, arith, Option, Some, None}
use Rattle.std.specs.Prelude.{filter}
use Rattle.std.specs.List.{AllByRecursion, find}
use Rattle.std.specs.List.Sorted.{IsStrictlySortedBy}
use Rattle.std.specs.Ordering.{nat_cmp}
use Rattle.std.specs.declared.cmp.Ordering.TheVariants.{Less}
use Rattle.std.proofs.Math.Bool.{and-false, or-true}
use Rattle.std.proofs.lemmas.Map.Keys.{sorted_head, sorted_tail}
use Rattle.wl_machine.specs.Least.{IsLeast}
use Rattle.wl_machine.specs.Standing.{is_in}
use Rattle.wl_machine.proofs.Covers.{alike, less}

-- what is true of each number of a list
pub all_by_number : (P : ℕ → Type 0) (xs : List ℕ) → ((n : ℕ) → is_in n xs ≡ true → P n) → AllByRecursion P xs
all_by_number P [] each = tt
all_by_number P (x ∷ xs) each = (
  each x (rw (eq-eqb x x refl) refl),
  all_by_number P xs (λ n has. each n (rw has (or-true (x == n)))),
)

pub at_number : (P : ℕ → Type 0) (xs : List ℕ) (n : ℕ) → AllByRecursion P xs → is_in n xs ≡ true → P n
at_number P [] n all has = absurd (cc)
at_number P (x ∷ xs) n all has = by (x == n) refl (at_number P xs n all.1)
  where
    by : (b : Bool) → (x == n) ≡ b → (is_in n xs ≡ true → P n) → P n
    by true same rest = subst P (alike x n same) all.0
    by false other rest = rest (rw other at has)

-- a list without numbers
pub none_by_number : (xs : List ℕ) → ((n : ℕ) → is_in n xs ≡ false) → xs ≡ []
none_by_number [] none = refl
none_by_number (x ∷ xs) none = absurd (let no : true ≡ false = rw (eq-eqb x x refl) at (none x) in cc)

-- the numbers that pass a test
pub in_filter : (p : ℕ → Bool) (xs : List ℕ) (n : ℕ) → is_in n (filter p xs) ≡ (is_in n xs && p n)
in_filter p [] n = refl
in_filter p (x ∷ xs) n = by (p x) refl (x == n) refl (in_filter p xs n)
  where
    by : (k : Bool) → p x ≡ k → (b : Bool) → (x == n) ≡ b → is_in n (filter p xs) ≡ (is_in n xs && p n)
        → is_in n (cond k (x ∷ filter p xs) (filter p xs)) ≡ ((b || is_in n xs) && p n)
    by true is true same rest = rw (same) (sym (ap p (sym (alike x n same)) ∙ is))
    by true is false other rest = rw other rest
    by false is true same rest = rest ∙ (rw (ap p (sym (alike x n same)) ∙ is) (and-false (is_in n xs)))
    by false is false other rest = rest

pub least_alike : (xs ys : List ℕ) (least : Option ℕ) → ((n : ℕ) → is_in n ys ≡ is_in n xs) → IsLeast xs least
    → IsLeast ys least
least_alike xs ys None same is = none_by_number ys (λ n. same n ∙ ap (is_in n) is)
least_alike xs ys (Some least) same is = (
  same least ∙ is.0,
  all_by_number (λ n. least ≤ n) ys (λ n has. at_number (λ m. least ≤ m) xs n is.1 (sym (same n) ∙ has)),
)

-- the first that passes, of numbers that rise
pub least_found : (p : ℕ → Bool) (xs : List ℕ) → IsStrictlySortedBy nat_cmp xs → IsLeast (filter p xs) (find p xs)
least_found p [] rising = refl
least_found p (x ∷ xs) rising = by (p x) (least_found p xs (sorted_tail nat_cmp x xs rising))
  where
    higher : (ys : List ℕ) → AllByRecursion (λ y. nat_cmp x y ≡ Less) ys → AllByRecursion (λ y. x ≤ y) (filter p ys)
    higher [] all = tt
    higher (y ∷ ys) all = at_test (p y) (higher ys all.1)
      where
        at_test : (b : Bool) → AllByRecursion (λ z. x ≤ z) (filter p ys)
            → AllByRecursion (λ z. x ≤ z) (cond b (y ∷ filter p ys) (filter p ys))
        at_test true rest = (let low = less x y all.0 in omega (arith, low), rest)
        at_test false rest = rest

    by : (b : Bool) → IsLeast (filter p xs) (find p xs) → IsLeast (cond b (x ∷ filter p xs) (filter p xs))
        (cond b (Some x) (find p xs))
    by true rest = (rw (eq-eqb x x refl) refl, (omega arith, higher xs (sorted_head nat_cmp x xs rising)))
    by false rest = rest
