-- The locks of a signal, tried one after the other in the order of their numbers.
use Rattle.std.proofs.Common.{◌≡◌, ◌<◌, ◌≤◌, ◌+◌, ◌==◌, ◌||◌, ◌&&◌, ℕ, Bool, true, false, true≢false, cond, List, []}
use Rattle.std.proofs.Common.{◌∷◌, ◌++◌, length, map, refl, sym, ap, subst, ◌∙◌, eq-eqb, ne_eqb, arith, nat_lt, nat_le}
use Rattle.std.proofs.Common.{Some, None}
use Rattle.std.specs.Prelude.{filter, not}
use Rattle.std.specs.List.Sorted.{IsStrictlySortedBy}
use Rattle.std.specs.Ordering.{nat_cmp}
use Rattle.std.specs.declared.cmp.Ordering.TheVariants.{Less}
use Rattle.std.proofs.Math.Bool.{or-true, or-false}
use Rattle.std.proofs.lemmas.Bool.{lt-ltb, leb-true, le-leb}
use Rattle.std.proofs.lemmas.Bool.Decides.{nat_tests}
use Rattle.std.proofs.lemmas.List.{map-append}
use Rattle.std.proofs.lemmas.List.Folds.{list_any-append}
use Rattle.std.proofs.lemmas.Map.Keys.{sorted_head, sorted_tail}
use native.Mathlib.Decide.{ℕ_discrete}
use Rattle.wl_machine.specs.Least.{IsLeast, above}
use Rattle.wl_machine.specs.Standing.{is_in}
use Rattle.wl_machine.proofs.Covers.{less, alike, rising_more}
use Rattle.wl_machine.proofs.Least.{all_by_number, at_number, in_filter}
use Rattle.wl_machine.proofs.Lists.{and_first, and_second}
use Rattle.wl_machine.proofs.Untaken.{Distinct, without}
use Rattle.wl_manager.specs.Aborts.{Found, numbers_of, taken, AreInOrder}
use Rattle.wl_manager.specs.inner.Aborts.{aborted}

-- ---- lists of numbers

pub in_pushed : (xs : List ℕ) (id other : ℕ) → is_in other (xs ++ id ∷ []) ≡ (is_in other xs || (id == other))
in_pushed xs id other = list_any-append (λ n. n == other) xs (id ∷ [])
    ∙ ap (λ (b : Bool). is_in other xs || b) (or-false (id == other))

kept_whole : (id : ℕ) (xs : List ℕ) → is_in id xs ≡ false → filter (λ n. not (n == id)) xs ≡ xs
kept_whole id [] none = refl
kept_whole id (x ∷ xs) none = by (x == id) refl (kept_whole id xs)
  where
    by : (b : Bool) → (x == id) ≡ b → (is_in id xs ≡ false → filter (λ n. not (n == id)) xs ≡ xs)
        → cond (not b) (x ∷ filter (λ n. not (n == id)) xs) (filter (λ n. not (n == id)) xs) ≡ x ∷ xs
    by true is rest = absurd (let no : true ≡ false = rw is at none in cc)
    by false is rest = ap (λ (l : List ℕ). x ∷ l) (rest (rw is at none))

without_filter : (id : ℕ) (xs : List ℕ) → Distinct xs → without id xs ≡ filter (λ n. not (n == id)) xs
without_filter id [] apart = refl
without_filter id (x ∷ xs) apart = by (x == id) refl (without_filter id xs apart.1)
  where
    by : (b : Bool) → (x == id) ≡ b → without id xs ≡ filter (λ n. not (n == id)) xs
        → cond b xs (x ∷ without id xs) ≡ cond (not b) (x ∷ filter (λ n. not (n == id)) xs)
        (filter (λ n. not (n == id)) xs)
    by true is rest = sym (kept_whole id xs (subst (λ n. is_in n xs ≡ false) (alike x id is) apart.0))
    by false is rest = ap (λ (l : List ℕ). x ∷ l) rest

filter_pushed : (ts : List ℕ) (id : ℕ) (xs : List ℕ) → filter (λ n. not (n == id)) (filter (λ n. not (is_in n ts)) xs)
    ≡ filter (λ n. not (is_in n (ts ++ id ∷ []))) xs
filter_pushed ts id [] = refl
filter_pushed ts id (x ∷ xs) = rw (in_pushed ts id x) (by (is_in x ts) (ℕ_discrete x id) (filter_pushed ts id xs))
  where
    left : List ℕ
    left = filter (λ n. not (is_in n ts)) xs

    more : List ℕ
    more = filter (λ n. not (is_in n (ts ++ id ∷ []))) xs

    by : (b : Bool) → Dec (x ≡ id) → filter (λ n. not (n == id)) left ≡ more
        → filter (λ n. not (n == id)) (cond (not b) (x ∷ left) left) ≡ cond (not (b || (id == x))) (x ∷ more) more
    by true d rest = rest
    by false (yes same) rest = rw (eq-eqb x id same, eq-eqb id x (sym same)) rest
    by false (no other) rest = rw (ne_eqb x id other, ne_eqb id x (λ e. other (sym e)))
        (ap (λ (l : List ℕ). x ∷ l) rest)

-- a list without a number that was taken
pub left_without : (all ts : List ℕ) (id : ℕ) (left : List ℕ) → Distinct left
    → left ≡ filter (λ n. not (is_in n ts)) all → without id left ≡ filter (λ n. not (is_in n (ts ++ id ∷ []))) all
left_without all ts id left apart is = without_filter id left apart
    ∙ (ap (filter (λ n. not (n == id))) is ∙ filter_pushed ts id all)

length_without : (id : ℕ) (xs : List ℕ) → is_in id xs ≡ true → length (without id xs) + 1 ≡ length xs
length_without id [] has = absurd (cc)
length_without id (x ∷ xs) has = by (x == id) refl (length_without id xs)
  where
    by : (b : Bool) → (x == id) ≡ b → (is_in id xs ≡ true → length (without id xs) + 1 ≡ length xs)
        → length (cond b xs (x ∷ without id xs)) + 1 ≡ length (x ∷ xs)
    by true is rest = omega arith
    by false is rest = let less = rest (rw is at has) in omega (arith, less)

in_without : (id n : ℕ) (xs : List ℕ) → (id == n) ≡ false → is_in n (without id xs) ≡ is_in n xs
in_without id n [] other = refl
in_without id n (x ∷ xs) other = by (x == id) refl (in_without id n xs other)
  where
    by : (b : Bool) → (x == id) ≡ b → is_in n (without id xs) ≡ is_in n xs
        → is_in n (cond b xs (x ∷ without id xs)) ≡ ((x == n) || is_in n xs)
    by true is rest = rw (ap (λ (m : ℕ). m == n) (alike x id is) ∙ other) refl
    by false is rest = ap (λ (b : Bool). (x == n) || b) rest

-- ---- numbers that rise

-- the first is below the others
first_apart : (x : ℕ) (xs : List ℕ) (n : ℕ) → IsStrictlySortedBy nat_cmp (x ∷ xs) → is_in n xs ≡ true → (x == n) ≡ false
first_apart x xs n rising has =
    let low = less x n (at_number (λ m. nat_cmp x m ≡ Less) xs n (sorted_head nat_cmp x xs rising) has) in
    ne_eqb x n (λ e. absurd (omega (arith, e, low)))

pub none_rise : IsStrictlySortedBy nat_cmp []
unfolding IsStrictlySortedBy
none_rise = tt

pub rising_fewer : (xs ys : List ℕ) → IsStrictlySortedBy nat_cmp xs → ((n : ℕ) → is_in n xs ≡ true → is_in n ys ≡ true)
    → length xs ≤ length ys
rising_fewer [] ys rising all = omega arith
rising_fewer (x ∷ xs) ys rising all =
    let one = length_without x ys (all x (rw (eq-eqb x x refl) refl)) in
    let rest = rising_fewer xs (without x ys) (sorted_tail nat_cmp x xs rising)
    (λ n has. in_without x n ys (first_apart x xs n rising has) ∙ all n (rw has (or-true (x == n)))) in
    omega (arith, one, rest)

-- ---- what was found

-- a lock was found taken or not
in_found : (n : ℕ) (found : Found) → is_in n (numbers_of found) ≡ (is_in n (taken found) || is_in n (aborted found))
in_found n [] = refl
in_found n (lock ∷ found) = at_flag lock.1 (lock.0 == n) refl (in_found n found)
  where
    at_flag : (b s : Bool) → (lock.0 == n) ≡ s → is_in n (numbers_of found)
        ≡ (is_in n (taken found) || is_in n (aborted found))
        → ((lock.0 == n) || is_in n (numbers_of found))
        ≡ (is_in n (map (λ (l : ℕ × Bool). l.0) (cond b (lock ∷ filter (λ l. l.1) found) (filter (λ l. l.1) found)))
        || is_in n (map (λ (l : ℕ × Bool). l.0) (cond (not b) (lock ∷ filter (λ l. not l.1) found)
        (filter (λ l. not l.1) found))))
    at_flag true true same rest = rw same refl
    at_flag true false same rest = rw same rest
    at_flag false true same rest = rw same (sym (or-true (is_in n (taken found))))
    at_flag false false same rest = rw same rest

pub taken_found : (n : ℕ) (found : Found) → is_in n (taken found) ≡ true → is_in n (numbers_of found) ≡ true
taken_found n found has = in_found n found ∙ rw has refl

pub aborted_found : (n : ℕ) (found : Found) → is_in n (aborted found) ≡ true → is_in n (numbers_of found) ≡ true
aborted_found n found has = in_found n found ∙ rw has (or-true (is_in n (taken found)))

unless : (b : Bool) → (b ≡ true → ⊥) → b ≡ false
unless true never = absurd (never refl)
unless false never = refl

-- and not both
found_once : (n : ℕ) (found : Found) → IsStrictlySortedBy nat_cmp (numbers_of found) → is_in n (taken found) ≡ true
    → is_in n (aborted found) ≡ false
found_once n [] rising has = refl
found_once n (lock ∷ found) rising has = at_flag lock.1 (lock.0 == n) refl has
    (found_once n found (sorted_tail nat_cmp lock.0 (numbers_of found) rising))
  where
    differ : (lock.0 == n) ≡ true → is_in n (numbers_of found) ≡ true → ⊥
    differ same there = true≢false (sym same ∙ first_apart lock.0 (numbers_of found) n rising there)

    at_flag : (b s : Bool) → (lock.0 == n) ≡ s → is_in n (map (λ (l : ℕ × Bool). l.0)
        (cond b (lock ∷ filter (λ l. l.1) found) (filter (λ l. l.1) found))) ≡ true
        → (is_in n (taken found) ≡ true → is_in n (aborted found) ≡ false)
        → is_in n (map (λ (l : ℕ × Bool). l.0) (cond (not b) (lock ∷ filter (λ l. not l.1) found)
        (filter (λ l. not l.1) found))) ≡ false
    at_flag true true same has rest = unless (is_in n (aborted found))
        (λ there. differ same (aborted_found n found there))
    at_flag true false same has rest = rest (rw same at has)
    at_flag false true same has rest = absurd (differ same (taken_found n found has))
    at_flag false false same has rest = rw same (rest has)

-- without those that were taken, those that were aborted are left
pub aborted_left : (all : List ℕ) (found : Found) (n : ℕ) → AreInOrder (numbers_of found) all
    → is_in n (filter (λ id. not (is_in id (taken found))) all) ≡ is_in n (aborted found)
aborted_left all found n order =
    in_filter (λ id. not (is_in id (taken found))) all n ∙ (ap (λ (b : Bool). b && not (is_in n (taken found)))
    (sym (order.same n) ∙ in_found n found) ∙ at_taken (is_in n (taken found)) refl)
  where
    at_taken : (t : Bool) → is_in n (taken found) ≡ t → ((t || is_in n (aborted found)) && not t)
        ≡ is_in n (aborted found)
    at_taken true has = sym (found_once n found order.rising has)
    at_taken false none = at_aborted (is_in n (aborted found))
      where
        at_aborted : (b : Bool) → (b && true) ≡ b
        at_aborted true = refl
        at_aborted false = refl

-- ---- the next

-- the numbers up to one
abbrev pub up_to : ℕ → List ℕ → List ℕ
up_to after numbers = filter (λ n. nat_le n after) numbers

pub numbers_pushed : (found : Found) (id : ℕ) (b : Bool) → numbers_of (found ++ (id, b) ∷ [])
    ≡ numbers_of found ++ id ∷ []
numbers_pushed found id b = map-append (λ (lock : ℕ × Bool). lock.0) found ((id, b) ∷ [])

-- those up to a number were tried, and of all of them these are left
module _ (all left : List ℕ) (found : Found) (after : ℕ) (order : AreInOrder (numbers_of found) (up_to after all))
    (is_left : left ≡ filter (λ id. not (is_in id (taken found))) all) where
  found_low : (n : ℕ) → is_in n (numbers_of found) ≡ true → n ≤ after
  found_low n has = leb-true n after (and_second (is_in n all) (nat_le n after)
      (sym (in_filter (λ m. nat_le m after) all n) ∙ (sym (order.same n) ∙ has)))

  in_left : (n : ℕ) → is_in n left ≡ (is_in n all && not (is_in n (taken found)))
  in_left n = ap (is_in n) is_left ∙ in_filter (λ id. not (is_in id (taken found))) all n

  -- one above it is left to try
  untried_left : (n : ℕ) → is_in n all ≡ true → after < n → is_in n (above after left) ≡ true
  untried_left n has high =
      let out : is_in n (taken found) ≡ false = unless (is_in n (taken found))
      (λ there. let low = found_low n (taken_found n found there) in omega (arith, low, high)) in
      in_filter (λ m. nat_lt after m) left n ∙ rw (in_left n, has, out, lt-ltb after n high) refl

  pub none_untried : IsLeast (above after left) None → AreInOrder (numbers_of found) all
  none_untried none = record {
    rising = order.rising;
    same = λ n. order.same n
        ∙ (in_filter (λ m. nat_le m after) all n ∙ at_number_of n (is_in n all) refl (nat_le n after) refl);
  }
    where
      at_number_of : (n : ℕ) (b : Bool) → is_in n all ≡ b → (l : Bool) → nat_le n after ≡ l → (b && l) ≡ b
      at_number_of n false has l low = refl
      at_number_of n true has true low = refl
      at_number_of n true has false high =
          absurd (true≢false (sym (untried_left n has (grind (arith, nat_tests, high))) ∙ ap (is_in n) none))

  module _ (id : ℕ) (least : IsLeast (above after left) (Some id)) where
    there : (is_in id left && nat_lt after id) ≡ true
    there = sym (in_filter (λ m. nat_lt after m) left id) ∙ least.0

    pub next_left : is_in id left ≡ true
    next_left = and_first (is_in id left) (nat_lt after id) there

    pub next_high : after < id
    next_high = let is = and_second (is_in id left) (nat_lt after id) there in grind (arith, nat_tests, is)

    next_one : is_in id all ≡ true
    next_one = and_first (is_in id all) (not (is_in id (taken found))) (sym (in_left id) ∙ next_left)

    pub next_fresh : is_in id (aborted found) ≡ false
    next_fresh = unless (is_in id (aborted found)) (λ has. let low = found_low id (aborted_found id found has)
        in let high = next_high in omega (arith, low, high))

    next_same : (n : ℕ) → (is_in n (numbers_of found) || (id == n)) ≡ is_in n (up_to id all)
    next_same n = ap (λ (b : Bool). b || (id == n)) (order.same n ∙ in_filter (λ m. nat_le m after) all n)
        ∙ (at_id (ℕ_discrete id n) ∙ sym (in_filter (λ m. nat_le m id) all n))
      where
        at_id : Dec (id ≡ n) → ((is_in n all && nat_le n after) || (id == n)) ≡ (is_in n all && nat_le n id)
        at_id (yes same) = rw (
          eq-eqb id n same,
          sym (ap (λ m. is_in m all) same)
              ∙ next_one,
          le-leb n id (omega (arith, same)),
        ) (or-true (nat_le n after))
        at_id (no other) = rw (ne_eqb id n other) (at_all (is_in n all) refl)
          where
            at_low : is_in n all ≡ true → (l : Bool) → nat_le n after ≡ l → (m : Bool) → nat_le n id ≡ m
                → (l || false) ≡ m
            at_low has true low true is = refl
            at_low has true low false is = absurd (let high = next_high in grind (arith, nat_tests, low, is, high))
            at_low has false low false is = refl
            at_low has false low true is =
                let more = at_number (λ m. id ≤ m) (above after left) n least.1
                (untried_left n has (grind (arith, nat_tests, low))) in
                absurd (other (let most = leb-true n id is in omega (arith, more, most)))

            at_all : (b : Bool) → is_in n all ≡ b → ((b && nat_le n after) || false) ≡ (b && nat_le n id)
            at_all false has = refl
            at_all true has = at_low has (nat_le n after) refl (nat_le n id) refl

    pub next_order : (b : Bool) → AreInOrder (numbers_of (found ++ (id, b) ∷ [])) (up_to id all)
    next_order b = record {
      rising = subst (IsStrictlySortedBy nat_cmp) (sym (numbers_pushed found id b))
          (rising_more (numbers_of found) id order.rising (all_by_number (λ n. n < id) (numbers_of found)
          (λ n has. let low = found_low n has in let high = next_high in omega (arith, low, high))));
      same = λ n. ap (is_in n) (numbers_pushed found id b) ∙ (in_pushed (numbers_of found) id n ∙ next_same n);
    }
