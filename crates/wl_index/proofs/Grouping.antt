-- The lists by which requests are found: cleaned, one number longer, and written in their maps.
use Rattle.std.proofs.Common.{◌≡◌, ℕ, ◌<◌, ◌-◌, ◌==◌, Bool, true, false, cond, nat_lt, suc, List, [], ◌∷◌, ◌++◌, length}
use Rattle.std.proofs.Common.{refl, ap, subst, sym, arith}
use Rattle.std.specs.Prelude.{Option, Some, None, filter, slice_get}
use Rattle.std.specs.Option.{unwrap_or}
use Rattle.std.specs.List.{AllByRecursion, Contains}
use Rattle.std.specs.List.Sorted.{IsStrictlySortedBy}
use Rattle.std.specs.BTreeMap.{is_at}
use Rattle.std.specs.Ordering.{nat_cmp}
use Rattle.std.proofs.lemmas.Bool.Decides.{nat_tests}
use Rattle.wl_machine.proofs.Covers.{alike, less, rising_filter, rising_more}
use Rattle.wl_index.specs.inner.Lists.{at, list_at, numbers_on, IsRising, KeepsLive}
use Rattle.wl_index.specs.inner.Rows.{Entry}
use Rattle.std.specs.declared.vec.Vec.{Vec}
use Rattle.wl_number_map.proofs.Keyed.{same_number}
use Rattle.wl_index.proofs.Lists.{all_weaker, filter_passed, filter_whole}

-- ---- one list

-- numbers that rise are below what the last is below
pub below_last : (l : List ℕ) (last n : ℕ) → IsStrictlySortedBy nat_cmp l → slice_get l (length l - 1) ≡ Some last
    → last < n → AllByRecursion (λ x. x < n) l
unfolding IsStrictlySortedBy
below_last [] last n s is lt = tt
below_last (x ∷ []) last n s is lt = let same : x ≡ last = ap (λ o. unwrap_or o x) is in (omega (arith, same, lt), tt)
below_last (x ∷ y ∷ l) last n s is lt =
    let next : length (x ∷ y ∷ l) - 1 ≡ suc (length (y ∷ l) - 1) = omega arith in
    let rest = below_last (y ∷ l) last n s.1 (subst (λ k. slice_get (x ∷ y ∷ l) k ≡ Some last) next is) lt in
    let lower = less x y s.0.0 in
    let low = rest.0 in
    (omega (arith, lower, low), rest)

pub none_trimmed : (l : List ℕ) (n : ℕ) → AllByRecursion (λ x. x < n) l → filter (λ x. nat_lt x n) l ≡ l
none_trimmed l n all = filter_whole (λ x. nat_lt x n) l (all_weaker (λ x. x < n) (λ x. nat_lt x n ≡ true) l
    (λ x lt. grind (arith, nat_tests, lt)) all)

pub is_lower : (x n : ℕ) → x < n → nat_lt x n ≡ true
is_lower x n lt = grind (arith, nat_tests, lt)

-- a list without what is at a number or above, and then with it
pub trimmed_rises : (l : List ℕ) (n : ℕ) → IsStrictlySortedBy nat_cmp l
    → IsStrictlySortedBy nat_cmp (filter (λ x. nat_lt x n) l)
trimmed_rises l n s = rising_filter (λ x. nat_lt x n) l s

pub longer_rises : (l : List ℕ) (n : ℕ) → IsStrictlySortedBy nat_cmp l
    → IsStrictlySortedBy nat_cmp (filter (λ x. nat_lt x n) l ++ n ∷ [])
longer_rises l n s = rising_more (filter (λ x. nat_lt x n) l) n (trimmed_rises l n s)
    (all_weaker (λ x. nat_lt x n ≡ true) (λ x. x < n) (filter (λ x. nat_lt x n) l) (λ x h. grind (arith, nat_tests, h))
    (filter_passed (λ x. nat_lt x n) l))

-- ---- what stands in a map of which one place was written

pub with_updated : {X : Type 0} (P : ℕ → Option X → Type 0) (k : ℕ) (w : Option X) (old new : List (ℕ × X))
    → ((q : ℕ) → at q new ≡ cond (is_at (nat_cmp k) q) w (at q old)) → P k w → ((q : ℕ) → P q (at q old)) → (q : ℕ)
    → P q (at q new)
with_updated {X} P k w old new is here others q = subst (P q) (sym (is q)) (by (q == k) refl)
  where
    by : (b : Bool) → (q == k) ≡ b → P q (cond (is_at (nat_cmp k) q) w (at q old))
    by true h = rw (same_number k q, h) (subst (λ n. P n w) (sym (alike q k h)) here)
    by false h = rw (same_number k q, h) (others q)

-- one list was written, and keeps what is live
pub one_list : {Z : Type 0} (live : List Entry) (k : ℕ) (was list : Vec ℕ Z) (old new : List (ℕ × Vec ℕ Z))
    → at k old ≡ Some was → ((q : ℕ) → at q new ≡ cond (is_at (nat_cmp k) q) (Some list) (at q old))
    → IsStrictlySortedBy nat_cmp list.items → KeepsLive live was.items list.items
    → ((q : ℕ) → IsStrictlySortedBy nat_cmp (list_at q old))
    → ((q : ℕ) → IsStrictlySortedBy nat_cmp (list_at q new))
    × ((q : ℕ) → KeepsLive live (list_at q old) (list_at q new))
one_list live k was list old new there is rises keeps rising = (
  with_updated (λ q o. IsStrictlySortedBy nat_cmp (numbers_on o)) k (Some list) old new is rises rising,
  with_updated (λ q o. KeepsLive live (list_at q old) (numbers_on o)) k (Some list) old new is
      (λ n live has. keeps n live (subst (λ o. Contains (numbers_on o) n) there has)) (λ q n live has. has),
)

-- ---- no lists

pub no_group_rises : IsRising None
unfolding IsStrictlySortedBy
no_group_rises = record { own = tt; signed = λ s. tt }
