-- Entries put in the order of their numbers find what they found before, and are told by what they find.
use Rattle.std.proofs.Common.{◌≡◌, ℕ, suc, ◌==◌, Bool, true, false, cond, List, [], ◌∷◌, length, refl, sym, ap, ◌∙◌}
use Rattle.std.proofs.Common.{arith, eq-eqb, subst}
use Rattle.std.specs.Prelude.{Some, None, Option, is_some, ◌&&◌}
use Rattle.std.specs.BTreeMap.{insert_entry, is_at}
use Rattle.std.specs.List.{AllByRecursion, IsDistinct}
use Rattle.std.specs.List.Sorted.{IsStrictlySortedBy}
use Rattle.std.specs.Map.{keys_of, lookup, set_value, remove_entry}
use Rattle.std.specs.Ordering.{nat_cmp, match_ordering}
use Rattle.std.specs.declared.cmp.Ordering.{Ordering}
use Rattle.std.specs.declared.cmp.Ordering.TheVariants.{Less, Equal, Greater}
use Rattle.std.proofs.lemmas.Bool.Decides.{nat_tests}
use Rattle.std.proofs.lemmas.Map.{keys-set_value, lookup-none, NonePasses}
use Rattle.std.proofs.lemmas.Map.Keys.{sorted_head, sorted_tail, IsDistinct-head, IsDistinct-tail}
use Rattle.std.proofs.lemmas.Option.{none-some}
use Rattle.std.specs.Option.{unwrap_or}
use Rattle.wl_number_map.specs.inner.NumberMap.{in_order}

sorted_nil : IsStrictlySortedBy nat_cmp []
unfolding IsStrictlySortedBy
sorted_nil = tt

sorted_cons : (k : ℕ) (ks : List ℕ) → AllByRecursion (λ y. nat_cmp k y ≡ Less) ks → IsStrictlySortedBy nat_cmp ks
    → IsStrictlySortedBy nat_cmp (k ∷ ks)
unfolding IsStrictlySortedBy
sorted_cons k ks above rest = (above, rest)

pub number_test : (n k : ℕ) → is_at (nat_cmp n) k ≡ (n == k)
number_test n k = grind (arith, nat_tests)

-- a test of numbers is by their equality
pub same_test : (n : ℕ) → is_at (nat_cmp n) ≡ (λ k. n == k)
same_test n = λ i k. number_test n k i

-- of two choices that aren't made at once, either may come first
turned : {Y : Type 0} (a b : Bool) (x y z : Y) → (a ≡ true → b ≡ false) → cond a x (cond b y z) ≡ cond b y (cond a x z)
turned true true x y z apart = absurd (let wrong : true ≡ false = apart refl in cc)
turned true false x y z apart = refl
turned false b x y z apart = refl

all_lower : (a b : ℕ) → nat_cmp a b ≡ Less → (ks : List ℕ) → AllByRecursion (λ y. nat_cmp b y ≡ Less) ks
    → AllByRecursion (λ y. nat_cmp a y ≡ Less) ks
all_lower a b less [] all = tt
all_lower a b less (y ∷ ks) all = (grind (arith, nat_tests, less, all.0), all_lower a b less ks all.1)

module _ {X : Type 0} where
  -- what is found once a value is put at a number
  pub lookup_inserted : (es : List (ℕ × X)) (k : ℕ) (v : X) (q : ℕ)
      → lookup (is_at (nat_cmp q)) (insert_entry nat_cmp es k v)
      ≡ cond (q == k) (Some v) (lookup (is_at (nat_cmp q)) es)
  lookup_inserted [] k v q = rw (number_test q k) refl
  lookup_inserted (e ∷ es) k v q = by (nat_cmp k e.0) refl (lookup_inserted es k v q)
    where
      by : (r : Ordering) → nat_cmp k e.0 ≡ r → lookup (is_at (nat_cmp q)) (insert_entry nat_cmp es k v)
          ≡ cond (q == k) (Some v) (lookup (is_at (nat_cmp q)) es)
          → lookup (is_at (nat_cmp q)) (match_ordering r ((k, v) ∷ e ∷ es) ((e.0, v) ∷ es)
          (e ∷ insert_entry nat_cmp es k v)) ≡ cond (q == k) (Some v) (lookup (is_at (nat_cmp q)) (e ∷ es))
      by Less h rest = rw (number_test q k) refl
      by Equal h rest = let same : k ≡ e.0 = grind (arith, nat_tests, h)
          in rw (number_test q e.0, same) (two (q == e.0))
        where
          two : (b : Bool) → cond b (Some v) (lookup (is_at (nat_cmp q)) es)
              ≡ cond b (Some v) (cond b (Some e.1) (lookup (is_at (nat_cmp q)) es))
          two true = refl
          two false = refl
      by Greater h rest = rw (number_test q e.0, rest) (turned (q == e.0) (q == k) (Some e.1) (Some v) _
          (grind (arith, nat_tests, h)))

  keys_inserted : (P : ℕ → Type 0) (es : List (ℕ × X)) (k : ℕ) (v : X) → P k → AllByRecursion P (keys_of es)
      → AllByRecursion P (keys_of (insert_entry nat_cmp es k v))
  keys_inserted P [] k v p all = (p, tt)
  keys_inserted P (e ∷ es) k v p all = by (nat_cmp k e.0) (keys_inserted P es k v p all.1)
    where
      by : (r : Ordering) → AllByRecursion P (keys_of (insert_entry nat_cmp es k v))
          → AllByRecursion P (keys_of (match_ordering r ((k, v) ∷ e ∷ es) ((e.0, v) ∷ es)
          (e ∷ insert_entry nat_cmp es k v)))
      by Less rest = (p, all)
      by Equal rest = all
      by Greater rest = (all.0, rest)

  -- an order of numbers stays
  pub sorted_inserted : (es : List (ℕ × X)) (k : ℕ) (v : X) → IsStrictlySortedBy nat_cmp (keys_of es)
      → IsStrictlySortedBy nat_cmp (keys_of (insert_entry nat_cmp es k v))
  sorted_inserted [] k v sorted = sorted_cons k [] tt sorted
  sorted_inserted (e ∷ es) k v sorted = by (nat_cmp k e.0) refl (sorted_inserted es k v rises)
    where
      rises : IsStrictlySortedBy nat_cmp (keys_of es)
      rises = sorted_tail nat_cmp e.0 (keys_of es) sorted

      above : AllByRecursion (λ y. nat_cmp e.0 y ≡ Less) (keys_of es)
      above = sorted_head nat_cmp e.0 (keys_of es) sorted

      by : (r : Ordering) → nat_cmp k e.0 ≡ r → IsStrictlySortedBy nat_cmp (keys_of (insert_entry nat_cmp es k v))
          → IsStrictlySortedBy nat_cmp (keys_of (match_ordering r ((k, v) ∷ e ∷ es) ((e.0, v) ∷ es)
          (e ∷ insert_entry nat_cmp es k v)))
      by Less h rest = sorted_cons k (keys_of (e ∷ es)) (h, all_lower k e.0 h (keys_of es) above) sorted
      by Equal h rest = sorted
      by Greater h rest = sorted_cons e.0 (keys_of (insert_entry nat_cmp es k v))
          (keys_inserted (λ y. nat_cmp e.0 y ≡ Less) es k v (grind (arith, nat_tests, h)) above) rest

  pub in_order_sorted : (es : List (ℕ × X)) → IsStrictlySortedBy nat_cmp (keys_of (in_order es))
  in_order_sorted [] = sorted_nil
  in_order_sorted (e ∷ es) = sorted_inserted (in_order es) e.0 e.1 (in_order_sorted es)

  -- an order changes nothing of what is found
  pub lookup_in_order : (es : List (ℕ × X)) (q : ℕ) → lookup (is_at (nat_cmp q)) (in_order es) ≡ lookup (λ k. q == k) es
  lookup_in_order [] q = refl
  lookup_in_order (e ∷ es) q = lookup_inserted (in_order es) e.0 e.1 q
      ∙ ap (cond (q == e.0) (Some e.1)) (lookup_in_order es q)

  -- nothing stands at a number below all
  none_below : (q : ℕ) (es : List (ℕ × X)) → AllByRecursion (λ y. nat_cmp q y ≡ Less) (keys_of es)
      → lookup (is_at (nat_cmp q)) es ≡ None
  none_below q [] above = refl
  none_below q (e ∷ es) above = let apart : (q == e.0) ≡ false = grind (arith, nat_tests, above.0)
      in rw (number_test q e.0, apart) (none_below q es above.1)

  -- entries in order are told by what they find
  pub same_entries : (es fs : List (ℕ × X)) → IsStrictlySortedBy nat_cmp (keys_of es)
      → IsStrictlySortedBy nat_cmp (keys_of fs) → ((q : ℕ) → lookup (is_at (nat_cmp q)) es
      ≡ lookup (is_at (nat_cmp q)) fs) → es ≡ fs
  same_entries [] [] s t same = refl
  same_entries [] (f ∷ fs) s t same = absurd (none-some f.1
      (same f.0 ∙ rw (number_test f.0 f.0, eq-eqb f.0 f.0 refl) refl))
  same_entries (e ∷ es) [] s t same = absurd (none-some e.1
      (sym (same e.0) ∙ rw (number_test e.0 e.0, eq-eqb e.0 e.0 refl) refl))
  same_entries (e ∷ es) (f ∷ fs) s t same = by (nat_cmp e.0 f.0) refl (same_entries es fs)
    where
      above : AllByRecursion (λ y. nat_cmp e.0 y ≡ Less) (keys_of es)
      above = sorted_head nat_cmp e.0 (keys_of es) s

      over : AllByRecursion (λ y. nat_cmp f.0 y ≡ Less) (keys_of fs)
      over = sorted_head nat_cmp f.0 (keys_of fs) t

      mine : lookup (is_at (nat_cmp e.0)) (e ∷ es) ≡ Some e.1
      mine = rw (number_test e.0 e.0, eq-eqb e.0 e.0 refl) refl

      yours : lookup (is_at (nat_cmp f.0)) (f ∷ fs) ≡ Some f.1
      yours = rw (number_test f.0 f.0, eq-eqb f.0 f.0 refl) refl

      tails : e.0 ≡ f.0 → (q : ℕ) → lookup (is_at (nat_cmp q)) es ≡ lookup (is_at (nat_cmp q)) fs
      tails is q = at_number (q == e.0) refl
        where
          at_number : (b : Bool) → (q == e.0) ≡ b → lookup (is_at (nat_cmp q)) es ≡ lookup (is_at (nat_cmp q)) fs
          at_number true h = let at : q ≡ e.0 = grind (arith, nat_tests, h)
              in rw (at) (none_below e.0 es above ∙ sym (rw is (none_below f.0 fs over)))
          at_number false h = let other : (q == f.0) ≡ false = rw is at h
              in rw (number_test q e.0, number_test q f.0, h, other) at (same q)

      by : (r : Ordering) → nat_cmp e.0 f.0 ≡ r → (IsStrictlySortedBy nat_cmp (keys_of es)
          → IsStrictlySortedBy nat_cmp (keys_of fs) → ((q : ℕ)
          → lookup (is_at (nat_cmp q)) es ≡ lookup (is_at (nat_cmp q)) fs) → es ≡ fs) → e ∷ es ≡ f ∷ fs
      by Less h rest = absurd (none-some e.1 (sym (none_below e.0 (f ∷ fs) (h, all_lower e.0 f.0 h (keys_of fs) over))
          ∙ (sym (same e.0) ∙ mine)))
      by Greater h rest = let less : nat_cmp f.0 e.0 ≡ Less = grind (arith, nat_tests, h)
          in absurd (none-some f.1 (sym (none_below f.0 (e ∷ es) (less, all_lower f.0 e.0 less (keys_of es) above))
          ∙ (same f.0 ∙ yours)))
      by Equal h rest =
          let is : e.0 ≡ f.0 = grind (arith, nat_tests, h) in
          let there : lookup (is_at (nat_cmp e.0)) (f ∷ fs)
          ≡ Some f.1 = ap (λ q. lookup (is_at (nat_cmp q)) (f ∷ fs)) is ∙ yours in
          let value : e.1 ≡ f.1 = ap (λ o. unwrap_or o e.1) (sym mine ∙ (same e.0 ∙ there)) in
          λ i. (is i, value i) ∷ rest (sorted_tail nat_cmp e.0 (keys_of es) s) (sorted_tail nat_cmp f.0 (keys_of fs) t)
          (tails is) i

  lookup_written : (n : ℕ) (w : X) (q : ℕ) (es : List (ℕ × X))
      → lookup (λ k. q == k) (set_value (λ k. n == k) es w)
      ≡ cond (n == q && is_some (lookup (λ k. n == k) es)) (Some w)
      (lookup (λ k. q == k) es)
  lookup_written n w q [] = none (n == q)
    where
      none : (b : Bool) → None ≡ cond (b && false) (Some w) None
      none true = refl
      none false = refl
  lookup_written n w q (e ∷ es) = by (n == e.0) refl (lookup_written n w q es)
    where
      by : (b : Bool) → (n == e.0) ≡ b → lookup (λ k. q == k) (set_value (λ k. n == k) es w)
          ≡ cond (n == q && is_some (lookup (λ k. n == k) es)) (Some w) (lookup (λ k. q == k) es)
          → lookup (λ k. q == k) (cond b ((e.0, w) ∷ es) (e ∷ set_value (λ k. n == k) es w))
          ≡ cond (n == q && is_some (cond b (Some e.1) (lookup (λ k. n == k) es))) (Some w)
          (lookup (λ k. q == k) (e ∷ es))
      by true h rest = let same : (n == q) ≡ (q == e.0) = grind (arith, nat_tests, h)
          in rw same (there (q == e.0) (lookup (λ k. q == k) es))
        where
          there : (b : Bool) (o : Option X) → cond b (Some w) o ≡ cond (b && true) (Some w) (cond b (Some e.1) o)
          there true o = refl
          there false o = refl
      by false h rest = rw rest (turned (q == e.0) (n == q && is_some (lookup (λ k. n == k) es)) (Some e.1) (Some w) _
          (λ at. let apart : (n == q) ≡ false = grind (arith, nat_tests, h, at) in rw apart refl))

  -- a value that takes another's place takes it in the order
  pub in_order-set_value : (n : ℕ) (w : X) (es : List (ℕ × X))
      → in_order (set_value (λ k. n == k) es w) ≡ set_value (is_at (nat_cmp n)) (in_order es) w
  in_order-set_value n w es = same_entries _ _ (in_order_sorted (set_value (λ k. n == k) es w))
      (subst (IsStrictlySortedBy nat_cmp) (sym (keys-set_value (is_at (nat_cmp n)) (in_order es) w))
      (in_order_sorted es))
      each
    where
      at_both : (q : ℕ) → lookup (λ k. q == k) (set_value (λ k. n == k) es w)
          ≡ lookup (λ k. q == k) (set_value (λ k. n == k) (in_order es) w)
      at_both q =
          let mine = lookup_written n w q es in
          let ordered = lookup_written n w q (in_order es) in
          let one = ap (λ t. lookup t (in_order es)) (sym (same_test n)) ∙ lookup_in_order es n in
          let two = ap (λ t. lookup t (in_order es)) (sym (same_test q)) ∙ lookup_in_order es q in
          mine ∙ sym (ordered ∙ (λ i. cond (n == q && is_some (one i)) (Some w) (two i)))

      each : (q : ℕ) → lookup (is_at (nat_cmp q)) (in_order (set_value (λ k. n == k) es w))
          ≡ lookup (is_at (nat_cmp q)) (set_value (is_at (nat_cmp n)) (in_order es) w)
      each q = lookup_in_order (set_value (λ k. n == k) es w) q
          ∙ (at_both q ∙ (λ i. lookup (sym (same_test q) i) (set_value (sym (same_test n) i) (in_order es) w)))

  -- what stands in order once a map has another value at a number, or one more
  pub in_order-inserted : (es fs : List (ℕ × X)) (n : ℕ) (w : X)
      → ((q : ℕ) → lookup (λ k. q == k) fs ≡ cond (n == q) (Some w) (lookup (λ k. q == k) es))
      → in_order fs ≡ insert_entry nat_cmp (in_order es) n w
  in_order-inserted es fs n w now = same_entries (in_order fs) (insert_entry nat_cmp (in_order es) n w)
      (in_order_sorted fs) (sorted_inserted (in_order es) n w (in_order_sorted es))
      (λ q. lookup_in_order fs q ∙ (now q ∙ (at_number q ∙ sym (lookup_inserted (in_order es) n w q))))
    where
      at_number : (q : ℕ) → cond (n == q) (Some w) (lookup (λ k. q == k) es)
          ≡ cond (q == n) (Some w) (lookup (is_at (nat_cmp q)) (in_order es))
      at_number q = let back : (n == q) ≡ (q == n) = grind (arith, nat_tests) in rw (back, lookup_in_order es q) refl

  pub keys_removed : (P : ℕ → Type 0) (t : ℕ → Bool) (es : List (ℕ × X)) → AllByRecursion P (keys_of es)
      → AllByRecursion P (keys_of (remove_entry t es))
  keys_removed P t [] all = tt
  keys_removed P t (e ∷ es) all = by (t e.0) (keys_removed P t es all.1)
    where
      by : (b : Bool) → AllByRecursion P (keys_of (remove_entry t es))
          → AllByRecursion P (keys_of (cond b es (e ∷ remove_entry t es)))
      by true rest = all.1
      by false rest = (all.0, rest)

  sorted_removed : (t : ℕ → Bool) (es : List (ℕ × X)) → IsStrictlySortedBy nat_cmp (keys_of es)
      → IsStrictlySortedBy nat_cmp (keys_of (remove_entry t es))
  sorted_removed t [] sorted = sorted
  sorted_removed t (e ∷ es) sorted = by (t e.0) (sorted_removed t es rises)
    where
      rises : IsStrictlySortedBy nat_cmp (keys_of es)
      rises = sorted_tail nat_cmp e.0 (keys_of es) sorted

      by : (b : Bool) → IsStrictlySortedBy nat_cmp (keys_of (remove_entry t es))
          → IsStrictlySortedBy nat_cmp (keys_of (cond b es (e ∷ remove_entry t es)))
      by true rest = rises
      by false rest = sorted_cons e.0 (keys_of (remove_entry t es))
          (keys_removed (λ y. nat_cmp e.0 y ≡ Less) t es (sorted_head nat_cmp e.0 (keys_of es) sorted)) rest

  lookup_removed : (n q : ℕ) (es : List (ℕ × X)) → IsStrictlySortedBy nat_cmp (keys_of es)
      → lookup (is_at (nat_cmp q)) (remove_entry (is_at (nat_cmp n)) es)
      ≡ cond (n == q) None (lookup (is_at (nat_cmp q)) es)
  lookup_removed n q [] sorted = none (n == q)
    where
      none : (b : Bool) → lookup (is_at (nat_cmp q)) [] ≡ cond b None (lookup {X = X} (is_at (nat_cmp q)) [])
      none true = refl
      none false = refl
  lookup_removed n q (e ∷ es) sorted = by (n == e.0) refl (lookup_removed n q es
      (sorted_tail nat_cmp e.0 (keys_of es) sorted))
    where
      by : (b : Bool) → (n == e.0) ≡ b → lookup (is_at (nat_cmp q)) (remove_entry (is_at (nat_cmp n)) es)
          ≡ cond (n == q) None (lookup (is_at (nat_cmp q)) es)
          → lookup (is_at (nat_cmp q)) (cond (is_at (nat_cmp n) e.0) es (e ∷ remove_entry (is_at (nat_cmp n)) es))
          ≡ cond (n == q) None (lookup (is_at (nat_cmp q)) (e ∷ es))
      by true h rest = let same : (n == q) ≡ (q == e.0) = grind (arith, nat_tests, h)
          in rw (number_test n e.0, h, same, number_test q e.0) (there (q == e.0) refl)
        where
          there : (b : Bool) → (q == e.0) ≡ b → lookup (is_at (nat_cmp q)) es
              ≡ cond b None (cond b (Some e.1) (lookup (is_at (nat_cmp q)) es))
          there true at = let is : q ≡ e.0 = grind (arith, nat_tests, at)
              in rw is (none_below e.0 es (sorted_head nat_cmp e.0 (keys_of es) sorted))
          there false at = refl
      by false h rest = rw (number_test n e.0, h, number_test q e.0, rest)
          (turned (q == e.0) (n == q) (Some e.1) None _ (λ at. grind (arith, nat_tests, h, at)))

  -- and once a number is out of it
  pub in_order-removed : (es fs : List (ℕ × X)) (n : ℕ) → ((q : ℕ)
      → lookup (λ k. q == k) fs ≡ cond (n == q) None (lookup (λ k. q == k) es))
      → in_order fs ≡ remove_entry (is_at (nat_cmp n)) (in_order es)
  in_order-removed es fs n now = same_entries (in_order fs) (remove_entry (is_at (nat_cmp n)) (in_order es))
      (in_order_sorted fs) (sorted_removed (is_at (nat_cmp n)) (in_order es) (in_order_sorted es))
      (λ q. lookup_in_order fs q ∙ (now q ∙ (ap (cond (n == q) None) (sym (lookup_in_order es q))
      ∙ sym (lookup_removed n q (in_order es) (in_order_sorted es)))))

  length_inserted : (es : List (ℕ × X)) (n : ℕ) (w : X) → lookup (is_at (nat_cmp n)) es ≡ None
      → length (insert_entry nat_cmp es n w) ≡ suc (length es)
  length_inserted [] n w new = refl
  length_inserted (e ∷ es) n w new = by (nat_cmp n e.0) refl (length_inserted es n w)
    where
      by : (r : Ordering) → nat_cmp n e.0 ≡ r → (lookup (is_at (nat_cmp n)) es ≡ None
          → length (insert_entry nat_cmp es n w) ≡ suc (length es))
          → length (match_ordering r ((n, w) ∷ e ∷ es) ((e.0, w) ∷ es) (e ∷ insert_entry nat_cmp es n w))
          ≡ suc (suc (length es))
      by Less h rest = refl
      by Equal h rest = let same : (n == e.0) ≡ true = grind (arith, nat_tests, h)
          in absurd (none-some e.1 (sym (rw (number_test n e.0, same) at new)))
      by Greater h rest = let apart : (n == e.0) ≡ false = grind (arith, nat_tests, h)
          in ap suc (rest (rw (number_test n e.0, apart) at new))

  -- nothing is lost: there are as many, where no two have one number
  pub length_in_order : (es : List (ℕ × X)) → IsDistinct (λ a b. a == b) (keys_of es) → length (in_order es) ≡ length es
  length_in_order [] distinct = refl
  length_in_order (e ∷ es) distinct =
      let new : lookup (is_at (nat_cmp e.0)) (in_order es) ≡ None = lookup_in_order es e.0
      ∙ lookup-none (λ k. e.0 == k) es (none_among es (IsDistinct-head (λ a b. a == b) e.0 (keys_of es) distinct)) in
      length_inserted (in_order es) e.0 e.1 new ∙ ap suc (length_in_order es
      (IsDistinct-tail (λ a b. a == b) e.0 (keys_of es) distinct))
    where
      none_among : (fs : List (ℕ × X)) → AllByRecursion (λ k. (e.0 == k) ≡ false) (keys_of fs)
          → NonePasses (λ k. e.0 == k) fs
      none_among [] all = tt
      none_among (f ∷ fs) all = (all.0, none_among fs all.1)

  -- what is found once a value takes another's place
  pub found_written : (n : ℕ) (w : X) (es : List (ℕ × X)) → is_some (lookup (is_at (nat_cmp n)) (in_order es)) ≡ true
      → (q : ℕ)
      → lookup (is_at (nat_cmp q)) (in_order (set_value (λ k. n == k) es w))
      ≡ cond (is_at (nat_cmp n) q) (Some w) (lookup (is_at (nat_cmp q)) (in_order es))
  found_written n w es there q =
      let is : is_some (lookup (λ k. n == k) es) ≡ true = sym (ap is_some (lookup_in_order es n)) ∙ there in
      lookup_in_order (set_value (λ k. n == k) es w) q ∙ (lookup_written n w q es
      ∙ rw (number_test n q, is, lookup_in_order es q) (both (n == q) (lookup (λ k. q == k) es)))
    where
      both : (b : Bool) (o : Option X) → cond (b && true) (Some w) o ≡ cond b (Some w) o
      both true o = refl
      both false o = refl

  -- what is found is what was put there or taken out, and elsewhere what was
  pub found_now : (es fs : List (ℕ × X)) (n : ℕ) (o : Option X)
      → ((q : ℕ) → lookup (λ k. q == k) fs ≡ cond (n == q) o (lookup (λ k. q == k) es)) → (q : ℕ)
      → lookup (is_at (nat_cmp q)) (in_order fs) ≡ cond (is_at (nat_cmp n) q) o
      (lookup (is_at (nat_cmp q)) (in_order es))
  found_now es fs n o now q = lookup_in_order fs q ∙ (now q ∙ rw (number_test n q, lookup_in_order es q) refl)
