-- Entries with numbers that rise: a removal, one more, and one written.
use Rattle.std.proofs.Common.{◌≡◌, ℕ, ◌<◌, ◌==◌, Bool, true, false, cond, List, [], ◌∷◌, ◌++◌, refl, sym, ap, ◌∙◌}
use Rattle.std.proofs.Common.{arith}
use Rattle.std.specs.Prelude.{filter, not, Some}
use Rattle.std.specs.Option.{unwrap_or}
use Rattle.std.specs.List.{AllByRecursion}
use Rattle.std.specs.List.Sorted.{IsStrictlySortedBy}
use Rattle.std.specs.Map.{keys_of, lookup, set_value, remove_entry}
use Rattle.std.specs.BTreeMap.{insert_entry, is_at}
use Rattle.std.specs.Ordering.{nat_cmp}
use Rattle.std.specs.Cmp.{nat_cmp_is}
use Rattle.std.specs.declared.cmp.Ordering.TheVariants.{Less, Greater}
use Rattle.std.proofs.lemmas.Bool.Decides.{nat_tests}
use Rattle.std.proofs.lemmas.Map.Keys.{sorted_head, sorted_tail}
use Rattle.std.proofs.lemmas.Option.{none-some}

pub same_number : (id k : ℕ) → is_at (nat_cmp id) k ≡ (k == id)
same_number id k = grind (arith, nat_tests)

pub number_same : (id : ℕ) → (id == id) ≡ true
number_same id = grind (arith, nat_tests)

pub above_apart : {X : Type 0} (id k : ℕ) (es : List (ℕ × X)) → (k == id) ≡ true
    → AllByRecursion (λ y. nat_cmp k y ≡ Less) (keys_of es) → AllByRecursion (λ (e : ℕ × X). (e.0 == id) ≡ false) es
above_apart id k [] same above = tt
above_apart id k (e ∷ es) same above = (grind (arith, nat_tests, same, above.0), above_apart id k es same above.1)

others_stay : {X : Type 0} (id : ℕ) (es : List (ℕ × X)) → AllByRecursion (λ (e : ℕ × X). (e.0 == id) ≡ false) es
    → filter (λ (e : ℕ × X). not (e.0 == id)) es ≡ es
others_stay id [] all = refl
others_stay id (e ∷ es) all = rw all.0 (ap (λ l. e ∷ l) (others_stay id es all.1))

-- one entry at most has a number, so a removal is a filter
pub removed_at : {X : Type 0} (id : ℕ) (es : List (ℕ × X)) → IsStrictlySortedBy nat_cmp (keys_of es)
    → remove_entry (is_at (nat_cmp id)) es ≡ filter (λ (e : ℕ × X). not (e.0 == id)) es
removed_at id [] sorted = refl
removed_at {X} id (e ∷ es) sorted = by (e.0 == id) refl (removed_at id es (sorted_tail nat_cmp e.0 (keys_of es) sorted))
  where
    others : ℕ × X → Bool
    others x = not (x.0 == id)

    by : (b : Bool) → (e.0 == id) ≡ b → remove_entry (is_at (nat_cmp id)) es ≡ filter others es
        → cond (is_at (nat_cmp id) e.0) es (e ∷ remove_entry (is_at (nat_cmp id)) es)
        ≡ cond (not (e.0 == id)) (e ∷ filter others es) (filter others es)
    by true h rest = rw (same_number id e.0, h) (sym (others_stay id es
        (above_apart id e.0 es h (sorted_head nat_cmp e.0 (keys_of es) sorted))))
    by false h rest = rw (same_number id e.0, h) (ap (λ l. e ∷ l) rest)

-- a number above all goes last
pub entry_last : {X : Type 0} (es : List (ℕ × X)) (k : ℕ) (r : X) → AllByRecursion (λ (e : ℕ × X). e.0 < k) es
    → insert_entry nat_cmp es k r ≡ es ++ (k, r) ∷ []
entry_last [] k r below = refl
entry_last (e ∷ es) k r below =
    let above : Greater ≡ nat_cmp k e.0 = nat_cmp_is k e.0 Greater below.0 in
    rw (← above) (ap (λ l. e ∷ l) (entry_last es k r below.1))

-- an insertion of a number above all is undone by a removal
pub undone : {X : Type 0} (es : List (ℕ × X)) (k : ℕ) (r : X) → AllByRecursion (λ (e : ℕ × X). e.0 < k) es
    → remove_entry (is_at (nat_cmp k)) (insert_entry nat_cmp es k r) ≡ es
undone {X} es k r below = ap (remove_entry (is_at (nat_cmp k))) (entry_last es k r below) ∙ last es below
  where
    last : (l : List (ℕ × X)) → AllByRecursion (λ (e : ℕ × X). e.0 < k) l
        → remove_entry (is_at (nat_cmp k)) (l ++ (k, r) ∷ []) ≡ l
    last [] all = rw (same_number k k, number_same k) refl
    last (e ∷ l) all = let apart : (e.0 == k) ≡ false = (let less = all.0 in grind (arith, nat_tests, less))
        in rw (same_number k e.0, apart) (ap (λ t. e ∷ t) (last l all.1))

-- an entry among the others, and another value in its place
pub record Found {X : Type 0} (id : ℕ) (es : List (ℕ × X)) (r : X) : Type 0 where
  pub front : List (ℕ × X)
  pub back : List (ℕ × X)
  pub whole : es ≡ front ++ (id, r) ∷ back
  pub low : AllByRecursion (λ (e : ℕ × X). (e.0 == id) ≡ false) front
  pub high : AllByRecursion (λ (e : ℕ × X). (e.0 == id) ≡ false) back
  pub set : (s : X) → set_value (is_at (nat_cmp id)) es s ≡ front ++ (id, s) ∷ back

pub found : {X : Type 0} (id : ℕ) (es : List (ℕ × X)) (r : X) → IsStrictlySortedBy nat_cmp (keys_of es)
    → lookup (is_at (nat_cmp id)) es ≡ Some r → Found id es r
found {X = X} id [] r sorted there = absurd (none-some r there)
found {X = X} id (e ∷ es) r sorted there = by (e.0 == id) refl
    (found id es r (sorted_tail nat_cmp e.0 (keys_of es) sorted))
  where
    seen : (b : Bool) → (e.0 == id) ≡ b → cond b (Some e.1) (lookup (is_at (nat_cmp id)) es) ≡ Some r
    seen b h = sym (ap (λ c. cond c (Some e.1) (lookup (is_at (nat_cmp id)) es)) (same_number id e.0 ∙ h)) ∙ there

    set_at : (b : Bool) → (e.0 == id) ≡ b → (s : X) → cond (is_at (nat_cmp id) e.0) ((e.0, s) ∷ es)
        (e ∷ set_value (is_at (nat_cmp id)) es s) ≡ cond b ((e.0, s) ∷ es) (e ∷ set_value (is_at (nat_cmp id)) es s)
    set_at b h s = ap (λ c. cond c ((e.0, s) ∷ es) (e ∷ set_value (is_at (nat_cmp id)) es s)) (same_number id e.0 ∙ h)

    is_it : (e.0 == id) ≡ true → e.0 ≡ id
    is_it h = grind (arith, nat_tests, h)

    by : (b : Bool) → (e.0 == id) ≡ b → (lookup (is_at (nat_cmp id)) es ≡ Some r → Found id es r) → Found id (e ∷ es) r
    by true h rest = record {
      front = [];
      back = es;
      whole = ap (λ k. (k, e.1) ∷ es) (is_it h) ∙ ap (λ v. (id, v) ∷ es) (ap (λ o. unwrap_or o r) (seen true h));
      low = tt;
      high = above_apart id e.0 es h (sorted_head nat_cmp e.0 (keys_of es) sorted);
      set = λ s. set_at true h s ∙ ap (λ k. (k, s) ∷ es) (is_it h);
    }
    by false h rest = let f = rest (seen false h) in record {
      front = e ∷ f.front;
      back = f.back;
      whole = ap (λ l. e ∷ l) f.whole;
      low = (h, f.low);
      high = f.high;
      set = λ s. set_at false h s ∙ ap (λ l. e ∷ l) (f.set s);
    }

-- a value written over itself
pub set_same : {X : Type 0} (p : ℕ → Bool) (es : List (ℕ × X)) (x : X) → lookup p es ≡ Some x → set_value p es x ≡ es
set_same p [] x there = refl
set_same p (e ∷ es) x there = by (p e.0) refl (set_same p es x)
  where
    seen : (b : Bool) → p e.0 ≡ b → cond b (Some e.1) (lookup p es) ≡ Some x
    seen b h = sym (ap (λ c. cond c (Some e.1) (lookup p es)) h) ∙ there

    by : (b : Bool) → p e.0 ≡ b → (lookup p es ≡ Some x → set_value p es x ≡ es)
        → cond (p e.0) ((e.0, x) ∷ es) (e ∷ set_value p es x) ≡ e ∷ es
    by true h rest = rw h (ap (λ v. (e.0, v) ∷ es) (ap (λ o. unwrap_or o x) (sym (seen true h))))
    by false h rest = rw h (ap (λ l. e ∷ l) (rest (seen false h)))

-- each entry is found by its number
pub found_each : {X : Type 0} (es : List (ℕ × X)) → IsStrictlySortedBy nat_cmp (keys_of es)
    → AllByRecursion (λ (e : ℕ × X). lookup (is_at (nat_cmp e.0)) es ≡ Some e.1) es
found_each [] sorted = tt
found_each {X} (e ∷ es) sorted = (
  rw (same_number e.0 e.0, number_same e.0) refl,
  later es
      (above_apart e.0 e.0 es (number_same e.0) (sorted_head nat_cmp e.0 (keys_of es) sorted))
      (found_each es (sorted_tail nat_cmp e.0 (keys_of es) sorted)),
)
  where
    later : (l : List (ℕ × X)) → AllByRecursion (λ (x : ℕ × X). (x.0 == e.0) ≡ false) l
        → AllByRecursion (λ (x : ℕ × X). lookup (is_at (nat_cmp x.0)) es ≡ Some x.1) l
        → AllByRecursion (λ (x : ℕ × X). cond (is_at (nat_cmp x.0) e.0) (Some e.1) (lookup (is_at (nat_cmp x.0)) es)
        ≡ Some x.1) l
    later [] apart all = tt
    later (x ∷ l) apart all = let other : (e.0 == x.0) ≡ false = (let h = apart.0 in grind (arith, nat_tests, h))
        in (rw (same_number x.0 e.0, other) all.0, later l apart.1 all.1)
