-- What is found once a value is put among entries, or taken out of them.
use Rattle.std.proofs.Common.{◌≡◌, ℕ, ◌==◌, Bool, true, false, cond, List, [], ◌∷◌, ◌++◌, refl, sym, ap, ◌∙◌, arith}
use Rattle.std.proofs.Common.{eq-eqb, append_assoc}
use Rattle.std.specs.Prelude.{Some, None, Option, IsSome}
use Rattle.std.specs.List.{IsDistinct}
use Rattle.std.specs.Map.{keys_of, lookup, set_value, remove_entry}
use Rattle.std.specs.Option.{option_or}
use Rattle.std.proofs.lemmas.Bool.Decides.{nat_tests}
use Rattle.std.proofs.lemmas.Cmp.{nat_eq_equiv}
use Rattle.std.proofs.lemmas.Map.{lookup-remove_entry, lookup-set_value}
use Rattle.wl_number_map.specs.inner.Entries.{IsPut}

number_is : (n x y : ℕ) → (n == x) ≡ true → (n == y) ≡ (x == y)
number_is n x y h = grind (arith, nat_tests, h)

module _ {X : Type 0} where
  pub lookup_both : (t : ℕ → Bool) (xs ys : List (ℕ × X)) → lookup t (xs ++ ys) ≡ option_or (lookup t xs) (lookup t ys)
  lookup_both t [] ys = refl
  lookup_both t (x ∷ xs) ys = by (t x.0) (lookup_both t xs ys)
    where
      by : (b : Bool) → lookup t (xs ++ ys) ≡ option_or (lookup t xs) (lookup t ys)
          → cond b (Some x.1) (lookup t (xs ++ ys)) ≡ option_or (cond b (Some x.1) (lookup t xs)) (lookup t ys)
      by true rest = refl
      by false rest = rest

  -- a value in another's place, one at a new number, and one taken out
  pub put_over : (n : ℕ) (w : X) (es : List (ℕ × X)) → IsSome (lookup (λ k. n == k) es)
      → IsPut n (Some w) es (set_value (λ k. n == k) es w)
  put_over n w es there q = lookup-set_value nat_eq_equiv (λ k. n == k) (number_is n) q w es there

  pub put_pushed : (n : ℕ) (w : X) (es : List (ℕ × X)) → lookup (λ k. n == k) es ≡ None
      → IsPut n (Some w) es (es ++ (n, w) ∷ [])
  put_pushed n w es none q = lookup_both (λ k. q == k) es ((n, w) ∷ []) ∙ by (n == q) refl
    where
      by : (b : Bool) → (n == q) ≡ b → option_or (lookup (λ k. q == k) es) (cond (q == n) (Some w) None)
          ≡ cond b (Some w) (lookup (λ k. q == k) es)
      by true h = let is : q ≡ n = grind (arith, nat_tests, h) in rw is (rw (none, eq-eqb n n refl) refl)
      by false h = let other : (q == n) ≡ false = grind (arith, nat_tests, h)
          in rw other (only (lookup (λ k. q == k) es))
        where
          only : (p : Option X) → option_or p None ≡ p
          only None = refl
          only (Some x) = refl

  pub put_out : (n : ℕ) (es : List (ℕ × X)) → IsDistinct (λ a b. a == b) (keys_of es)
      → IsPut n None es (remove_entry (λ k. n == k) es)
  put_out n es distinct q = lookup-remove_entry nat_eq_equiv (λ k. n == k) (number_is n) q es distinct

  pub put_none : (n : ℕ) (es : List (ℕ × X)) → lookup (λ k. n == k) es ≡ None → IsPut n None es es
  put_none n es none q = by (n == q) refl
    where
      by : (b : Bool) → (n == q) ≡ b → lookup (λ k. q == k) es ≡ cond b None (lookup (λ k. q == k) es)
      by true h = let is : q ≡ n = grind (arith, nat_tests, h) in rw is none
      by false h = refl

  -- the last of some entries, put among others instead
  pub lookup_moved : (es fs gs : List (ℕ × X)) (n : ℕ) (w : X) → IsPut n (Some w) fs gs → (q : ℕ)
      → lookup (λ k. q == k) (es ++ gs) ≡ lookup (λ k. q == k) ((es ++ (n, w) ∷ []) ++ fs)
  lookup_moved es fs gs n w put q =
      let back : (n == q) ≡ (q == n) = grind (arith, nat_tests) in
      let one : lookup (λ k. q == k) gs ≡ lookup (λ k. q == k) ((n, w) ∷ fs) = put q
      ∙ ap (λ b. cond b (Some w) (lookup (λ k. q == k) fs)) back in
      rw (append_assoc es ((n, w) ∷ []) fs) (lookup_both (λ k. q == k) es gs
      ∙ (ap (option_or (lookup (λ k. q == k) es)) one ∙ sym (lookup_both (λ k. q == k) es ((n, w) ∷ fs))))
