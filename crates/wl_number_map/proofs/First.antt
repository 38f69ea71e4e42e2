-- The first entry whose number passes a test: where a search finds it, and what a change there makes of the entries.
use Rattle.std.proofs.Common.{◌≡◌, ℕ, zero, suc, ◌<◌, ◌≤◌, ◌==◌, Bool, true, false, cond, List, [], ◌∷◌, ◌++◌, length}
use Rattle.std.proofs.Common.{take, get_or, refl, sym, ap, ◌∙◌, arith}
use Rattle.std.specs.Prelude.{Some, None, is_some}
use Rattle.std.specs.List.{IsDistinct, remove}
use Rattle.std.specs.Map.{keys_of, lookup, set_value, remove_entry}
use Rattle.std.proofs.lemmas.Cmp.{nat_eq_equiv}
use Rattle.std.proofs.lemmas.List.{map-append}
use Rattle.std.proofs.lemmas.Map.{NonePasses}
use Rattle.std.proofs.lemmas.Map.Keys.{IsDistinct-cons, IsDistinct-head, IsDistinct-push, IsDistinct-tail}
use Rattle.std.proofs.lemmas.Map.Made.{is_some-lookup}
use Rattle.std.proofs.lemmas.Option.{none-some}
use Rattle.wl_number_map.specs.inner.Entries.{IsFirst}
use Rattle.wl_number_map.proofs.InOrder.{keys_removed}

distinct_nil : IsDistinct {K = ℕ} (λ a b. a == b) []
unfolding IsDistinct
distinct_nil = tt

module _ {X : Type 0} where
  pub first_at : (t : ℕ → Bool) (es : List (ℕ × X)) (i : ℕ) (d : ℕ × X) → i < length es → NonePasses t (take i es)
      → t (get_or es i d).0 ≡ true → IsFirst t es i
  first_at t [] i d within none is = absurd (omega (arith, within))
  first_at t (e ∷ es) zero d within none is = is
  first_at t (e ∷ es) (suc i) d within none is = (none.0, first_at t es i d (omega (arith, within)) none.1 is)

  pub first_found : (t : ℕ → Bool) (es : List (ℕ × X)) (i : ℕ) (d : ℕ × X) → IsFirst t es i
      → lookup t es ≡ Some (get_or es i d).1
  first_found t [] i d at = absurd at
  first_found t (e ∷ es) zero d at = rw at refl
  first_found t (e ∷ es) (suc i) d at = rw at.0 (first_found t es i d at.1)

  pub first_removed : (t : ℕ → Bool) (es : List (ℕ × X)) (i : ℕ) → IsFirst t es i → remove es i ≡ remove_entry t es
  first_removed t [] i at = absurd at
  first_removed t (e ∷ es) zero at = rw at refl
  first_removed t (e ∷ es) (suc i) at = rw at.0 (ap (λ l. e ∷ l) (first_removed t es i at.1))

  pub none_set : (t : ℕ → Bool) (es : List (ℕ × X)) (w : X) → lookup t es ≡ None → es ≡ set_value t es w
  none_set t [] w none = refl
  none_set t (e ∷ es) w none = by (t e.0) none (none_set t es w)
    where
      by : (b : Bool) → cond b (Some e.1) (lookup t es) ≡ None → (lookup t es ≡ None → es ≡ set_value t es w)
          → e ∷ es ≡ cond b ((e.0, w) ∷ es) (e ∷ set_value t es w)
      by true none rest = absurd (none-some e.1 (sym none))
      by false none rest = ap (λ l. e ∷ l) (rest none)

  pub few_none : (es : List (ℕ × X)) → es ≡ [] → IsDistinct (λ a b. a == b) (keys_of es) × (length es ≤ 4)
  few_none es is = rw is (distinct_nil, omega (arith))

  -- one more, at a number that has none, and one less
  pub distinct_pushed : (es : List (ℕ × X)) (n : ℕ) (w : X) → IsDistinct (λ a b. a == b) (keys_of es)
      → lookup (λ k. n == k) es ≡ None → IsDistinct (λ a b. a == b) (keys_of (es ++ (n, w) ∷ []))
  distinct_pushed es n w distinct absent =
      rw (map-append (λ e. e.0) es ((n, w) ∷ [])) (IsDistinct-push nat_eq_equiv (keys_of es) n distinct
      (sym (is_some-lookup (λ k. n == k) es) ∙ ap is_some absent))

  pub distinct_removed : (t : ℕ → Bool) (es : List (ℕ × X)) → IsDistinct (λ a b. a == b) (keys_of es)
      → IsDistinct (λ a b. a == b) (keys_of (remove_entry t es))
  distinct_removed t [] distinct = distinct
  distinct_removed t (e ∷ es) distinct = by (t e.0) (distinct_removed t es apart)
    where
      apart : IsDistinct (λ a b. a == b) (keys_of es)
      apart = IsDistinct-tail (λ a b. a == b) e.0 (keys_of es) distinct

      by : (b : Bool) → IsDistinct (λ a b. a == b) (keys_of (remove_entry t es))
          → IsDistinct (λ a b. a == b) (keys_of (cond b es (e ∷ remove_entry t es)))
      by true rest = apart
      by false rest = IsDistinct-cons (λ a b. a == b) e.0 (keys_of (remove_entry t es))
          (keys_removed (λ k. (e.0 == k) ≡ false) t es (IsDistinct-head (λ a b. a == b) e.0 (keys_of es) distinct)) rest

  pub fewer : (t : ℕ → Bool) (es : List (ℕ × X)) → length (remove_entry t es) ≤ length es
  fewer t [] = omega (arith)
  fewer t (e ∷ es) = by (t e.0) (fewer t es)
    where
      by : (b : Bool) → length (remove_entry t es) ≤ length es
          → length (cond b es (e ∷ remove_entry t es)) ≤ length (e ∷ es)
      by true rest = omega (arith)
      by false rest = omega (arith, rest)
