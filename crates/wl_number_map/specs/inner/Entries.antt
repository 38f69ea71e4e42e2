-- Entries in any order: where a number stands among them, what is put there, and the entries of a store. (own)
use Rattle.std.specs.Prelude.{◌≡◌, ◌==◌, ℕ, zero, suc, Bool, true, false, List, [], ◌∷◌, Option, cond}
use Rattle.std.specs.Map.{lookup}
use Rattle.wl_number_map.specs.declared.store.Held.{Held}
use Rattle.wl_number_map.specs.declared.store.Held.TheVariants.{Few, Many}

-- the entries of a store
abbrev pub held_entries : {X : Type 0} → Held X → List (ℕ × X)
held_entries (Few few) = few
held_entries (Many map) = map.value.entries

module _ {X : Type 0} where
  -- the first entry whose number passes stands at this place
  abbrev pub IsFirst : (ℕ → Bool) → List (ℕ × X) → ℕ → Type 0
  IsFirst test [] place = ⊥
  IsFirst test (e ∷ es) zero = test e.0 ≡ true
  IsFirst test (e ∷ es) (suc place) = (test e.0 ≡ false) × IsFirst test es place

  -- fs finds this at a number, where `None` is nothing, and at each other number what es finds
  abbrev pub IsPut : ℕ → Option X → List (ℕ × X) → List (ℕ × X) → Type 0
  IsPut number value es fs = (q : ℕ) → lookup (λ k. q == k) fs ≡ cond (number == q) value (lookup (λ k. q == k) es)
