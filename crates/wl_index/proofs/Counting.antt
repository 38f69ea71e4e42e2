-- Counting what passes and what doesn't.
use Rattle.std.proofs.Common.{◌≡◌, ◌+◌, Bool, true, false, cond, List, [], ◌∷◌, length, refl, arith}
use Rattle.std.specs.Prelude.{not, filter}

pub length-filter-not : {X : Type 0} (p : X → Bool) (xs : List X)
    → length (filter p xs) + length (filter (λ x. not (p x)) xs) ≡ length xs
length-filter-not p [] = refl
length-filter-not p (x ∷ xs) =
    elim (p x) as (λ b. length (cond b (x ∷ filter p xs) (filter p xs))
    + length (cond (not b) (x ∷ filter (λ y. not (p y)) xs) (filter (λ y. not (p y)) xs)) ≡ length (x ∷ xs))
    [ true ↦ grind (arith, length-filter-not p xs) | false ↦ grind (arith, length-filter-not p xs) ]
