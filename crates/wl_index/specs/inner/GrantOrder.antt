-- Lists in the order of a grant sequence (own).
use Rattle.std.specs.Prelude.{◌≡◌, ℕ, ◌≤◌, List, [], ◌∷◌, nat_lt, if◌then◌else◌}
use Rattle.std.specs.List.{AllByRecursion}

module _ {X : Type 0} (f : X → ℕ) where
  -- before the first with a greater grant sequence
  abbrev pub place : X → List X → List X
  place x [] = x ∷ []
  place x (y ∷ ys) = if nat_lt (f x) (f y) then x ∷ y ∷ ys else y ∷ place x ys

  abbrev pub by_grant_seq : List X → List X
  by_grant_seq [] = []
  by_grant_seq (x ∷ xs) = place x (by_grant_seq xs)

  -- no two have one grant sequence
  abbrev pub Distinct : List X → Type 0
  Distinct [] = Unit {0}
  Distinct (x ∷ xs) = AllByRecursion (λ y. f x ≡ f y → ⊥) xs × Distinct xs
