-- Lists whose elements are seen through v.
use Rattle.std.proofs.Common.{◌≡◌, [], ◌∷◌, ◌||◌, Bool, List, ap, map, refl}
use Rattle.std.specs.List.{list_any}

pub list_any_seen : {X Y : Type 0} (v : X → Y) (p : Y → Bool) (xs : List X)
    → list_any p (map v xs) ≡ list_any (λ x. p (v x)) xs
list_any_seen v p [] = refl
list_any_seen v p (x ∷ xs) = ap (λ b. p (v x) || b) (list_any_seen v p xs)
