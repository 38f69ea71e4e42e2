-- Lists in general.
use Rattle.std.proofs.Common.{◌≡◌, Bool, true, List, [], ◌∷◌, refl, ap}
use Rattle.std.specs.Prelude.{filter}
use Rattle.std.specs.List.{AllByRecursion}

-- a filter that all pass
pub filter_whole : {X : Type 0} (p : X → Bool) (l : List X) → AllByRecursion (λ x. p x ≡ true) l → filter p l ≡ l
filter_whole p [] all = refl
filter_whole p (x ∷ l) all = rw all.0 (ap (λ r. x ∷ r) (filter_whole p l all.1))
