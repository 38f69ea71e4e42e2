-- What a loop over a list has made, place by place. Elements are seen through v.
use Rattle.std.proofs.Common.{◌<◌, ◌+◌, ℕ, List, [], ◌∷◌, ◌++◌, length, take, get_or, map, subst}
use Rattle.std.specs.List.{AllZip, Contains}
use Rattle.std.proofs.lemmas.List.{get_or-map, length-map, map-append, take_more}
use Rattle.std.proofs.lemmas.List.Elements.{Contains-get_or}

module _ {Y Z : Type 0} (R : Y → Z → Type 0) where
  zip_push : (ys : List Y) (zs : List Z) (y : Y) (z : Z) → AllZip R ys zs → R y z
      → AllZip R (ys ++ y ∷ []) (zs ++ z ∷ [])
  zip_push [] [] y z same is = (is, tt)
  zip_push [] (w ∷ zs) y z same is = absurd same
  zip_push (x ∷ ys) [] y z same is = absurd same
  zip_push (x ∷ ys) (w ∷ zs) y z same is = (same.0, zip_push ys zs y z same.1 is)

  -- one more element, and what was made of it
  pub zip_more : {X : Type 0} (v : X → Y) (xs : List X) (i : ℕ) (d : X) (zs : List Z) (z : Z) → i < length xs
      → AllZip R (map v (take i xs)) zs → R (v (get_or xs i d)) z → AllZip R (map v (take (i + 1) xs)) (zs ++ z ∷ [])
  zip_more v xs i d zs z lt before is =
      rw (take_more xs i d lt, map-append v (take i xs) (get_or xs i d ∷ []))
      (zip_push (map v (take i xs)) zs (v (get_or xs i d)) z before is)

-- an element is one of those that are seen
pub contains_seen : {X Y : Type 0} (v : X → Y) (xs : List X) (i : ℕ) (d : X) → i < length xs
    → Contains (map v xs) (v (get_or xs i d))
contains_seen v xs i d lt =
    let within : i < length (map v xs) = rw (length-map xs v) lt in
    subst (Contains (map v xs)) (get_or-map v xs i d (v d) lt) (Contains-get_or (map v xs) i (v d) within)
