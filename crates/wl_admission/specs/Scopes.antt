-- Which URLs may be opened, by their origins (own). Origins are parsed, never compared as texts: URL, "origin"; HTML,
-- "same origin".
use Rattle.std.specs.Prelude.{ℕ, List, [], ◌∷◌, Bool, true, false, Option, Some, None, Ok, Err, Result}
use Rattle.std.specs.List.{list_any}
use Rattle.std.specs.Ordering.{is_eq}
use Rattle.wl_origin.specs.Origin.{Tuple, tuple_cmp}
use Rattle.wl_origin.specs.Standing.{standing_of}
use Rattle.wl_origin.specs.declared.standing.KeyFault.{KeyFault}
use Rattle.wl_admission.specs.declared.scope.Scope.{Scope}
use Rattle.wl_admission.specs.declared.scope.Scope.TheVariants.{All, Only}

abbrev pub same_origin : Tuple → Tuple → Bool
same_origin a b = is_eq (tuple_cmp a b)

-- the origins whose URLs may be opened; nothing where all may
abbrev pub Reach : Type 0
Reach = Option (List Tuple)

abbrev pub reach_of : Scope → Reach
reach_of All = None
reach_of (Only origins) = Some origins.items

-- Whether a URL of this origin may be opened; an opaque one, which is nothing here, only where all may.
abbrev pub admits : Reach → Option Tuple → Bool
admits None origin = true
admits (Some origins) None = false
admits (Some origins) (Some origin) = list_any (λ known. same_origin known origin) origins

abbrev pub tuple_of_standing : Result (Option Tuple) KeyFault → Option Tuple
tuple_of_standing (Ok origin) = origin
tuple_of_standing (Err fault) = None

-- the origin of a text's URL; nothing where the text is none, or the origin is opaque
abbrev pub tuple_in : List ℕ → Option Tuple
tuple_in text = tuple_of_standing (standing_of text)

abbrev pub origin_list : Option Tuple → List Tuple
origin_list None = []
origin_list (Some origin) = origin ∷ []

-- What a page of this origin may open: all where it is among those that are trusted, else what has its own origin.
abbrev pub page_reach : Reach → Option Tuple → Reach
page_reach trusted origin = cases (admits trusted origin) origin where
  cases : Bool → Option Tuple → Reach
  cases true origin = None
  cases false origin = Some (origin_list origin)
