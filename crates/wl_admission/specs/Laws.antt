-- What is let in by its target (own).
use Rattle.std.specs.Prelude.{◌≡◌, ℕ, List, Some, IsAscii}
use Rattle.wl_origin.specs.Origin.{Tuple, tuple_text}
use Rattle.wl_admission.specs.Scopes.{tuple_in}
use Rattle.wl_admission.specs.Targets.{origin_named, target_of}

-- a target that names an origin is that origin's own
abbrev pub NamedByItsOwn : Type 0
NamedByItsOwn = (target : List ℕ) (origin : Tuple) → origin_named target ≡ Some origin → target ≡ target_of origin

-- the own target of an origin names it, where the origin's text, which is ASCII, spells a URL of it
abbrev pub OwnNamesIt : Type 0
OwnNamesIt = (origin : Tuple) → IsAscii (tuple_text origin) → tuple_in (tuple_text origin) ≡ Some origin
    → origin_named (target_of origin) ≡ Some origin
