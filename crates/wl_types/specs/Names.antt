-- Which texts are names: Web Locks, "resource name"; the limit on the length is (own).
use Rattle.std.specs.Prelude.{ℕ, Bool, false, List, [], ◌∷◌, length, ◌==◌, nat_lt, Option}
use Rattle.wl_types.specs.declared.refusal.Refusal.{Refusal}
use Rattle.wl_types.specs.declared.refusal.Refusal.TheVariants.{ReservedName, NameTooLong}
use Rattle.wl_types.specs.Refusals.{refuse_if, first_refusal}

-- whether the text starts with `-`
abbrev pub is_reserved : List ℕ → Bool
is_reserved [] = false
is_reserved (first ∷ rest) = first == 45

-- whether it has more than 1,024 bytes
abbrev pub is_long : List ℕ → Bool
is_long text = nat_lt 1024 (length text)

-- why a text is no name
abbrev pub name_refusal : List ℕ → Option Refusal
name_refusal text = first_refusal (refuse_if (is_reserved text) ReservedName ∷ refuse_if (is_long text) NameTooLong
    ∷ [])
