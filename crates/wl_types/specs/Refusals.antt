-- Which refusal is answered where several may apply.
use Rattle.std.specs.Prelude.{Bool, List, [], ◌∷◌, Option, Some, None, if◌then◌else◌}
use Rattle.wl_types.specs.declared.refusal.Refusal.{Refusal}
use Rattle.wl_types.specs.declared.refusal.Refusal.TheVariants.{Memory}

abbrev pub refuse_if : Bool → Refusal → Option Refusal
refuse_if applies refusal = if applies then Some refusal else None

-- the first that applies
abbrev pub first_refusal : List (Option Refusal) → Option Refusal
first_refusal [] = None
first_refusal (Some refusal ∷ rest) = Some refusal
first_refusal (None ∷ rest) = first_refusal rest

-- the refusal that applies; where none does, memory was refused
abbrev pub refused_or_memory : Option Refusal → Refusal
refused_or_memory (Some refusal) = refusal
refused_or_memory None = Memory
