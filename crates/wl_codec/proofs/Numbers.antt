-- A number's text, read as a whole number.
use Rattle.std.proofs.Common.{◌≡◌, ℕ, ◌^◌, ◌<◌, Bool, true, false, cond, ℤ, negsuc, Float, Option, Some, None}
use Rattle.std.proofs.Common.{unwrap_or, refl, arith}
use Rattle.std.specs.Option.{SomeIff}
use Rattle.fast_float.specs.Text.{Parts, digits_of, IsInteger}
use Rattle.serde_json.specs.Data.{negative, float}
use Rattle.serde_json.specs.Find.{as_u64}
use Rattle.serde_json.specs.Read.{number_from}

no_u64 : (whole finite : Bool) (z : ℤ) (x : Float) → None ≡ as_u64
    (unwrap_or (cond whole (Some (negative z)) (cond finite (Some (float x)) None)) (negative (negsuc 0)))
no_u64 true finite z x = refl
no_u64 false true z x = refl
no_u64 false false z x = refl

-- no number with a sign is one of 64 bits without
pub as_u64-negative : (p : Parts) → None ≡ as_u64 (unwrap_or (number_from true p) (negative (negsuc 0)))
as_u64-negative p = no_u64 _ _ _ _

pub as_u64-unsigned : (p : Parts) (r : Option ℕ) → SomeIff r (IsInteger p × (digits_of p < 2 ^ 64)) (digits_of p)
    → r ≡ as_u64 (unwrap_or (number_from false p) (negative (negsuc 0)))
as_u64-unsigned p None h = grind (arith, h)
as_u64-unsigned p (Some n) h = grind (arith, h)
