-- Fences, and the text of a reply that hands them out (own).
use Rattle.std.specs.Prelude.{◌≡◌, ◌==◌, ◌<◌, ℕ, zero, suc, ◌/◌, ◌%◌, ◌^◌, List, [], ◌∷◌, ◌++◌, false, codes, decimal}
use Rattle.std.specs.Prelude.{if◌then◌else◌}
use Rattle.std.specs.List.{flat_map}
use Rattle.std.specs.Cmp.Lexicographic.{slice_cmp}
use Rattle.std.specs.Fmt.{digit_glyph}
use Rattle.std.specs.Ordering.{nat_cmp, ordering_then}
use Rattle.wl_server.specs.declared.fences.Fence.{Fence}

-- the last digits of a number in base 16, so many of them, in lower case
abbrev pub hexadecimal : ℕ → ℕ → List ℕ
hexadecimal zero n = []
hexadecimal (suc count) n = hexadecimal count (n / 16) ++ digit_glyph false (n % 16) ∷ []

-- the epoch and the token, sixteen digits each
unfoldable pub fence_word : ℕ → ℕ → List ℕ
fence_word epoch token = hexadecimal 16 epoch ++ (codes "-" ++ hexadecimal 16 token)

-- Words compare, byte by byte, as their epochs do, and words of one epoch as their tokens.
abbrev pub WordsCompareAsTokens : Type 0
WordsCompareAsTokens = (epoch token other_epoch other : ℕ) → epoch < 2 ^ 64 → token < 2 ^ 64 → other_epoch < 2 ^ 64
    → other < 2 ^ 64
    → slice_cmp nat_cmp (fence_word epoch token) (fence_word other_epoch other)
    ≡ ordering_then (nat_cmp epoch other_epoch) (nat_cmp token other)

unfoldable pub fence_object : ℕ → Fence → List ℕ
fence_object epoch f = codes "{\"fence\":\"" ++ (fence_word epoch f.token
    ++ (codes "\",\"request\":" ++ (decimal f.request ++ codes "}")))

-- a fence with a comma before it
abbrev pub later_object : ℕ → Fence → List ℕ
later_object epoch f = 44 ∷ fence_object epoch f

-- the member of a first fence and those behind it
abbrev pub fences_member : ℕ → Fence → List Fence → List ℕ
fences_member epoch f fs = codes "\"fences\":[" ++ (fence_object epoch f
    ++ (flat_map (later_object epoch) fs ++ codes "]"))

-- An object has the fences as its first member, if there are any. A text that begins with no brace, byte 123, stays as
-- it is.
abbrev pub fenced : ℕ → List Fence → List ℕ → List ℕ
fenced epoch [] text = text
fenced epoch (f ∷ fs) [] = []
fenced epoch (f ∷ fs) (c ∷ cs) = if c == 123 then codes "{" ++ (fences_member epoch f fs ++ (codes "," ++ cs))
    else c ∷ cs
