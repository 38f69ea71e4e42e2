-- The lines of a script (own). Each ends with LF, byte 10. What stands after the last LF is a line if it has a byte.
use Rattle.std.specs.Prelude.{ℕ, List, [], ◌∷◌, ◌++◌, count_by}
use Rattle.std.specs.List.{slice_split, flat_map}
use Rattle.wl_codec.specs.Lines.{is_lf}

-- how many of the bytes are LF
abbrev pub line_feeds : List ℕ → ℕ
line_feeds bytes = count_by is_lf bytes

-- what stands after the last LF, if it has a byte
abbrev pub last_line : List ℕ → List (List ℕ)
last_line [] = []
last_line (byte ∷ bytes) = (byte ∷ bytes) ∷ []

-- the lines, from the parts between LFs
abbrev pub lines_of_parts : List (List ℕ) → List (List ℕ)
lines_of_parts [] = []
lines_of_parts (part ∷ []) = last_line part
lines_of_parts (part ∷ next ∷ parts) = part ∷ lines_of_parts (next ∷ parts)

abbrev pub lines : List ℕ → List (List ℕ)
lines script = lines_of_parts (slice_split is_lf script)

-- each of the lines, with its LF
abbrev pub with_lfs : List (List ℕ) → List ℕ
with_lfs = flat_map (λ line. line ++ 10 ∷ [])
