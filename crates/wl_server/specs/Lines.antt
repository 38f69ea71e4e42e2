-- The lines of a reader, as far as its bytes are known (own). Each ends with LF, byte 10; what stands after the last LF
-- is a line if it has a byte.
use Rattle.std.specs.Prelude.{◌⊎◌, ◌<◌, ℕ, List, [], ◌∷◌, ◌++◌, length, Option}
use Rattle.std.specs.Io.KnownBytes.{Consumes, IsAtEnd, prepend_known}
use Rattle.wl_codec.specs.Lines.{HasNoLf}
use Rattle.wl_server.specs.declared.lines.Lines.{Lines}

-- the bytes that were left begin with this line, and lose it
abbrev pub GivesLine : Option (List ℕ) → List ℕ → Option (List ℕ) → Type 0
GivesLine old line new = HasNoLf line × (Consumes old new (line ++ 10 ∷ [])
    ⊎ (Consumes old new line × (0 < length line) × IsAtEnd new))

-- the bytes that are left begin with so many of one line, and more
abbrev pub GivesTooLong : Option (List ℕ) → ℕ → Type 0
GivesTooLong old limit = (start : List ℕ) × (left : Option (List ℕ)) × HasNoLf start × (limit < length start)
    × Consumes old left start

-- what lines have not been made of yet
abbrev pub to_come : {R : Type 0} → (R → Option (List ℕ)) → Lines R → Option (List ℕ)
to_come remaining lines = prepend_known lines.piece (remaining lines.reader)
