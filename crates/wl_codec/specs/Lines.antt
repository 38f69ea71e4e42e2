-- The lines of bytes (own). Each ends with LF, byte 10.
use Rattle.std.specs.Prelude.{ℕ, List, ◌≡◌, ◌==◌, Bool, false, All}

abbrev pub is_lf : ℕ → Bool
is_lf byte = byte == 10

-- none of the bytes is LF
abbrev pub HasNoLf : List ℕ → Type 0
HasNoLf bytes = All (λ byte. is_lf byte ≡ false) bytes
