-- What only the code of this crate says (own), beside `Timelines`.
use Rattle.std.specs.Prelude.{ℕ, ◌≡◌, List, Option}
use Rattle.std.specs.Io.KnownBytes.{Keeps}
use Rattle.wl_script.specs.declared.fault.ScriptFault.{ScriptFault}
use Rattle.wl_script.specs.declared.fault.ScriptFault.TheVariants.{Memory, Read, Write, LineTooLong, TooManyTurns}

-- the picture of so many lines wasn't written, or not all of it
abbrev pub IsUnwritten : ℕ → ScriptFault → Option (List ℕ) → Option (List ℕ) → Type 0
IsUnwritten lines (Memory n) old new = (n ≡ lines) × Keeps old new
IsUnwritten lines (Write n) old new = n ≡ lines
IsUnwritten lines (Read n) old new = ⊥
IsUnwritten lines (LineTooLong n) old new = ⊥
IsUnwritten lines (TooManyTurns n) old new = ⊥
