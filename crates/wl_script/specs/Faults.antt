-- The faults of a run (own).
use Rattle.std.specs.Prelude.{Bool, true, false, Result, Ok, Err, ℕ}
use Rattle.wl_script.specs.declared.fault.ScriptFault.{ScriptFault}
use Rattle.wl_script.specs.declared.fault.ScriptFault.TheVariants.{Memory, Read, Write, LineTooLong, TooManyTurns}

-- the number of lines answered, which a fault carries
abbrev pub answered : ScriptFault → ℕ
answered (Memory n) = n
answered (Read n) = n
answered (Write n) = n
answered (LineTooLong n) = n
answered (TooManyTurns n) = n

-- the most bytes that were read, and whose lines weren't answered yet: none, or one read
abbrev pub unanswered_bytes : ScriptFault → ℕ
unanswered_bytes (Memory n) = 65536
unanswered_bytes (Read n) = 0
unanswered_bytes (Write n) = 65536
unanswered_bytes (LineTooLong n) = 65536
unanswered_bytes (TooManyTurns n) = 0

abbrev pub is_read_fault : ScriptFault → Bool
is_read_fault (Read n) = true
is_read_fault (Memory n) = false
is_read_fault (Write n) = false
is_read_fault (LineTooLong n) = false
is_read_fault (TooManyTurns n) = false

abbrev pub is_write_fault : ScriptFault → Bool
is_write_fault (Write n) = true
is_write_fault (Memory n) = false
is_write_fault (Read n) = false
is_write_fault (LineTooLong n) = false
is_write_fault (TooManyTurns n) = false

abbrev pub is_read : {T : Type 0} → Result T ScriptFault → Bool
is_read (Ok x) = false
is_read (Err fault) = is_read_fault fault

abbrev pub is_write : {T : Type 0} → Result T ScriptFault → Bool
is_write (Ok x) = false
is_write (Err fault) = is_write_fault fault

abbrev pub IsTooManyTurns : {T : Type 0} → Result T ScriptFault → Type 0
IsTooManyTurns (Ok x) = ⊥
IsTooManyTurns (Err (Memory n)) = ⊥
IsTooManyTurns (Err (Read n)) = ⊥
IsTooManyTurns (Err (Write n)) = ⊥
IsTooManyTurns (Err (LineTooLong n)) = ⊥
IsTooManyTurns (Err (TooManyTurns n)) = Unit {0}
