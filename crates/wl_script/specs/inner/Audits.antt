-- What only the code of this crate says (own), beside `Audits`.
use Rattle.std.specs.Prelude.{ℕ, ◌+◌, ◌≡◌, ◌<◌, ◌++◌, ◌∷◌, [], List, length, map, Option}
use Rattle.std.specs.Io.KnownBytes.{Appends, Keeps}
use Rattle.wl_origin.specs.declared.manager_key.ManagerKey.{ManagerKey}
use Rattle.wl_journal.specs.Books.{Book}
use Rattle.wl_script.specs.declared.fault.ScriptFault.{ScriptFault}
use Rattle.wl_script.specs.declared.fault.ScriptFault.TheVariants.{Memory, Read, Write, LineTooLong, TooManyTurns}
use Rattle.wl_script.specs.Audits.{WritesFirst, WritesWithin, audit_line, audit_text, with_entries}

-- what a fault leaves of these origins, after so many lines of the script
abbrev pub LeavesOrigins : ℕ → List (ManagerKey × ℕ) → ScriptFault → Option (List ℕ) → Option (List ℕ) → Type 0
LeavesOrigins lines counts (Memory n) old new = (n ≡ lines) × WritesFirst counts old new
LeavesOrigins lines counts (Write n) old new = WritesWithin counts n old new
LeavesOrigins lines counts (Read n) old new = ⊥
LeavesOrigins lines counts (TooManyTurns n) old new = ⊥
LeavesOrigins lines counts (LineTooLong n) old new = ⊥

-- of one more origin the line was written, if it has one, and with it n were
pub record WritesNext (before : ℕ) (origin : ManagerKey × ℕ) (n : ℕ) (old new : Option (List ℕ)) : Type 0 where
  pub count : n ≡ before + length (with_entries (origin ∷ []))
  pub written : Appends old new (audit_text (origin ∷ []))

-- the line of one origin was not written, after so many lines of the script, and so many other origins
abbrev pub IsUnwritten : ℕ → ℕ → ManagerKey × ℕ → Option (List ℕ) → ScriptFault → Option (List ℕ) → Type 0
IsUnwritten lines written origin old (Memory n) new = (n ≡ lines) × Keeps old new
IsUnwritten lines written origin old (Write n) new = (n ≡ written)
    × ((part more : List ℕ) × (0 < length more) × (audit_line origin.0 origin.1 ≡ part ++ more)
    × Appends old new part)
IsUnwritten lines written origin old (Read n) new = ⊥
IsUnwritten lines written origin old (LineTooLong n) new = ⊥
IsUnwritten lines written origin old (TooManyTurns n) new = ⊥

-- how many entries each book has had
abbrev pub counts_of : List (ManagerKey × Book) → List (ManagerKey × ℕ)
counts_of books = map (λ origin. (origin.0, origin.1.total)) books
