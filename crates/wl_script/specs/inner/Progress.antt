-- How far a run has come: what the parts of the driver say to each other (own).
use Rattle.std.specs.Prelude.{ℕ, List, ◌∷◌, ◌++◌, ◌≡◌, ◌<◌, ◌≤◌, ◌+◌, length, Option, All}
use Rattle.std.specs.Io.KnownBytes.{Appends, Keeps}
use Rattle.wl_origin.specs.declared.manager_key.ManagerKey.{ManagerKey}
use Rattle.wl_world.specs.Entries.{script_entries}
use Rattle.wl_world.specs.Journals.{Journals, with_more}
use Rattle.wl_world.specs.World.{World}
use Rattle.wl_codec.specs.Lines.{HasNoLf}
use Rattle.wl_script.specs.Lines.{lines, with_lfs}
use Rattle.wl_script.specs.Transcript.{after, reply_line}
use Rattle.wl_script.specs.Leaves.{Answered}
use Rattle.wl_script.specs.declared.fault.ScriptFault.{ScriptFault}
use Rattle.wl_script.specs.declared.fault.ScriptFault.TheVariants.{Memory, Read, Write, LineTooLong, TooManyTurns}

-- a moment of a run
pub record Moment : Type 0 where
  -- the bytes since the last LF
  pub unfinished : List ℕ
  pub count : ℕ
  pub world : World
  pub held : Option (List ℕ)

abbrev pub moment : List ℕ → ℕ → World → Option (List ℕ) → Moment
moment unfinished count world held = record { unfinished = unfinished; count = count; world = world; held = held }

-- the lines that end in these bytes were answered
pub record Fed (limit : ℕ) (old : Moment) (bytes : List ℕ) (new : Moment) : Type 0 where
  pub ended : List (List ℕ)
  pub split : old.unfinished ++ bytes ≡ with_lfs ended ++ new.unfinished
  pub whole : All HasNoLf ended
  pub open_end : HasNoLf new.unfinished
  pub count : new.count ≡ old.count + length ended
  pub world : new.world ≡ after old.world ended
  pub answered : Answered limit old.world ended old.held new.held

-- a part of the reply to a line was written, but not all of it
pub record AnsweredPart (world : World) (line : List ℕ) (old new : Option (List ℕ)) : Type 0 where
  pub part : List ℕ
  pub more : List ℕ
  pub some : 0 < length more
  pub text : reply_line world line ≡ part ++ more
  pub written : Appends old new part

-- the line wasn't answered
abbrev pub IsUnanswered : ℕ → World → List ℕ → Option (List ℕ) → ScriptFault → Option (List ℕ) → Type 0
IsUnanswered count world line old (Memory n) new = (n ≡ count) × Keeps old new
IsUnanswered count world line old (Write n) new = (n ≡ count) × AnsweredPart world line old new
IsUnanswered count world line old (Read n) new = ⊥
IsUnanswered count world line old (LineTooLong n) new = ⊥
IsUnanswered count world line old (TooManyTurns n) new = ⊥

-- at this moment, with these bytes to come, the run ended
abbrev pub Stops : ℕ → Moment → List ℕ → ScriptFault → Option (List ℕ) → Type 0
Stops limit now back (Memory n) new = (n ≡ now.count) × Keeps now.held new
Stops limit now back (Write n) new = (n ≡ now.count) × AnsweredPart now.world now.unfinished now.held new
    × (length now.unfinished ≤ limit) × ((rest : List ℕ) × (back ≡ 10 ∷ rest))
Stops limit now back (LineTooLong n) new = (n ≡ now.count) × Keeps now.held new × (limit < length now.unfinished)
Stops limit now back (Read n) new = ⊥
Stops limit now back (TooManyTurns n) new = ⊥

-- the run ended within these bytes
pub record Breaks (limit : ℕ) (old : Moment) (bytes : List ℕ) (fault : ScriptFault) (new : Option (List ℕ)) : Type 0
  where
    pub front : List ℕ
    pub back : List ℕ
    pub split : bytes ≡ front ++ back
    pub now : Moment
    pub fed : Fed limit old front now
    pub stops : Stops limit now back fault new

-- the beginning of a line wasn't kept
abbrev pub IsNotKept : ℕ → ℕ → List ℕ → ScriptFault → Type 0
IsNotKept limit count line (Memory n) = n ≡ count
IsNotKept limit count line (LineTooLong n) = (n ≡ count) × (limit < length line)
IsNotKept limit count line (Read n) = ⊥
IsNotKept limit count line (Write n) = ⊥
IsNotKept limit count line (TooManyTurns n) = ⊥

-- the run ended at a last line without LF
abbrev pub BreaksAtEnd : Moment → ScriptFault → Option (List ℕ) → Type 0
BreaksAtEnd old fault new = (0 < length old.unfinished)
    × IsUnanswered old.count old.world old.unfinished old.held fault new

-- how many entries the journals will have had when the lines of these bytes are answered
abbrev pub entries_then : World → Journals → List ℕ → Journals
entries_then world journals bytes = λ key. with_more (script_entries key world (lines bytes)) (journals key)

-- Some of the bytes were taken, and the journals will have had as many entries, whatever bytes follow.
pub record CountsOn (old : World) (before : Journals) (bytes : List ℕ) (new : World) (after : Journals) (left : List ℕ)
    : Type 0 where
  pub same : (key : ManagerKey) (rest : List ℕ)
      → entries_then new after (left ++ rest) key ≡ entries_then old before (bytes ++ rest) key
