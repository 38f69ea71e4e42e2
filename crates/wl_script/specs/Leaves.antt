-- What a run wrote when it ended (own).
use Rattle.std.specs.Prelude.{ℕ, List, ◌++◌, ◌≡◌, ◌<◌, ◌≤◌, length, take, slice_get, Some, Option, All}
use Rattle.std.specs.Io.KnownBytes.{Appends, Consumes}
use Rattle.wl_world.specs.World.{World}
use Rattle.wl_script.specs.Lines.{line_feeds}
use Rattle.wl_script.specs.Transcript.{transcript, after, reply_line}
use Rattle.wl_script.specs.Faults.{answered, unanswered_bytes}
use Rattle.wl_script.specs.declared.fault.ScriptFault.{ScriptFault}
use Rattle.wl_script.specs.declared.fault.ScriptFault.TheVariants.{Memory, Read, Write, LineTooLong, TooManyTurns}

-- these lines were answered: none is longer than the limit, and their transcript was written, and nothing else
pub record Answered (limit : ℕ) (world : World) (lines : List (List ℕ)) (old new : Option (List ℕ)) : Type 0 where
  pub within : All (λ line. length line ≤ limit) lines
  pub written : Appends old new (transcript world lines)

-- the first n of the lines were answered
pub record AnsweredFirst (limit : ℕ) (world : World) (lines : List (List ℕ)) (n : ℕ) (old new : Option (List ℕ)) : Type
    0 where
  pub few : n ≤ length lines
  pub answered : Answered limit world (take n lines) old new

-- the first n of the lines were answered, and then a part of the reply line to the next was written, but not all of it
pub record AnsweredWithin (limit : ℕ) (world : World) (lines : List (List ℕ)) (n : ℕ) (old new : Option (List ℕ)) : Type
    0 where
  pub line : List ℕ
  pub is_next : slice_get lines n ≡ Some line
  pub short : length line ≤ limit
  pub part : List ℕ
  pub more : List ℕ
  pub some : 0 < length more
  pub text : reply_line (after world (take n lines)) line ≡ part ++ more
  pub within : All (λ line. length line ≤ limit) (take n lines)
  pub written : Appends old new (transcript world (take n lines) ++ part)

-- line n, counted from 0, is longer than the limit
abbrev pub IsTooLong : ℕ → List (List ℕ) → ℕ → Type 0
IsTooLong limit lines n = (line : List ℕ) × (slice_get lines n ≡ Some line) × (limit < length line)

-- what a fault leaves: old is what the writer held before the run of these lines, and new what it holds after
abbrev pub Leaves : ℕ → World → List (List ℕ) → ScriptFault → Option (List ℕ) → Option (List ℕ) → Type 0
Leaves limit world lines (Memory n) old new = AnsweredFirst limit world lines n old new
Leaves limit world lines (Read n) old new = AnsweredFirst limit world lines n old new
Leaves limit world lines (TooManyTurns n) old new = AnsweredFirst limit world lines n old new
Leaves limit world lines (LineTooLong n) old new = AnsweredFirst limit world lines n old new × IsTooLong limit lines n
Leaves limit world lines (Write n) old new = AnsweredWithin limit world lines n old new

-- Every line that was read was answered, but for those that ended in the last read, and no other line was. Between
-- reads there are none of these, so that just those were answered that were read
abbrev pub AnswersAtOnce : ScriptFault → Option (List ℕ) → Option (List ℕ) → Type 0
AnswersAtOnce fault old new = (earlier last : List ℕ) × Consumes old new (earlier ++ last)
    × (line_feeds earlier ≤ answered fault) × (answered fault ≤ line_feeds (earlier ++ last))
    × (length last ≤ unanswered_bytes fault)

-- each of n reads gave a byte
abbrev pub GaveBytes : Option (List ℕ) → Option (List ℕ) → ℕ → Type 0
GaveBytes old new n = (given : List ℕ) × Consumes old new given × (n ≤ length given)
