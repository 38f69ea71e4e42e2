-- Laws of scripts and of what runs write (own).
use Rattle.std.specs.Prelude.{◌≡◌, ℕ, List, [], ◌∷◌, ◌++◌, ◌+◌, take, slice_get, Some, All, if◌then◌else◌}
use Rattle.wl_origin.specs.declared.manager_key.ManagerKey.{ManagerKey}
use Rattle.wl_world.specs.Isolation.{is_of, lines_of, replies}
use Rattle.wl_world.specs.World.{World, next, opening}
use Rattle.wl_codec.specs.Lines.{HasNoLf}
use Rattle.wl_script.specs.Lines.{lines, last_line, with_lfs}
use Rattle.wl_script.specs.Transcript.{transcript, after, reply_line}

-- a script is its lines, each with its LF, and then a last one without LF, if that has a byte
abbrev pub ScriptsAreLines : Type 0
ScriptsAreLines = (script : List ℕ) → ((ended : List (List ℕ)) × (last : List ℕ) × All HasNoLf ended × HasNoLf last
    × (script ≡ with_lfs ended ++ last) × (lines script ≡ ended ++ last_line last))

-- each line is answered in the world that the lines before it left
abbrev pub LinesAreAnsweredInTurn : Type 0
LinesAreAnsweredInTurn = (world : World) (all : List (List ℕ)) (n : ℕ) (line : List ℕ) → slice_get all n ≡ Some line
    → transcript world (take (n + 1) all) ≡ transcript world (take n all) ++ reply_line (after world (take n all)) line

-- a script may be cut behind any LF into two: the second run begins in the world that the first left
abbrev pub ScriptsMayBeCut : Type 0
ScriptsMayBeCut = (world : World) (front rest : List ℕ) → transcript world (lines (front ++ 10 ∷ rest))
    ≡ transcript world (lines (front ++ 10 ∷ [])) ++ transcript (after world (lines (front ++ 10 ∷ []))) (lines rest)

-- a transcript is the replies to the lines, of which the laws of origins speak, each with LF
abbrev pub TranscriptsAreReplies : Type 0
TranscriptsAreReplies = (world : World) (all : List (List ℕ)) → transcript world all ≡ with_lfs (replies world all)

-- of the lines that were written those that stand where a script has the lines of a bucket of an origin: line n is the
-- reply to line n
abbrev pub written_to : ManagerKey → World → List (List ℕ) → List (List ℕ) → List (List ℕ)
written_to k world [] written = []
written_to k world (line ∷ script) [] = []
written_to k world (line ∷ script) (reply ∷ written) = if is_of k world line
    then reply ∷ written_to k (next world line) script written else written_to k (next world line) script written

abbrev pub replies_among : ManagerKey → List ℕ → List ℕ → List (List ℕ)
replies_among k script written = written_to k opening (lines script) (lines written)

-- Two runs over inputs that have the same lines of a bucket of an origin wrote the same replies to them, whatever the
-- other lines of the inputs are
abbrev pub RunsAreIsolated : Type 0
RunsAreIsolated = (k : ManagerKey) (one other one_written other_written : List ℕ)
    → one_written ≡ transcript opening (lines one) → other_written ≡ transcript opening (lines other)
    → lines_of k opening (lines one) ≡ lines_of k opening (lines other)
    → replies_among k one one_written ≡ replies_among k other other_written
