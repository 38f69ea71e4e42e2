-- What a timeline leaves (own). Of the picture nothing is said.
use Rattle.std.specs.Prelude.{ℕ, ◌≡◌, List, length, Option}
use Rattle.std.specs.Io.KnownBytes.{Keeps}
use Rattle.wl_script.specs.Audits.{DoneFirst}
use Rattle.wl_script.specs.Leaves.{IsTooLong}
use Rattle.wl_script.specs.declared.fault.ScriptFault.{ScriptFault}
use Rattle.wl_script.specs.declared.fault.ScriptFault.TheVariants.{Memory, Read, Write, LineTooLong, TooManyTurns}

-- What a fault leaves: the first n lines were done. Before the end of the script nothing is written.
abbrev pub LeavesTimeline : ℕ → List (List ℕ) → ScriptFault → Option (List ℕ) → Option (List ℕ) → Type 0
LeavesTimeline limit lines (Memory n) old new = DoneFirst limit lines n × Keeps old new
LeavesTimeline limit lines (Write n) old new = DoneFirst limit lines n × (n ≡ length lines)
LeavesTimeline limit lines (Read n) old new = DoneFirst limit lines n × Keeps old new
LeavesTimeline limit lines (TooManyTurns n) old new = DoneFirst limit lines n × Keeps old new
LeavesTimeline limit lines (LineTooLong n) old new = DoneFirst limit lines n × Keeps old new × IsTooLong limit lines n
