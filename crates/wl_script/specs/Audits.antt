-- What an audit writes (own): a line for each manager whose journal has an entry. Below, "origin" stands for the bucket
-- of an origin that it is the manager of.
use Rattle.std.specs.Prelude.{ℕ, ◌+◌, ◌≡◌, ◌==◌, ◌≤◌, ◌<◌, ◌++◌, ◌∷◌, ◌⊎◌, [], List, Bool, true, not, codes, filter}
use Rattle.std.specs.Prelude.{length, take, All, Option, if◌then◌else◌}
use Rattle.std.specs.List.{flat_map}
use Rattle.std.specs.Io.KnownBytes.{Appends, Keeps}
use Rattle.serde_json.specs.Data.{Data, boolean, number, unsigned, string, object, member, Members, no_members}
use Rattle.serde_json.specs.Written.{compact_text}
use Rattle.wl_origin.specs.Bucket.{is_default}
use Rattle.wl_origin.specs.Origin.{tuple_text}
use Rattle.wl_origin.specs.declared.manager_key.ManagerKey.{ManagerKey}
use Rattle.wl_world.specs.Cores.{IsListOf}
use Rattle.wl_world.specs.Entries.{script_entries}
use Rattle.wl_world.specs.World.{opening}
use Rattle.wl_script.specs.Leaves.{IsTooLong, AnswersAtOnce}
use Rattle.wl_script.specs.declared.fault.ScriptFault.{ScriptFault}
use Rattle.wl_script.specs.declared.fault.ScriptFault.TheVariants.{Memory, Read, Write, LineTooLong, TooManyTurns}

-- the origins that have a line: those where something was recorded
abbrev pub with_entries : List (ManagerKey × ℕ) → List (ManagerKey × ℕ)
with_entries counts = filter (λ origin. not (origin.1 == 0)) counts

-- what every line has
abbrev pub audit_members : ℕ → Bool → List ℕ → Members
audit_members entries legal origin =
    member (codes "entries") (number (unsigned entries)) (member (codes "legal") (boolean legal)
    (member (codes "origin") (string origin) no_members))

-- a line begins with its bucket, where that isn't the default one
abbrev pub audit_value : List ℕ → ℕ → Bool → List ℕ → Data
audit_value bucket entries legal origin =
    object (if is_default bucket then audit_members entries legal origin
    else member (codes "bucket") (string bucket) (audit_members entries legal origin))

-- an origin's line: its journal is legal
abbrev pub audit_line : ManagerKey → ℕ → List ℕ
audit_line key entries = compact_text (audit_value key.bucket entries true (tuple_text key.origin)) ++ 10 ∷ []

-- the lines of these origins
abbrev pub audit_text : List (ManagerKey × ℕ) → List ℕ
audit_text counts = flat_map (λ origin. audit_line origin.0 origin.1) (with_entries counts)

-- the lines of all these origins were written, which are n
pub record WritesOrigins (counts : List (ManagerKey × ℕ)) (n : ℕ) (old new : Option (List ℕ)) : Type 0 where
  pub count : n ≡ length (with_entries counts)
  pub written : Appends old new (audit_text counts)

-- the lines of the first of these origins were written
pub record WritesFirst (counts : List (ManagerKey × ℕ)) (old new : Option (List ℕ)) : Type 0 where
  pub front : List (ManagerKey × ℕ)
  pub back : List (ManagerKey × ℕ)
  pub split : counts ≡ front ++ back
  pub written : Appends old new (audit_text front)

-- the lines of the first n origins were written, and then a part of the line of the next, but not all of it
pub record WritesWithin (counts : List (ManagerKey × ℕ)) (n : ℕ) (old new : Option (List ℕ)) : Type 0 where
  pub front : List (ManagerKey × ℕ)
  pub origin : ManagerKey × ℕ
  pub back : List (ManagerKey × ℕ)
  pub split : counts ≡ front ++ origin ∷ back
  pub count : n ≡ length (with_entries front)
  pub part : List ℕ
  pub more : List ℕ
  pub some : 0 < length more
  pub text : audit_line origin.0 origin.1 ≡ part ++ more
  pub written : Appends old new (audit_text front ++ part)

-- the origins of a script's lines, in the order of their keys, with the entries of each, and what was written of them
abbrev pub OfScript : List (List ℕ) → (List (ManagerKey × ℕ) → Type 0) → Type 0
OfScript lines Wrote = (counts : List (ManagerKey × ℕ)) × IsListOf 0 (λ key. script_entries key opening lines) counts
    × Wrote counts

-- the lines of all n origins were written
abbrev pub Audited : List (List ℕ) → ℕ → Option (List ℕ) → Option (List ℕ) → Type 0
Audited lines n old new = OfScript lines (λ counts. WritesOrigins counts n old new)

-- the first n of the lines were done: there are so many, and none of them is longer than the limit
abbrev pub DoneFirst : ℕ → List (List ℕ) → ℕ → Type 0
DoneFirst limit lines n = (n ≤ length lines) × All (λ line. length line ≤ limit) (take n lines)

-- What a fault leaves. Before the end of the script nothing is written.
abbrev pub LeavesAudit : ℕ → List (List ℕ) → ScriptFault → Option (List ℕ) → Option (List ℕ) → Type 0
LeavesAudit limit lines (Memory n) old new = (DoneFirst limit lines n × Keeps old new)
    ⊎ ((n ≡ length lines) × OfScript lines (λ counts. WritesFirst counts old new))
LeavesAudit limit lines (Write n) old new = OfScript lines (λ counts. WritesWithin counts n old new)
LeavesAudit limit lines (Read n) old new = DoneFirst limit lines n × Keeps old new
LeavesAudit limit lines (TooManyTurns n) old new = DoneFirst limit lines n × Keeps old new
LeavesAudit limit lines (LineTooLong n) old new = DoneFirst limit lines n × Keeps old new × IsTooLong limit lines n

-- A fault's number is that of the lines that were done: of those that were read all but some of the last read, as in a
-- run; or all of the script, where memory was refused behind its end. `Write` counts origins
abbrev pub CountsDone : List (List ℕ) → ScriptFault → Option (List ℕ) → Option (List ℕ) → Type 0
CountsDone lines (Memory n) old new = (n ≡ length lines) ⊎ AnswersAtOnce (Memory n) old new
CountsDone lines (Write n) old new = Unit {0}
CountsDone lines (Read n) old new = AnswersAtOnce (Read n) old new
CountsDone lines (TooManyTurns n) old new = AnswersAtOnce (TooManyTurns n) old new
CountsDone lines (LineTooLong n) old new = AnswersAtOnce (LineTooLong n) old new
