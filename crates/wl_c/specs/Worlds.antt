-- What the calls of a world do (own). A world is live until a growth is refused.
use Rattle.std.specs.Prelude.{ℕ, List, [], ◌∷◌, ◌++◌, ◌≡◌, ◌≤◌, ◌<◌, length, Bool, if◌then◌else◌, Option, Some, None}
use Rattle.std.specs.Prelude.{option_map, Result, Ok, Err}
use Rattle.wl_world.specs.World.{World, next, reply, opening}
use Rattle.wl_world.specs.Worlds.{world_of}
use Rattle.wl_codec.specs.Lines.{HasNoLf}
use Rattle.wl_script.specs.Lines.{lines}
use Rattle.wl_script.specs.Audits.{Audited}
use Rattle.wl_c.specs.declared.world.Live.{Live}
use Rattle.wl_c.specs.declared.fault.Fault.{Fault}
use Rattle.wl_c.specs.declared.fault.Fault.TheVariants.{Memory, Spent, NoBooks, Null, TooLong, LineFeed}

abbrev pub world_of_live : Live → World
world_of_live live = world_of live.engine

-- the lines that were answered, each with an LF, where books are kept
abbrev pub script_of : Live → Option (List ℕ)
script_of live = option_map (λ script. script.items) live.script

-- the script with one more line
abbrev pub longer : List ℕ → Option (List ℕ) → Option (List ℕ)
longer line script = option_map (λ lines. lines ++ line ++ 10 ∷ []) script

-- nobody opened, and books are kept as was asked
abbrev pub IsOpening : Bool → Option Live → Type 0
IsOpening keeps_books None = ⊥
IsOpening keeps_books (Some live) = (world_of_live live ≡ opening)
    × (script_of live ≡ (if keeps_books then Some [] else None))

-- these bytes are one line, without its LF, and not over the limit
abbrev pub IsLine : List ℕ → Type 0
IsLine line = (length line ≤ 65536) × HasNoLf line

-- the line was answered: so is its reply, and such is the world after it
abbrev pub Steps : Live → List ℕ → Option Live → List ℕ → Type 0
Steps before line None said = ⊥
Steps before line (Some now) said = IsLine line × (world_of_live now ≡ next (world_of_live before) line)
    × (said ≡ reply (world_of_live before) line)
    × (script_of now ≡ longer line (script_of before))

-- why the line wasn't answered, and what is left
abbrev pub Refuses : Live → List ℕ → Fault → Option Live → Type 0
Refuses before line Memory now = (now ≡ None) × IsLine line
Refuses before line TooLong now = (now ≡ Some before) × (65536 < length line)
Refuses before line LineFeed now = (now ≡ Some before) × (HasNoLf line → ⊥)
Refuses before line Spent now = ⊥
Refuses before line NoBooks now = ⊥
Refuses before line Null now = ⊥

-- what a call with a line does to a live world
abbrev pub AnswersLive : Live → List ℕ → Result (Unit {0}) Fault → Option Live → List ℕ → Type 0
AnswersLive before line (Ok done) now said = Steps before line now said
AnswersLive before line (Err fault) now said = Refuses before line fault now

-- .. and to a world
abbrev pub Answers : Option Live → List ℕ → Result (Unit {0}) Fault → Option Live → List ℕ → Type 0
Answers None line outcome now said = (outcome ≡ Err Spent) × (now ≡ None)
Answers (Some before) line outcome now said = AnswersLive before line outcome now said

-- these bytes are the lines of the audit of the script
abbrev pub IsAudit : Option (List ℕ) → List ℕ → Type 0
IsAudit None said = ⊥
IsAudit (Some script) said = (n : ℕ) × Audited (lines script) n (Some []) (Some said)

-- why there is no audit, and what is left
abbrev pub RefusesAudit : Live → Fault → Option Live → Type 0
RefusesAudit before Memory now = now ≡ None
RefusesAudit before NoBooks now = (now ≡ Some before) × (script_of before ≡ None)
RefusesAudit before Spent now = ⊥
RefusesAudit before Null now = ⊥
RefusesAudit before TooLong now = ⊥
RefusesAudit before LineFeed now = ⊥

-- what an audit does to a live world
abbrev pub AuditsLive : Live → Result (Unit {0}) Fault → Option Live → List ℕ → Type 0
AuditsLive before (Ok done) now said = (now ≡ Some before) × IsAudit (script_of before) said
AuditsLive before (Err fault) now said = RefusesAudit before fault now

-- .. and to a world
abbrev pub Audits : Option Live → Result (Unit {0}) Fault → Option Live → List ℕ → Type 0
Audits None outcome now said = (outcome ≡ Err Spent) × (now ≡ None)
Audits (Some before) outcome now said = AuditsLive before outcome now said
