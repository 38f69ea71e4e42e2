-- What each step on the word of a cell tells the seat that makes it (own).
use Rattle.std.specs.Prelude.{◌≡◌, ◌⊎◌, ℕ, ◌<◌, true, false}
use Rattle.atomic_table.specs.Table.{Me, Step}
use Rattle.wl_types.specs.declared.phases.Phase.{Phase}
use Rattle.wl_types.specs.declared.phases.Phase.TheVariants.{Pending, Granted, Taken, Aborted}
use Rattle.wl_types.specs.declared.words.Reason.{Reason}
use Rattle.wl_types.specs.Phases.{Reaches}
use Rattle.wl_cell.specs.declared.view.View.{View}
use Rattle.wl_cell.specs.declared.view.View.TheVariants.{Keeper, Owner, Watch, Note, Spent}
use Rattle.wl_cell.specs.Words.{word_of, word_count}
use Rattle.wl_cell.specs.Rule.{took}

-- a seat's view; it holds no slot
abbrev pub Mine : Type 0
Mine = Me (Unit {0}) View

-- what a seat has seen reaches this phase
abbrev pub Precedes : View → Phase → Type 0
Precedes (Owner t seen) word = Reaches seen word
Precedes (Watch seen told) word = Reaches seen word × Reaches told word
Precedes view word = Unit {0}

-- the view after a load that found this phase
abbrev pub seeing : View → Phase → View
seeing (Owner t seen) word = Owner t word
seeing (Watch seen told) word = Watch word Pending
seeing view word = view

-- a load found the word of a phase that all that was seen reaches
abbrev pub Looked : Step (Unit {0}) → Mine → ℕ → Mine → Type 0
Looked step before found after =
    (word : Phase) × (word_of word < word_count) × (found ≡ word_of word) × Precedes before.0 word
    × (after ≡ (seeing before.0 word, before.1))

-- the keeper's phase is the one stored
abbrev pub Settled : Step (Unit {0}) → Mine → ℕ → Mine → Type 0
Settled step before found after = (word : Phase) × (step.first ≡ word_of word) × (after ≡ (Keeper word, before.1))

-- the view after the owner's exchange, which takes the lock where it found Granted
abbrev pub taking : View → Phase → View
taking (Owner t seen) Granted = Owner true Taken
taking (Owner t seen) word = Owner t word
taking view word = view

-- the owner's exchange found the word of a phase; where that is Granted, the owner hadn't taken the lock before
abbrev pub Exchanged : Step (Unit {0}) → Mine → ℕ → Mine → Type 0
Exchanged step before found after =
    (word : Phase) × (word_of word < word_count) × (found ≡ word_of word) × Precedes before.0 word
    × (word ≡ Granted → took before.0 ≡ false)
    × (after ≡ (taking before.0 word, before.1))

-- the keeper's exchange found Granted, and the phase is now the abort that it wrote; or it found Taken, which stays
abbrev pub TriedAbort : Step (Unit {0}) → Mine → ℕ → Mine → Type 0
TriedAbort step before found after =
    ((found ≡ word_of Granted) × ((reason : Reason) × (step.second ≡ word_of (Aborted reason))
    × (after ≡ (Keeper (Aborted reason), before.1))))
    ⊎ ((found ≡ word_of Taken) × (after ≡ (Keeper Taken, before.1)))

-- the first seat is the owner's once the keeper's is split off it
abbrev pub owner_at_first : View
owner_at_first = Owner false Pending

abbrev pub keeper_at_first : View
keeper_at_first = Keeper Pending

-- a watch and a note have seen what the owner has
abbrev pub watch_of : View → View
watch_of (Owner t seen) = Watch seen Pending
watch_of view = Spent

abbrev pub note_of : View → View
note_of (Owner t seen) = Note seen
note_of view = Spent

-- what a watch knows once it has read a note
abbrev pub told : View → View → View
told (Watch seen before) (Note new) = Watch seen new
told view other = view
