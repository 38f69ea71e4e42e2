-- The rule of a cell (own): what holds of its word and of what all its seats know, between any two steps.
-- Web Locks says when a promise is settled; that a phase is published in one atomic word is this project's.
use Rattle.std.specs.Prelude.{◌≡◌, ◌≢◌, ◌⊎◌, ℕ, ◌<◌, Bool, true, false, [], ◌∷◌, length}
use mathlib.Core.Option.{some}
use lib.ListN.{get_elem?}
use Rattle.atomic_table.specs.Table.{State}
use Rattle.wl_types.specs.declared.phases.Phase.{Phase}
use Rattle.wl_types.specs.declared.phases.Phase.TheVariants.{Pending, Granted, Taken}
use Rattle.wl_types.specs.Phases.{Reaches}
use Rattle.wl_cell.specs.declared.view.View.{View}
use Rattle.wl_cell.specs.declared.view.View.TheVariants.{First, Keeper, Owner, Watch, Note, Spent}
use Rattle.wl_cell.specs.Words.{word_of, word_count}

-- the words of a cell and the views of its seats, by their numbers
abbrev pub Cell : Type 0
Cell = State (Unit {0}) View

-- the keeper's phase is the word's, or Granted where the owner took the lock since
abbrev pub UpToTaken : Phase → Phase → Type 0
UpToTaken settled word = (settled ≡ word) ⊎ ((settled ≡ Granted) × (word ≡ Taken))

-- What the view of a seat says: of how many seats there are, the phase of the word, and the seat's number.
-- The owner's seat is the first and the keeper's the second. What a seat has seen reaches the word.
abbrev pub Fits : ℕ → Phase → ℕ → View → Type 0
Fits seats word number First = (number ≡ 0) × (seats ≡ 1) × (word ≡ Pending)
Fits seats word number (Keeper settled) = (number ≡ 1) × (1 < seats) × UpToTaken settled word
Fits seats word number (Owner took seen) = (number ≡ 0) × Reaches seen word × (took ≡ true → Reaches Taken word)
    × (took ≡ false → word ≢ Taken)
Fits seats word number (Watch seen told) = Reaches seen word × Reaches told word
Fits seats word number (Note seen) = Reaches seen word
Fits seats word number Spent = Unit {0}

-- the rule: the word is a phase's, and the view of each seat fits it
pub record Kept (cell : Cell) : Type 0 where
  pub phase : Phase
  pub range : word_of phase < word_count
  pub word : cell.words ≡ word_of phase ∷ []
  pub seats : (number : ℕ) (view : View) → get_elem? cell.views number ≡ some view
      → Fits (length cell.views) phase number view

-- the phase that a seat saw last
abbrev pub seen : View → Phase
seen (Owner t s) = s
seen (Watch s told) = s
seen view = Pending

-- whether it is the owner's seat, and the owner took the lock
abbrev pub took : View → Bool
took (Owner t s) = t
took view = false
