-- What the rule of a cell means for what its seats know, and that words tell phases apart (own).
use Rattle.std.specs.Prelude.{◌≡◌, ◌⊎◌, ℕ, true, IsTrue}
use mathlib.Core.Option.{some}
use lib.ListN.{get_elem?}
use Rattle.wl_types.specs.declared.phases.Phase.{Phase}
use Rattle.wl_types.specs.declared.phases.Phase.TheVariants.{Pending, Aborted}
use Rattle.wl_types.specs.declared.words.Reason.{Reason}
use Rattle.wl_types.specs.Phases.{Reaches, is_end}
use Rattle.wl_cell.specs.declared.view.View.{View}
use Rattle.wl_cell.specs.declared.view.View.TheVariants.{First, Keeper, Owner, Watch, Note, Spent}
use Rattle.wl_cell.specs.Rule.{Cell, Kept}
use Rattle.wl_cell.specs.Words.{word_of}

-- a phase that the cell had, as a seat knows
abbrev pub Knows : View → Phase → Type 0
Knows First phase = phase ≡ Pending
Knows (Keeper settled) phase = phase ≡ settled
Knows (Owner took seen) phase = phase ≡ seen
Knows (Watch seen told) phase = (phase ≡ seen) ⊎ (phase ≡ told)
Knows (Note seen) phase = phase ≡ seen
Knows Spent phase = ⊥

-- some seat of the cell knows that it had this phase
abbrev pub IsKnown : Cell → Phase → Type 0
IsKnown cell phase = (number : ℕ) × (view : View) × (get_elem? cell.views number ≡ some view) × Knows view phase

-- of two phases that are known, one reaches the other
abbrev pub SeatsAgree : Type 0
SeatsAgree = (cell : Cell) → Kept cell → (one other : Phase) → IsKnown cell one → IsKnown cell other
    → Reaches one other ⊎ Reaches other one

-- two ends that are known are equal
abbrev pub EndsAreEqual : Type 0
EndsAreEqual =
    (cell : Cell) → Kept cell → (one other : Phase) → IsTrue (is_end one) → IsTrue (is_end other) → IsKnown cell one
    → IsKnown cell other → one ≡ other

-- where the owner took the lock, no abort is known
abbrev pub NoAbortOnceTaken : Type 0
NoAbortOnceTaken =
    (cell : Cell) → Kept cell → (number : ℕ) (seen : Phase) → get_elem? cell.views number ≡ some (Owner true seen)
    → (reason : Reason) → ¬ IsKnown cell (Aborted reason)

-- no two phases share a word, and so no two reasons
abbrev pub WordsTellPhasesApart : Type 0
WordsTellPhasesApart = (one other : Phase) → word_of one ≡ word_of other → one ≡ other
