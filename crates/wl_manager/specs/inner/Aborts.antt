-- What only the code of this crate says (own), beside `Aborts`.
use Rattle.std.specs.Prelude.{◌≡◌, ℕ, List, [], ◌∷◌, map, filter, not, if◌then◌else◌}
use Rattle.wl_types.specs.declared.words.Reason.{Reason}
use Rattle.wl_types.specs.declared.phases.Phase.TheVariants as phase
use Rattle.wl_machine.specs.declared.command.Reply.TheVariants.{Aborted}
use Rattle.wl_machine.specs.Step.{untaken_numbers}
use Rattle.wl_machine.specs.OneMove.{phases_in}
use Rattle.wl_machine.specs.Standing.{IsStanding, is_in}
use Rattle.wl_journal.specs.Books.{Book, Appends}
use Rattle.wl_manager.specs.Keepers.{Kept, phases_at, cells_at}
use Rattle.wl_manager.specs.Aborts.{AreInOrder, Found, numbers_of, take_entry, taken, with_takes}

-- the others, which were aborted
abbrev pub aborted : Found → List ℕ
aborted found = map (λ lock. lock.0) (filter (λ lock. not lock.1) found)

-- These granted locks of a signal were tried, in the order of their numbers, and so they were found. The takes found
-- are entered, so that the signal's other locks are left to an abort, and the keepers of those that were aborted are at
-- the abort
pub record Tried (old : Book) (old_kept : Kept) (agent signal : ℕ) (reason : Reason) (new : Book) (new_kept : Kept)
    (found : Found) (locks : List ℕ) : Type 0 where
  pub order : AreInOrder (numbers_of found) locks
  pub left : untaken_numbers new.state agent signal ≡ filter (λ id. not (is_in id (taken found)))
      (untaken_numbers old.state agent signal)
  pub state : new.state ≡ with_takes old.state found
  pub appends : Appends old new (map take_entry (taken found))
  pub standing : IsStanding new.state
  pub phases : (id : ℕ) → phases_at id new_kept ≡ (if is_in id (aborted found) then phase.Aborted reason ∷ []
      else phases_in new.state id)
  pub cells : (id : ℕ) → cells_at id new_kept ≡ cells_at id old_kept

-- all of them were tried
abbrev pub TriedAll : Book → Kept → ℕ → ℕ → Reason → Book → Kept → Found → Type 0
TriedAll old old_kept agent signal reason new new_kept found =
    Tried old old_kept agent signal reason new new_kept found (untaken_numbers old.state agent signal)
