-- What an abort finds and what it enters (own).
use Rattle.std.specs.Prelude.{◌≡◌, ℕ, Bool, List, [], ◌++◌, map, filter}
use Rattle.std.specs.List.Sorted.{IsStrictlySortedBy}
use Rattle.std.specs.Ordering.{nat_cmp}
use Rattle.wl_types.specs.declared.words.Reason.{Reason}
use Rattle.wl_types.specs.declared.answers.AbortAnswer.{AbortAnswer}
use Rattle.wl_types.specs.declared.answers.AbortAnswer.TheVariants.{AlreadyAborted}
use Rattle.wl_types.specs.declared.answers.TakeAnswer.TheVariants.{Taken}
use Rattle.wl_machine.specs.declared.command.Command.TheVariants.{Take, Abort}
use Rattle.wl_machine.specs.declared.command.Reply.TheVariants.{Took, Aborted}
use Rattle.wl_machine.specs.State.{State}
use Rattle.wl_machine.specs.Step.{Gives, state_after, untaken_numbers}
use Rattle.wl_machine.specs.Standing.{is_in}
use Rattle.wl_journal.specs.declared.entry.Entry.{Entry}
use Rattle.wl_journal.specs.Books.{Appends}
use Rattle.wl_journal.specs.History.{recorded}
use Rattle.wl_manager.specs.Locked.{Inner, KeepsCells}

-- locks by number, each with whether its owner was found to have taken it
abbrev pub Found : Type 0
Found = List (ℕ × Bool)

abbrev pub numbers_of : Found → List ℕ
numbers_of found = map (λ lock. lock.0) found

-- those that were found taken
abbrev pub taken : Found → List ℕ
taken found = map (λ lock. lock.0) (filter (λ lock. lock.1) found)

abbrev pub take_entry : ℕ → Entry
take_entry id = record { command = Take id; reply = Took Taken }

-- the state once the takes that were found are entered
abbrev pub with_takes : State → Found → State
with_takes s found = state_after (map (λ id. Take id) (taken found)) s

-- these numbers are all of those, each once, and rise
pub record AreInOrder (numbers all : List ℕ) : Type 0 where
  pub rising : IsStrictlySortedBy nat_cmp numbers
  pub same : (id : ℕ) → is_in id numbers ≡ is_in id all

-- an abort: its exchanges found this of the signal's granted locks, in the order of their numbers. The machine's step
-- and answer are those of the state with the takes found; each such take is entered, in that order, and then just the
-- abort's own entry. A second abort finds nothing, and enters nothing
pub record Aborts (old new : Inner) (agent signal : ℕ) (reason : Reason) (answer : AbortAnswer) (found : Found) : Type 0
  where
    pub locks : AreInOrder (numbers_of found) (untaken_numbers old.book.state agent signal)
    pub gives : Gives (with_takes old.book.state found) (Abort agent signal reason) new.book.state (Aborted answer)
        new.book.recent
    pub appends : Appends old.book new.book (map take_entry (taken found)
        ++ recorded (Abort agent signal reason) (Aborted answer))
    pub cells : KeepsCells old new
    pub again : answer ≡ AlreadyAborted → found ≡ []
