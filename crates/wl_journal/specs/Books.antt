-- What contracts see of a book, and what holds inside (own).
use Rattle.std.specs.Prelude.{◌≡◌, ℕ, ◌+◌, List, [], ◌++◌, length}
use Rattle.wl_types.specs.declared.phases.Change.{Change}
use Rattle.wl_machine.specs.State.{State}
use Rattle.wl_journal.specs.declared.entry.Entry.{Entry}

-- the machine's state and the changes of the last call; the state at the last cut, the entries since, and the number
-- ever recorded
pub record Book : Type 0 where
  pub state : State
  pub recent : List Change
  pub base : State
  pub entries : List Entry
  pub total : ℕ

-- the book adds these entries, and keeps its base
pub record Appends (old new : Book) (added : List Entry) : Type 0 where
  pub base : new.base ≡ old.base
  pub entries : new.entries ≡ old.entries ++ added
  pub total : new.total ≡ old.total + length added

-- the entries are handed out, and the base is the state
abbrev pub cut_off : Book → Book
cut_off book = record book { base = book.state; entries = [] }
