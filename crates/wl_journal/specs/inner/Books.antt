-- What only the code of this crate says (own), beside `Books`.
use Rattle.std.specs.Prelude.{◌≡◌, ℕ, ◌+◌, ◌<◌, ◌≤◌, ◌^◌, List, length}
use Rattle.wl_machine.specs.State.{State}
use Rattle.wl_journal.specs.declared.entry.Entry.{Entry}
use Rattle.wl_journal.specs.History.{IsLegal, state_of}
use Rattle.wl_journal.specs.inner.Room.{entries_owed}

-- the entries are legal and lead from the base to the state, and there is room for those still owed
pub record IsKept (base state : State) (entries : List Entry) (owed room handed_out : ℕ) : Type 0 where
  pub legal : IsLegal base entries
  pub leads : state ≡ state_of base entries
  pub counted : entries_owed state ≤ owed
  pub roomy : length entries + owed ≤ room
  pub bounded : handed_out < 2 ^ 62
