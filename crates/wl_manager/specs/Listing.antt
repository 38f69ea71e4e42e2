-- What a manager lists of a state (own): the locks in grant order and then the requests that wait, each name's in queue
-- order, so many rows at most; the others are counted. Of the times nothing is said but that a lock alone has one of
-- its grant.
use Rattle.std.specs.Prelude.{◌≡◌, ℕ, ◌+◌, ◌-◌, Bool, true, false, List, length, map, take, is_some}
use Rattle.wl_types.specs.declared.words.Mode.{Mode}
use Rattle.wl_machine.specs.declared.rows.HeldRow.{HeldRow}
use Rattle.wl_machine.specs.declared.rows.PendingRow.{PendingRow}
use Rattle.wl_machine.specs.Standing.{IsStanding}
use Rattle.wl_machine.specs.State.{State}
use Rattle.wl_manager.specs.declared.lock_list.LockRow.{LockRow}
use Rattle.wl_manager.specs.declared.lock_list.LockList.{LockList}

-- a row, but for its times
pub record Listed : Type 0 where
  pub client : ℕ
  pub request : ℕ
  pub name : List ℕ
  pub mode : Mode
  pub granted : Bool

abbrev pub as_listed : LockRow → Listed
as_listed row = record {
  client = row.client;
  request = row.request;
  name = row.name;
  mode = row.mode;
  granted = is_some row.since_granted;
}

abbrev pub of_lock : HeldRow → Listed
of_lock lock = record { client = lock.agent; request = lock.number; name = lock.name; mode = lock.mode; granted = true }

abbrev pub of_request : PendingRow → Listed
of_request request = record {
  client = request.agent;
  request = request.number;
  name = request.name;
  mode = request.mode;
  granted = false;
}

-- the list is of this state: its first rows, at most so many, and how many there are beside them
pub record Lists (s : State) (most : ℕ) (list : LockList) : Type 0 where
  pub held : map as_listed list.held.items ≡ map of_lock (take most s.held)
  pub pending : map as_listed list.pending.items ≡ map of_request (take (most - length s.held) s.pending)
  pub left_out : list.left_out ≡ length s.held + length s.pending - most

-- it is of some state of the machine
abbrev pub MayList : ℕ → LockList → Type 0
MayList most list = (s : State) × IsStanding s × Lists s most list
