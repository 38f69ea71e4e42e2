-- The locks and the requests of all names, and what is still to be processed (own).
use Rattle.std.specs.Prelude.{◌≡◌, ℕ, ◌+◌, ◌*◌, ◌≤◌, ◌<◌, ◌==◌, Bool, true, false, not, ◌&&◌, List, [], ◌∷◌, length}
use Rattle.std.specs.Prelude.{filter, None}
use Rattle.std.specs.Str.{bytes_eq}
use Rattle.std.specs.List.{list_any, AllByRecursion}
use Rattle.std.specs.List.Sorted.{IsStrictlySortedBy}
use Rattle.std.specs.Map.{keys_of}
use Rattle.std.specs.Ordering.{nat_cmp}
use Rattle.wl_types.specs.declared.ask.Ask.{Ask}
use Rattle.wl_types.specs.declared.phases.Change.{Change}
use Rattle.wl_types.specs.declared.words.Mode.TheVariants.{Exclusive}
use Rattle.wl_machine.specs.declared.rows.HeldRow.{HeldRow}
use Rattle.wl_machine.specs.declared.rows.PendingRow.{PendingRow}
use Rattle.wl_machine.specs.Grants.{Lists, grants, in_use, locks, queue, process_queues}
use Rattle.wl_index.specs.declared.request.Request.{Request}
use Rattle.wl_index.specs.declared.request.Stage.TheVariants.{Pending}
use Rattle.wl_index.specs.inner.Event.{Happened}
use Rattle.wl_index.specs.inner.NameQueue.{Matches}
use Rattle.wl_index.specs.inner.Queues.{AreQueues, Placed, names_of, place_of}
use Rattle.wl_index.specs.inner.Rows.{Entry, Rows, holding, held_of, pending_of}

-- the live requests, the next number, the names in use and the changes
pub record Board : Type 0 where
  pub entries : List Entry
  pub next : ℕ
  pub names : List (List ℕ)
  pub changes : List Change

abbrev pub board : Rows → List Placed → Happened → Board
board rows queues event = record {
  entries = rows.entries;
  next = rows.next;
  names = names_of queues;
  changes = event.changes;
}

-- the request that an agent asks for
abbrev pub request_for : ℕ → Ask → Request
request_for agent ask = record { agent = agent; name = ask.name; mode = ask.mode; signal = ask.signal; stage = Pending }

-- whether an entry is no lock of this name
abbrev pub no_lock_on : List ℕ → Entry → Bool
no_lock_on name e = not (holding e && bytes_eq e.1.name name)

-- nothing is left to grant
abbrev pub IsQuiet : List HeldRow → List PendingRow → Type 0
IsQuiet held pending = (name : List ℕ) → grants (locks name held) (queue name pending) ≡ []

-- whether a place is among these
abbrev pub has_place : List ℕ → ℕ → Bool
has_place touched place = list_any (λ p. p == place) touched

-- a queue says what the lists say of its name; if it isn't touched, nothing of it is left to grant, and its name is in
-- use
pub record QueueStands (held : List HeldRow) (pending : List PendingRow) (touched : List ℕ) (e : Placed) : Type 0 where
  pub matched : Matches e.1 held pending
  pub quiet : has_place touched e.0 ≡ false → grants (locks e.1.name held) (queue e.1.name pending) ≡ []
  pub used : has_place touched e.0 ≡ false → in_use held pending e.1.name ≡ true

-- each queue does, and what is locked or requested has a queue
pub record Stands (queues : List Placed) (held : List HeldRow) (pending : List PendingRow) (touched : List ℕ) : Type 0
  where
    pub are : AreQueues queues
    pub each : AllByRecursion (QueueStands held pending touched) queues
    pub known : (name : List ℕ) → place_of name queues ≡ None → (locks name held ≡ []) × (queue name pending ≡ [])

-- numbers rise; each queue's place is the number of a request; each live request has room to change, twice if it waits
pub record AreLocks (rows : Rows) (queues : List Placed) (event : Happened) : Type 0 where
  pub ordered : IsStrictlySortedBy nat_cmp (keys_of rows.entries)
  pub stands : Stands queues (held_of rows.entries) (pending_of rows.entries) event.touched
  pub below : AllByRecursion (λ e. e.0 < rows.next) queues
  pub room : length (held_of rows.entries) + 2 * length (pending_of rows.entries) ≤ event.room

-- on the way to the lists that processing all names gives, and to the names that are then in use: the touched are still
-- to be processed
pub record Underway (target : Lists) (stay : List (List ℕ)) (queues : List Placed) (now : Lists)
    (touched : List ℕ) : Type 0 where
  pub reaches : process_queues now (names_of queues) ≡ target
  pub staying : filter (in_use target.held target.pending) (names_of queues) ≡ stay
  pub stands : Stands queues now.held now.pending touched

-- one request of this number waits, for this name, and is exclusive
pub record WaitsAlone (number : ℕ) (name : List ℕ) (pending : List PendingRow) : Type 0 where
  pub row : PendingRow
  pub only : filter (λ (request : PendingRow). request.number == number) pending ≡ row ∷ []
  pub named : row.name ≡ name
  pub mode : row.mode ≡ Exclusive
