-- Which requests are granted: Web Locks, "grantable" and "process the lock request queue". The one list of locks, the
-- one list of requests and the order of names are (own): the standard keeps a queue for each name.
use Rattle.std.specs.Prelude.{ℕ, suc, zero, Bool, true, false, ◌&&◌, ◌||◌, List, [], ◌∷◌, ◌++◌, length, map, filter}
use Rattle.std.specs.Prelude.{take, if◌then◌else◌}
use Rattle.std.specs.List.{list_any}
use Rattle.std.specs.Str.{bytes_eq}
use Rattle.wl_types.specs.declared.words.Mode.{Mode}
use Rattle.wl_types.specs.declared.words.Mode.TheVariants.{Exclusive, Shared}
use Rattle.wl_types.specs.declared.phases.Phase.TheVariants.{Granted}
use Rattle.wl_types.specs.declared.phases.Change.{Change}
use Rattle.wl_machine.specs.declared.rows.HeldRow.{HeldRow}
use Rattle.wl_machine.specs.declared.rows.PendingRow.{PendingRow}

abbrev pub is_exclusive : Mode → Bool
is_exclusive Exclusive = true
is_exclusive Shared = false

-- the requests of a name, in their order
abbrev pub queue : List ℕ → List PendingRow → List PendingRow
queue name pending = filter (λ request. bytes_eq request.name name) pending

-- the locks of a name, in their order
abbrev pub locks : List ℕ → List HeldRow → List HeldRow
locks name held = filter (λ lock. bytes_eq lock.name name) held

-- whether one of the locks is exclusive
abbrev pub any_exclusive : List HeldRow → Bool
any_exclusive held = list_any (λ lock. is_exclusive lock.mode) held

abbrev pub is_empty : {X : Type 0} → List X → Bool
is_empty [] = true
is_empty (x ∷ xs) = false

-- whether the first request is exclusive
abbrev pub starts_exclusive : List PendingRow → Bool
starts_exclusive [] = false
starts_exclusive (request ∷ requests) = is_exclusive request.mode

-- the longest prefix that has shared requests only
abbrev pub shared_prefix : List PendingRow → List PendingRow
shared_prefix [] = []
shared_prefix (request ∷ requests) = if is_exclusive request.mode then [] else request ∷ shared_prefix requests

-- what is granted of one name's queue: nothing beside an exclusive lock; an exclusive request that is first, alone,
-- where no lock is held; else the shared requests in front
abbrev pub grants : List HeldRow → List PendingRow → List PendingRow
grants held requests =
    if any_exclusive held then []
    else (if is_empty held && starts_exclusive requests then take 1 requests else shared_prefix requests)

-- the requests without the first of this name, as many as count says. What is granted is a front of one name's queue,
-- which stands scattered in the list of all requests: so it is counted off, name by name, and a filter can't say it
abbrev pub without_first : List ℕ → ℕ → List PendingRow → List PendingRow
without_first name zero pending = pending
without_first name (suc count) [] = []
without_first name (suc count) (request ∷ pending) =
    if bytes_eq request.name name then without_first name count pending
    else request ∷ without_first name (suc count) pending

-- the lock of a request that is granted: untaken
abbrev pub granted_lock : PendingRow → HeldRow
granted_lock request = record {
  number = request.number;
  agent = request.agent;
  name = request.name;
  mode = request.mode;
  signal = request.signal;
  taken = false;
}

abbrev pub grant_change : PendingRow → Change
grant_change request = record { id = request.number; phase = Granted }

-- the lists that processing the queues changes, and the changes so far
pub record Lists : Type 0 where
  pub held : List HeldRow
  pub pending : List PendingRow
  pub changes : List Change

abbrev pub lists_of : List HeldRow → List PendingRow → List Change → Lists
lists_of held pending changes = record { held = held; pending = pending; changes = changes }

-- what one name's queue grants leaves the pending list and goes, untaken, to the end of the held list
abbrev pub process_queue : Lists → List ℕ → Lists
process_queue lists name =
    let granted = grants (locks name lists.held) (queue name lists.pending) in
    record {
      held = lists.held ++ map granted_lock granted;
      pending = without_first name (length granted) lists.pending;
      changes = lists.changes ++ map grant_change granted;
    }

-- name by name, in order
abbrev pub process_queues : Lists → List (List ℕ) → Lists
process_queues lists [] = lists
process_queues lists (name ∷ names) = process_queues (process_queue lists name) names

-- whether a name is in use: it has a lock or a request
abbrev pub in_use : List HeldRow → List PendingRow → List ℕ → Bool
in_use held pending name =
    list_any (λ lock. bytes_eq lock.name name) held || list_any (λ request. bytes_eq request.name name) pending
