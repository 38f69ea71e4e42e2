-- What a table of requests by number means: the machine's locks and requests (own).
use Rattle.std.specs.Prelude.{◌≡◌, ◌==◌, ℕ, ◌+◌, ◌≤◌, ◌<◌, Bool, true, false, not, Option, Some, List, [], ◌∷◌, map}
use Rattle.std.specs.Prelude.{filter, length}
use Rattle.std.specs.List.{AllByRecursion}
use Rattle.std.specs.List.Sorted.{IsStrictlySortedBy}
use Rattle.std.specs.Map.{keys_of, lookup}
use Rattle.std.specs.BTreeMap.{is_at}
use Rattle.wl_machine.specs.Step.{is_lock_of}
use Rattle.std.specs.Ordering.{nat_cmp}
use Rattle.wl_machine.specs.declared.rows.HeldRow.{HeldRow}
use Rattle.wl_machine.specs.declared.rows.PendingRow.{PendingRow}
use Rattle.wl_index.specs.declared.request.Request.{Request}
use Rattle.wl_index.specs.declared.request.Stage.{Stage}
use Rattle.wl_index.specs.declared.request.Stage.TheVariants.{Pending, Held}
use Rattle.wl_index.specs.inner.GrantOrder.{by_grant_seq, Distinct}

-- a live request with its number
abbrev pub Entry : Type 0
Entry = ℕ × Request

abbrev pub waits : Stage → Bool
waits Pending = true
waits (Held grant_seq taken) = false

abbrev pub holds : Stage → Bool
holds Pending = false
holds (Held grant_seq taken) = true

-- the place of a lock in the order of grants
abbrev pub grant_seq : Stage → ℕ
grant_seq Pending = 0
grant_seq (Held at taken) = at

abbrev pub is_taken : Stage → Bool
is_taken Pending = false
is_taken (Held at taken) = taken

-- a lock that was not taken
abbrev pub is_fresh : Stage → Bool
is_fresh Pending = false
is_fresh (Held at taken) = not taken

abbrev pub taken_stage : Stage → Stage
taken_stage Pending = Pending
taken_stage (Held at taken) = Held at true

abbrev pub waiting : Entry → Bool
waiting e = waits e.1.stage

abbrev pub holding : Entry → Bool
holding e = holds e.1.stage

abbrev pub grant_seq_of : Entry → ℕ
grant_seq_of e = grant_seq e.1.stage

abbrev pub request_row : Entry → PendingRow
request_row e = record { number = e.0; agent = e.1.agent; name = e.1.name; mode = e.1.mode; signal = e.1.signal }

abbrev pub lock_row : Entry → HeldRow
lock_row e = record {
  number = e.0;
  agent = e.1.agent;
  name = e.1.name;
  mode = e.1.mode;
  signal = e.1.signal;
  taken = is_taken e.1.stage;
}

-- those that wait, by number
abbrev pub pending_of : List Entry → List PendingRow
pending_of es = map request_row (filter waiting es)

-- those that hold, by grant sequence
abbrev pub held_of : List Entry → List HeldRow
held_of es = map lock_row (by_grant_seq grant_seq_of (filter holding es))

-- the live requests by number, and the next number
pub record Rows : Type 0 where
  pub entries : List Entry
  pub next : ℕ

-- whose a request is, and by which signal it may be aborted
pub record Tag : Type 0 where
  pub number : ℕ
  pub agent : ℕ
  pub signal : Option ℕ

abbrev pub tag : Entry → Tag
tag e = record { number = e.0; agent = e.1.agent; signal = e.1.signal }

abbrev pub tags_of : List Entry → List Tag
tags_of es = map tag es

abbrev pub other : ℕ → Entry → Bool
other number e = not (e.0 == number)

-- no two requests have one number
abbrev pub Apart : List PendingRow → Type 0
Apart [] = Unit {0}
Apart (request ∷ requests) = AllByRecursion (λ (other : PendingRow). (other.number == request.number) ≡ false) requests
    × Apart requests

-- numbers rise and are below the next; no two locks have one grant sequence, and grant sequences are below the next,
-- which stays within the numbers after one grant for each that waits
pub record IsTable (es : List Entry) (next_grant_seq next : ℕ) : Type 0 where
  pub ordered : IsStrictlySortedBy nat_cmp (keys_of es)
  pub below : AllByRecursion (λ e. e.0 < next) es
  pub below_next : AllByRecursion (λ e. grant_seq_of e < next_grant_seq) es
  pub distinct : Distinct grant_seq_of (filter holding es)
  pub first : 1 ≤ next_grant_seq
  pub room : next_grant_seq + length (filter waiting es) ≤ next
  pub high : next ≤ 9007199254740992

-- the entry of an agent's lock, and the lists without it
pub record IsLock (agent number : ℕ) (es : List Entry) (r : Request) : Type 0 where
  pub there : lookup (is_at (nat_cmp number)) es ≡ Some r
  pub only : filter (is_lock_of agent number) (held_of es) ≡ lock_row (number, r) ∷ []
  pub held : held_of (filter (other number) es) ≡ filter (λ lock. not (is_lock_of agent number lock)) (held_of es)
  pub pending : pending_of (filter (other number) es) ≡ pending_of es
