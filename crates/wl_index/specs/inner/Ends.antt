-- What an abort or a termination ends (own).
use Rattle.std.specs.Prelude.{◌≡◌, ℕ, Bool, true, false, ◌==◌, not, ◌&&◌, List, [], ◌∷◌, ◌++◌, map, filter, Option}
use Rattle.std.specs.Prelude.{Some, None, if◌then◌else◌}
use Rattle.std.specs.List.{AllByRecursion, Contains}
use Rattle.std.specs.Map.{lookup}
use Rattle.std.specs.BTreeMap.{is_at}
use Rattle.std.specs.Option.{IsSome}
use Rattle.std.specs.Ordering.{nat_cmp}
use Rattle.wl_types.specs.declared.phases.Phase.{Phase}
use Rattle.wl_types.specs.declared.phases.Change.{Change}
use Rattle.wl_machine.specs.declared.rows.HeldRow.{HeldRow}
use Rattle.wl_machine.specs.declared.rows.PendingRow.{PendingRow}
use Rattle.wl_machine.specs.State.{State}
use Rattle.wl_machine.specs.Step.{is_signal, is_waiting_on, is_abortable, request_ends, lock_ends}
use Rattle.wl_index.specs.declared.request.Owner.{Owner}
use Rattle.wl_index.specs.declared.request.Owner.TheVariants.{Signal, Agent}
use Rattle.wl_index.specs.declared.request.Standing.{Standing}
use Rattle.wl_index.specs.declared.request.Standing.TheVariants.{Waits, Holds}
use Rattle.wl_index.specs.declared.request.Place.{Place}
use Rattle.wl_index.specs.declared.request.Request.{Request}
use Rattle.wl_index.specs.inner.Rows.{Entry, waiting, holding, request_row, lock_row, other}
use Rattle.wl_index.specs.inner.Order.{place_of}

-- the requests that end with their owner
abbrev pub ends_request : Owner → PendingRow → Bool
ends_request (Signal agent signal) request = is_waiting_on agent signal request
ends_request (Agent agent) request = request.agent == agent

-- the locks that end with their owner
abbrev pub ends_lock : Owner → HeldRow → Bool
ends_lock (Signal agent signal) lock = is_abortable agent signal lock
ends_lock (Agent agent) lock = lock.agent == agent

-- whose a live request is
abbrev pub is_owned : Owner → Entry → Bool
is_owned (Signal agent signal) e = e.1.agent == agent && is_signal signal e.1.signal
is_owned (Agent agent) e = e.1.agent == agent

-- numbers that find all live requests of an owner
abbrev pub IsOwners : Owner → List Entry → List ℕ → Type 0
IsOwners owner es numbers = AllByRecursion (λ (e : Entry). is_owned owner e ≡ true → Contains numbers e.0) es

-- nothing of an agent is live
abbrev pub HasNone : Owner → List Entry → Type 0
HasNone (Signal agent signal) es = Unit {0}
HasNone (Agent agent) es = AllByRecursion (λ (e : Entry). (e.1.agent == agent) ≡ false) es

-- the entries that stand so, and end with their owner
abbrev pub ends_entry : Owner → Standing → Entry → Bool
ends_entry owner Waits e = waiting e && ends_request owner (request_row e)
ends_entry owner Holds e = holding e && ends_lock owner (lock_row e)

-- without those
abbrev pub without_ends : Owner → Standing → List Entry → List Entry
without_ends owner standing es = filter (λ e. not (ends_entry owner standing e)) es

-- the places of the locks that end with their owner, by number
abbrev pub untaken_places : Owner → List Entry → List Place
untaken_places owner es = map place_of (filter (λ e. ends_lock owner (lock_row e)) (filter holding es))

-- the place of a request of this number that passes
abbrev pub place_if : (Entry → Bool) → ℕ → Option Request → Option Place
place_if passes number None = None
place_if passes number (Some r) = if passes (number, r) then Some (place_of (number, r)) else None

-- the ends of what has these places
abbrev pub place_ends : Phase → List Place → List Change
place_ends phase places = map (λ (p : Place). record { id = p.number; phase = phase }) places

-- the numbers of these places
abbrev pub numbers_of : List Place → List ℕ
numbers_of places = map (λ (p : Place). p.number) places

-- each of these is live when its turn to end comes
abbrev pub AreLive : List ℕ → List Entry → Type 0
AreLive [] es = Unit {0}
AreLive (number ∷ numbers) es = IsSome (lookup (is_at (nat_cmp number)) es) × AreLive numbers (filter (other number) es)

-- without what ends with its owner
abbrev pub without_owned : Owner → State → State
without_owned owner s = record s {
  held = filter (λ lock. not (ends_lock owner lock)) s.held;
  pending = filter (λ request. not (ends_request owner request)) s.pending;
}

-- those requests, and then those locks
abbrev pub owned_ends : Owner → Phase → Phase → State → List Change
owned_ends owner waiting held s = request_ends waiting (filter (ends_request owner) s.pending)
    ++ lock_ends held (filter (ends_lock owner) s.held)
