-- The names in use: the queue of each, by the number of the request that brought the name into use (own).
use Rattle.std.specs.Prelude.{◌≡◌, ℕ, ◌<◌, ◌==◌, Bool, false, not, ◌&&◌, List, [], ◌∷◌, ◌++◌, map, filter, Option, Some}
use Rattle.std.specs.Prelude.{None, if◌then◌else◌}
use Rattle.std.specs.Str.{bytes_eq}
use Rattle.std.specs.List.{AllByRecursion}
use Rattle.std.specs.List.Sorted.{IsStrictlySortedBy}
use Rattle.std.specs.Map.{keys_of, lookup}
use Rattle.std.specs.BTreeMap.{is_at}
use Rattle.std.specs.Ordering.{nat_cmp}
use Rattle.wl_types.specs.declared.words.Mode.{Mode}
use Rattle.wl_index.specs.inner.NameQueue.{Waiting, is_busy, next_grant, with_one_more}

-- a queue and its place
abbrev pub Placed : Type 0
Placed = ℕ × Waiting

-- the names in use, in the order in which they came into use
abbrev pub names_of : List Placed → List (List ℕ)
names_of queues = map (λ e. e.1.name) queues

-- the place of a name's queue
abbrev pub place_of : List ℕ → List Placed → Option ℕ
place_of name [] = None
place_of name (e ∷ queues) = if bytes_eq e.1.name name then Some e.0 else place_of name queues

-- a name's queue
abbrev pub queue_of : List ℕ → List Placed → Option Waiting
queue_of name [] = None
queue_of name (e ∷ queues) = if bytes_eq e.1.name name then Some e.1 else queue_of name queues

-- the queue at a place
abbrev pub at_place : ℕ → List Placed → Option Waiting
at_place place queues = lookup (is_at (nat_cmp place)) queues

-- the number that the queue at a place grants next
abbrev pub grant_at : Option Waiting → Option ℕ
grant_at None = None
grant_at (Some w) = next_grant w

-- the queue at a place, changed
abbrev pub changed : ℕ → (Waiting → Waiting) → Placed → Placed
changed place f e = (e.0, if e.0 == place then f e.1 else e.1)

abbrev pub with_updated : ℕ → (Waiting → Waiting) → List Placed → List Placed
with_updated place f queues = map (changed place f) queues

-- a request of this name comes to the end of its queue; a name that is out of use comes into use behind all others
abbrev pub with_joined_at : Option ℕ → List ℕ → ℕ → Mode → List Placed → List Placed
with_joined_at None name number mode queues = queues ++ (
  number,
  record { name = name; waits = (number, mode) ∷ []; holders = [] },
) ∷ []
with_joined_at (Some place) name number mode queues = with_updated place (λ w. with_one_more w number mode) queues

abbrev pub with_joined : List ℕ → ℕ → Mode → List Placed → List Placed
with_joined name number mode queues = with_joined_at (place_of name queues) name number mode queues

-- without the queue at a place, if it is out of use
abbrev pub stays : ℕ → Placed → Bool
stays place e = not (e.0 == place && not (is_busy e.1))

abbrev pub without_idle : ℕ → List Placed → List Placed
without_idle place queues = filter (stays place) queues

-- no two queues have one place, or one name
abbrev pub Differs : Placed → Placed → Type 0
Differs e x = ((x.0 == e.0) ≡ false) × (bytes_eq x.1.name e.1.name ≡ false)

abbrev pub Apart : List Placed → Type 0
Apart [] = Unit {0}
Apart (e ∷ queues) = AllByRecursion (Differs e) queues × Apart queues

-- places rise, and no two queues have one name
pub record AreQueues (queues : List Placed) : Type 0 where
  pub ordered : IsStrictlySortedBy nat_cmp (keys_of queues)
  pub apart : Apart queues

-- and each is found by its name, and no other is
pub record IsNames (queues : List Placed) (find : List ℕ → Option ℕ) : Type 0 where
  pub are : AreQueues queues
  pub found : (name : List ℕ) → find name ≡ place_of name queues

-- the numbers of a queue are below a bound
abbrev pub IsBelow : ℕ → Waiting → Type 0
IsBelow number w = AllByRecursion (λ e. e.0 < number) w.waits × AllByRecursion (λ e. e.0 < number) w.holders
