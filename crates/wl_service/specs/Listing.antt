-- What a service lists (own): managers in the order of their keys, of one origin where one is named.
use Rattle.std.specs.Prelude.{◌≡◌, ◌≤◌, ◌+◌, ℕ, Bool, true, List, [], ◌∷◌, Option, Some, None, length, filter}
use Rattle.std.specs.BTreeMap.Range.{entries_between}
use Rattle.std.specs.Ordering.{is_eq, is_lt}
use Rattle.std.specs.declared.ops.Bound.{Bound}
use Rattle.std.specs.declared.ops.Bound.TheVariants.{Excluded, Unbounded}
use Rattle.wl_origin.specs.Manager.{manager_cmp}
use Rattle.wl_origin.specs.Origin.{Tuple, tuple_cmp}
use Rattle.wl_origin.specs.declared.manager_key.ManagerKey.{ManagerKey}
use Rattle.wl_service.specs.declared.listing.ManagerLocks.{ManagerLocks}
use Rattle.wl_service.specs.declared.listing.ServiceLocks.{ServiceLocks}

-- whether the key is asked for: each, or those of one origin
abbrev pub is_asked : Option Tuple → ManagerKey → Bool
is_asked None key = true
is_asked (Some origin) key = is_eq (tuple_cmp origin key.origin)

-- whether the key stands behind another, which the first one needn't
abbrev pub is_behind : Option ManagerKey → ManagerKey → Bool
is_behind None key = true
is_behind (Some last) key = is_lt (manager_cmp last key)

abbrev pub bound_after : Option ManagerKey → Bound ManagerKey
bound_after None = Unbounded
bound_after (Some last) = Excluded last

-- the entries that are still to be listed behind a key, or at the beginning
abbrev pub left_after : {X : Type 0} → Option ManagerKey → Option Tuple → List (ManagerKey × X) → List (ManagerKey × X)
left_after after only entries = filter (λ e. is_asked only e.0)
    (entries_between manager_cmp (bound_after after) Unbounded entries)

abbrev pub first_of : {X : Type 0} → List X → Option X
first_of [] = None
first_of (x ∷ rest) = Some x

abbrev pub rows_of : ManagerLocks → ℕ
rows_of one = length one.locks.held.items + length one.locks.pending.items

abbrev pub rows_in : List ManagerLocks → ℕ
rows_in [] = 0
rows_in (one ∷ rest) = rows_of one + rows_in rest

-- a key that may be listed behind this one
pub record MayFollow (after : Option ManagerKey) (only : Option Tuple) (key : ManagerKey) : Type 0 where
  pub behind : is_behind after key ≡ true
  pub asked : is_asked only key ≡ true

-- each manager's key may be listed behind the one before, and none has too many rows
abbrev pub AreInTurn : Option ManagerKey → Option Tuple → List ManagerLocks → Type 0
AreInTurn after only [] = Unit {0}
AreInTurn after only (one ∷ rest) = MayFollow after only one.key × (rows_of one ≤ 1000)
    × AreInTurn (Some one.key) only rest

-- Each manager is listed once, in the order of their keys, and those that were asked for alone; with no more managers
-- than may be, and no more rows, of one manager and, where no origin is named, in all
pub record IsListing (only : Option Tuple) (all : ServiceLocks) : Type 0 where
  pub managers : AreInTurn None only all.managers.items
  pub few : length all.managers.items ≤ 10000
  pub in_all : only ≡ None → rows_in all.managers.items ≤ 10000
