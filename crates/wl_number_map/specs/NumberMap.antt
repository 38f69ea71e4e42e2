-- What contracts see of a map by number: its entries in the order of the numbers, which the map itself doesn't keep.
-- (own)
use Rattle.std.specs.Prelude.{◌≡◌, ℕ, List, Option, Some, IsSome, cond}
use Rattle.std.specs.BTreeMap.{is_at}
use Rattle.std.specs.List.Sorted.{IsStrictlySortedBy}
use Rattle.std.specs.Map.{keys_of, lookup, set_value}
use Rattle.std.specs.Ordering.{nat_cmp}

-- the entries, in the order of their numbers
pub record NumberMap (X : Type 0) : Type 0 where
  pub entries : List (ℕ × X)

module _ {X : Type 0} where
  -- what stands at a number
  abbrev pub found : ℕ → NumberMap X → Option X
  found number m = lookup (is_at (nat_cmp number)) m.entries

  -- the numbers rise
  abbrev pub IsOrdered : NumberMap X → Type 0
  IsOrdered m = IsStrictlySortedBy nat_cmp (keys_of m.entries)

  -- n has this at a number, where `None` is nothing, and at each other number what m has
  abbrev pub IsWritten : ℕ → Option X → NumberMap X → NumberMap X → Type 0
  IsWritten number value m n = (other : ℕ) → found other n ≡ cond (is_at (nat_cmp number) other) value (found other m)

  -- n is m with another value at a number, if it has that number
  abbrev pub WritesThrough : ℕ → NumberMap X → X → NumberMap X → Type 0
  WritesThrough number m value n =
      (n.entries ≡ set_value (is_at (nat_cmp number)) m.entries value)
      × (IsSome (found number m) → IsWritten number (Some value) m n) × IsOrdered n
