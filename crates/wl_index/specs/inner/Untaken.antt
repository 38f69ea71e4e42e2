-- The locks that end with their owner, found by number (own).
use Rattle.std.specs.Prelude.{ℕ, Bool, List, is_some}
use Rattle.std.specs.Map.{lookup}
use Rattle.std.specs.BTreeMap.{is_at}
use Rattle.std.specs.Ordering.{nat_cmp}
use Rattle.wl_index.specs.declared.request.Owner.{Owner}
use Rattle.wl_index.specs.declared.request.Standing.TheVariants.{Holds}
use Rattle.wl_index.specs.inner.Rows.{Entry}
use Rattle.wl_index.specs.inner.Ends.{ends_entry, place_if}

-- whether the number finds such a lock
abbrev pub finds_untaken : Owner → List Entry → ℕ → Bool
finds_untaken owner es number = is_some (place_if (ends_entry owner Holds) number (lookup (is_at (nat_cmp number)) es))
