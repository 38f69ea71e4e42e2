use Rattle.std.proofs.Common.{◌≡◌, ◌++◌, take}
use Rattle.wl_number_map.specs.inner.NumberMap.{shown}
use Rattle.wl_number_map.proofs.few.Few.list.Given as goal

-- the rows that were there, and those so far
abbrev pub invariant-loop-row : goal.invariant-loop-row
invariant-loop-row g l = shown l.rows.items ≡ shown l.initial.rows.items ++ take l.row-index l.row-items
