use Rattle.std.proofs.Common.{◌≡◌, ◌++◌}
use Rattle.wl_number_map.specs.inner.NumberMap.{shown}
use Rattle.wl_number_map.proofs.store.list.Given as goal

-- the rows that were there, those so far, and those to come
abbrev pub invariant-loop-number : goal.invariant-loop-number
invariant-loop-number g l = shown l.rows.items ++ l.number-iterator
    ≡ shown l.initial.rows.items ++ l.initial.number-iterator
