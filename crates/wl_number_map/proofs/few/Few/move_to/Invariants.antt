use Rattle.std.proofs.Common.{◌≡◌, ℕ, ◌<◌, ◌==◌, ◌++◌, length}
use Rattle.std.specs.Map.{lookup}
use Rattle.indexmap.specs.IndexMap.{spare}
use Rattle.wl_number_map.proofs.few.Few.move_to.Given as goal

-- both together find what both found, and the map has room for what is left and one more
abbrev pub invariant-loop-number : goal.invariant-loop-number
invariant-loop-number g l =
    ((q : ℕ) → lookup (λ k. q == k) (l.self-inside.rows.items ++ l.map.entries)
    ≡ lookup (λ k. q == k) (l.initial.self-inside.rows.items ++ l.initial.map.entries))
    × (length l.self-inside.rows.items < spare l.map)

abbrev pub decreases-loop-number : goal.decreases-loop-number
decreases-loop-number g l = length l.self-inside.rows.items
