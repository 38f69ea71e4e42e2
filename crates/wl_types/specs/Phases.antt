-- The phases of a request, and the moves from one to the next (own; Web Locks speaks of a request's place and of its
-- promise).
use Rattle.std.specs.Prelude.{◌≡◌, ◌⊎◌, ◌↔◌, Bool, true, false, IsTrue, List, [], ◌∷◌}
use Rattle.wl_types.specs.declared.phases.Phase.{Phase}
use Rattle.wl_types.specs.declared.phases.Phase.TheVariants.{Pending, Granted, Taken, Unavailable, Aborted, Released}
use Rattle.wl_types.specs.declared.phases.Phase.TheVariants.{Stolen}

-- whether nothing comes after it
abbrev pub is_end : Phase → Bool
is_end Pending = false
is_end Granted = false
is_end Taken = false
is_end Unavailable = true
is_end (Aborted reason) = true
is_end Released = true
is_end Stolen = true

abbrev pub is_pending : Phase → Bool
is_pending Pending = true
is_pending Granted = false
is_pending Taken = false
is_pending Unavailable = false
is_pending (Aborted reason) = false
is_pending Released = false
is_pending Stolen = false

-- the table of moves
abbrev pub is_move : Phase → Phase → Bool
is_move Pending Granted = true
is_move Pending Unavailable = true
is_move Pending (Aborted reason) = true
is_move Granted Taken = true
is_move Granted (Aborted reason) = true
is_move Granted Released = true
is_move Granted Stolen = true
is_move Taken Released = true
is_move Taken Stolen = true
is_move from to = false

-- one or more moves lead from one to the other
abbrev pub leads : Phase → Phase → Bool
leads Pending Pending = false
leads Pending to = true
leads Granted to = is_move Granted to
leads from to = is_move from to

-- moves, or none, lead from one to the other
abbrev pub Reaches : Phase → Phase → Type 0
Reaches from to = (from ≡ to) ⊎ IsTrue (leads from to)

-- moves lead from one through these phases to the other
abbrev pub IsPath : Phase → List Phase → Phase → Type 0
IsPath from [] to = from ≡ to
IsPath from (next ∷ rest) to = (is_move from next ≡ true) × IsPath next rest to

-- of two phases that reach a third, one reaches the other
abbrev pub PhasesAreAChain : Type 0
PhasesAreAChain = (one other third : Phase) → Reaches one third → Reaches other third
    → Reaches one other ⊎ Reaches other one

-- a phase reaches another just where moves, or none, lead to it
abbrev pub ReachingIsByMoves : Type 0
ReachingIsByMoves = (from to : Phase) → Reaches from to ↔ ((through : List Phase) × IsPath from through to)
