-- The keepers of a manager, by the numbers of their requests (own).
use Rattle.std.specs.Prelude.{ℕ, List, [], ◌∷◌, Option, Some, None}
use Rattle.std.specs.Map.{lookup}
use Rattle.std.specs.BTreeMap.{is_at}
use Rattle.std.specs.Ordering.{nat_cmp}
use Rattle.wl_types.specs.declared.phases.Phase.{Phase}
use Rattle.wl_cell.specs.Seats.{KeeperSeat, CellId}

-- keepers and their numbers
abbrev pub Kept : Type 0
Kept = List (ℕ × KeeperSeat)

-- the keeper of this number
abbrev pub seat_at : ℕ → Kept → Option KeeperSeat
seat_at id kept = lookup (is_at (nat_cmp id)) kept

abbrev pub phases_of_seat : Option KeeperSeat → List Phase
phases_of_seat None = []
phases_of_seat (Some seat) = seat.phase ∷ []

abbrev pub cells_of_seat : Option KeeperSeat → List CellId
cells_of_seat None = []
cells_of_seat (Some seat) = seat.cell ∷ []

-- the phase of the keeper of this number, where there is one
abbrev pub phases_at : ℕ → Kept → List Phase
phases_at id kept = phases_of_seat (seat_at id kept)

-- its cell
abbrev pub cells_at : ℕ → Kept → List CellId
cells_at id kept = cells_of_seat (seat_at id kept)
