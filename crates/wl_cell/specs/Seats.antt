-- What contracts see of a seat with its word, and of a keeper, an owner and a watch (own).
use Rattle.std.specs.Prelude.{◌≡◌, ◌≢◌, Bool, true, false}
use Rattle.atomic_table.specs.Seated.{TableId}
use Rattle.wl_types.specs.declared.phases.Phase.{Phase}
use Rattle.wl_types.specs.declared.phases.Phase.TheVariants as phase
use Rattle.wl_types.specs.Phases.{is_move, Reaches}
use Rattle.wl_cell.specs.declared.owner.Taking.{Taking}
use Rattle.wl_cell.specs.declared.owner.Taking.TheVariants.{Taken, Pending, Before}

-- names a cell: no two have the same
abbrev pub CellId : Type 0
CellId = TableId

-- the phase is the one last settled or found
pub record KeeperSeat : Type 0 where
  pub cell : CellId
  pub phase : Phase

-- the phase seen last, and whether this owner took the lock
pub record OwnerSeat : Type 0 where
  pub cell : CellId
  pub seen : Phase
  pub took : Bool

-- the phase seen last
pub record WatchSeat : Type 0 where
  pub cell : CellId
  pub seen : Phase

-- what a keeper may store: a move of the table, not to Taken, and to Aborted from Pending alone
abbrev pub may_settle : Phase → Phase → Bool
may_settle phase.Granted (phase.Aborted reason) = false
may_settle from phase.Taken = false
may_settle from to = is_move from to

-- what an owner's try to take its lock tells
abbrev pub Takes : OwnerSeat → Taking → OwnerSeat → Type 0
Takes old Taken new = (old.took ≡ false) × Reaches old.seen phase.Granted
    × (new ≡ record old { seen = phase.Taken; took = true })
Takes old Pending new = Reaches old.seen phase.Pending × (new ≡ record old { seen = phase.Pending })
Takes old (Before found) new = (found ≢ phase.Pending) × (found ≢ phase.Granted) × Reaches old.seen found
    × (new ≡ record old { seen = found })
