-- What only the code of this crate says (own), beside `Seats`.
use Rattle.wl_cell.specs.declared.view.View.{View}
use Rattle.wl_cell.specs.Seats.{CellId}

-- any seat, with its view
pub record Sitting : Type 0 where
  pub cell : CellId
  pub knows : View
