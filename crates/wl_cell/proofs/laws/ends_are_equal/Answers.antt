use Rattle.wl_cell.proofs.Known.{ends_are_equal}
use Rattle.wl_cell.proofs.laws.ends_are_equal.Goals as goal

pub returns : goal.returns
returns c = ends_are_equal
