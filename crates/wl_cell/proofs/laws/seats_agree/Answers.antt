use Rattle.wl_cell.proofs.Known.{seats_agree}
use Rattle.wl_cell.proofs.laws.seats_agree.Goals as goal

pub returns : goal.returns
returns c = seats_agree
