use Rattle.wl_cell.proofs.Known.{no_abort_once_taken}
use Rattle.wl_cell.proofs.laws.no_abort_once_taken.Goals as goal

pub returns : goal.returns
returns c = no_abort_once_taken
