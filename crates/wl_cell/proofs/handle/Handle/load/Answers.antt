use Rattle.std.proofs.Common.{rules}
use Rattle.wl_cell.proofs.Steps.{looks}
use Rattle.wl_cell.proofs.handle.Handle.load.Goals as goal

pub load-requires : goal.load-requires
load-requires c = (search rules, search rules, looks _ _ _)
