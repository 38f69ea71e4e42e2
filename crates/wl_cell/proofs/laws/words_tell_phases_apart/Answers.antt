use Rattle.wl_cell.proofs.Apart.{words_apart}
use Rattle.wl_cell.proofs.laws.words_tell_phases_apart.Goals as goal

pub returns : goal.returns
returns c = words_apart
