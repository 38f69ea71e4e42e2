use Rattle.wl_machine.proofs.OneMove.{numbers_stay_apart}
use Rattle.wl_machine.proofs.laws.numbers_stay_apart.Goals as goal

pub returns : goal.returns
returns c = numbers_stay_apart
