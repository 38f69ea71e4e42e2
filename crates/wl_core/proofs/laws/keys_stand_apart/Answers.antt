use Rattle.wl_core.proofs.Apart.{apart}
use Rattle.wl_core.proofs.laws.keys_stand_apart.Goals as goal

pub returns : goal.returns
returns g c = apart _
