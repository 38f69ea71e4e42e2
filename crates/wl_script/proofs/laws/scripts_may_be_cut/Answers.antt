use Rattle.wl_script.proofs.Scripts.{may_be_cut}
use Rattle.wl_script.proofs.laws.scripts_may_be_cut.Goals as goal

pub returns : goal.returns
returns c = may_be_cut
