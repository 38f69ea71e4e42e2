use Rattle.wl_daemon.proofs.Epochs.{has_no_lf}
use Rattle.wl_daemon.proofs.epoch.without_lf.Goals as goal

pub returns-in-None : goal.returns-in-None
returns-in-None c = has_no_lf c.args.text.now c.in-None.ensures.cases
