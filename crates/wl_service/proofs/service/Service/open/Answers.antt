use Rattle.wl_service.proofs.Opened.{never_bad}
use Rattle.wl_service.proofs.service.Service.open.Goals as goal

pub returns-clause-fault : goal.returns-clause-fault
returns-clause-fault g c = never_bad c.args.url.now c.args.kind c.open_in.result c.open_in.ensures
