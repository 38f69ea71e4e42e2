use Rattle.wl_origin.specs.Opening.{manager_of}
use Rattle.wl_service.proofs.Opened.{opens_found}
use Rattle.wl_service.proofs.service.Service.open_in.Goals as goal

pub returns : goal.returns
returns g c =
    opens_found (manager_of c.args.url.now c.args.bucket.now) c.manager_of-found.result c.args.kind c.open_found.result
    c.manager_of-found.ensures c.open_found.ensures
