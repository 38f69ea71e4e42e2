use Rattle.std.proofs.Common.{refl}
use Rattle.wl_core.proofs.Answering.{gives_answers, refused_answers}
use Rattle.wl_core.proofs.commands.apply.Goals as goal

pub returns-in-Release : goal.returns-in-Release
returns-in-Release g c = rw c.in-Release.is (gives_answers _ _ _ _ _ _ refl c.release.ensures.released refl)

pub returns-in-Err-request : goal.returns-in-Err-request
returns-in-Err-request g c = rw c.in-Request.is (refused_answers _ _ _ _ _ c.in-Err-request.ensures.refused
    c.in-Err-request.ensures.unchanged c.in-Err-request.ensures.no_changes)
