use Rattle.wl_session.proofs.ByRequest.{notices_are_by_request, left_is_by_request}
use Rattle.wl_session.proofs.laws.reports_go_request_by_request.Goals as goal

pub returns-clause-notices : goal.returns-clause-notices
returns-clause-notices c = notices_are_by_request

pub returns-clause-left : goal.returns-clause-left
returns-clause-left c = left_is_by_request
