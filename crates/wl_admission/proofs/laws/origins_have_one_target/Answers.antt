use Rattle.wl_admission.proofs.Components.{named_by_own, own_where_named}
use Rattle.wl_admission.proofs.laws.origins_have_one_target.Goals as goal

pub returns-clause-own : goal.returns-clause-own
returns-clause-own c = λ target origin. own_where_named target _ origin

pub returns-clause-taken : goal.returns-clause-taken
returns-clause-taken c = named_by_own
