use Rattle.std.proofs.Common.{◌≡◌}
use Rattle.wl_index.proofs.agents.Agents.abort.Goals as goal

pub returns-clause-kept : goal.returns-clause-kept
returns-clause-kept c = rw c.set_reason.ensures.members at c.clean.ensures.kept
