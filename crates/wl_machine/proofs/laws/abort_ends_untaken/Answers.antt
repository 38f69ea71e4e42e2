use Rattle.wl_machine.proofs.Untaken.{abort_ends_untaken}
use Rattle.wl_machine.proofs.laws.abort_ends_untaken.Goals as goal

pub returns : goal.returns
returns c = abort_ends_untaken
