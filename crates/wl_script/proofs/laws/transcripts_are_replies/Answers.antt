use Rattle.wl_script.proofs.Scripts.{are_replies}
use Rattle.wl_script.proofs.laws.transcripts_are_replies.Goals as goal

pub returns : goal.returns
returns c = are_replies
