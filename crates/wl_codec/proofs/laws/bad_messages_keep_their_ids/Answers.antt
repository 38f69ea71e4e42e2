use Rattle.wl_codec.proofs.InOrder.{message_id, line_id}
use Rattle.wl_codec.proofs.laws.bad_messages_keep_their_ids.Goals as goal

pub returns : goal.returns
returns c = (message_id, line_id)
