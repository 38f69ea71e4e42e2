use Rattle.wl_codec.proofs.Seen.{get-json_data}
use Rattle.wl_codec.proofs.value.found_at.Goals as goal

pub returns : goal.returns
returns c = get-json_data c.args.name.now c.get.result c.args.value.now c.get.ensures
