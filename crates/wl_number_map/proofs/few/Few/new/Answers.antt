use Rattle.wl_number_map.proofs.First.{few_none}
use Rattle.wl_number_map.proofs.few.Few.new.Goals as goal

pub invariant_of-result : goal.invariant_of-result
invariant_of-result g c = few_none c.new.result.items c.new.ensures.items
