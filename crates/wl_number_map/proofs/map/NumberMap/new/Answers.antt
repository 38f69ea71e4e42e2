use Rattle.wl_number_map.proofs.InOrder.{in_order_sorted}
use Rattle.wl_number_map.proofs.map.NumberMap.new.Goals as goal

pub returns-clause-ordered : goal.returns-clause-ordered
returns-clause-ordered g c = in_order_sorted c.new.result
