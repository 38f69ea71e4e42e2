use Rattle.std.proofs.Common.{ap}
use Rattle.wl_number_map.specs.inner.NumberMap.{in_order}
use Rattle.wl_number_map.proofs.InOrder.{in_order_sorted}
use Rattle.wl_number_map.proofs.map.NumberMap.clear.Goals as goal

pub returns : goal.returns
returns g c = record { empty = ap in_order c.clear.ensures; ordered = in_order_sorted c.clear.new.self }
