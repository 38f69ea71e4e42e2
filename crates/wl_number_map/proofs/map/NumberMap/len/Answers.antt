use Rattle.std.proofs.Common.{◌∙◌, sym, arith}
use Rattle.wl_number_map.proofs.InOrder.{in_order_sorted, length_in_order}
use Rattle.wl_number_map.proofs.map.NumberMap.len.Goals as goal

pub returns : goal.returns
returns g c = record {
  len = c.len.ensures.len ∙ rw (← c.self.view_is) (sym (length_in_order c.self.inside.store c.len.ensures.distinct));
  small = let few = c.len.ensures.small in omega (arith, few);
  ordered = rw (← c.self.view_is) (in_order_sorted c.self.inside.store);
}
