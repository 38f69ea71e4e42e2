use Rattle.std.proofs.Common.{◌∙◌, sym}
use Rattle.wl_number_map.proofs.InOrder.{lookup_in_order}
use Rattle.wl_number_map.proofs.map.NumberMap.get.Goals as goal

pub returns : goal.returns
returns g c = record {
  value = c.get.ensures ∙ rw (← c.self.view_is)
      (sym (lookup_in_order c.self.inside.store c.args.number));
}
