use Rattle.std.proofs.Common.{◌∙◌, sym, ap}
use Rattle.std.specs.Prelude.{None}
use Rattle.wl_number_map.specs.inner.NumberMap.{in_order}
use Rattle.wl_number_map.proofs.InOrder.{lookup_in_order, in_order_sorted, in_order-removed, found_now}
use Rattle.wl_number_map.proofs.Weaker.{none_weaker}
use Rattle.wl_number_map.proofs.map.NumberMap.remove.Goals as goal

pub returns : goal.returns
returns g c =
    let es = c.self.inside.store in
    record {
      value = rw (← c.self.view_is) (c.remove.ensures.value ∙ sym (lookup_in_order es c.args.number));
      entries = rw (← c.self.view_is) (in_order-removed es c.remove.new.self c.args.number c.remove.ensures.updates);
      updates = rw (← c.self.view_is) (found_now es c.remove.new.self c.args.number None c.remove.ensures.updates);
      unchanged = none_weaker c.remove.result (λ same. ap (λ fs. record { entries = in_order fs }) same
          ∙ c.self.view_is) c.remove.ensures.unchanged;
      ordered = in_order_sorted c.remove.new.self;
      was_ordered = rw (← c.self.view_is) (in_order_sorted es);
    }
