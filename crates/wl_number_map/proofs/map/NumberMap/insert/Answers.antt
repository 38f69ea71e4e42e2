use Rattle.std.proofs.Common.{◌≡◌, ◌∙◌, sym, ap, subst}
use Rattle.std.specs.Prelude.{Some, None, IfOk, OnErr}
use Rattle.wl_number_map.specs.inner.NumberMap.{in_order}
use Rattle.wl_number_map.proofs.InOrder.{lookup_in_order, in_order_sorted, in_order-inserted, found_now}
use Rattle.wl_number_map.proofs.Weaker.{err_weaker, ok_weaker}
use Rattle.wl_number_map.proofs.map.NumberMap.insert.Goals as goal

pub returns : goal.returns
returns g c =
    let es = c.self.inside.store in
    let fs = c.insert.new.self in
    let done = c.insert.ensures in
    record {
      old = rw (← c.self.view_is) (subst (λ o. IfOk c.insert.result (λ old. old ≡ o))
          (sym (lookup_in_order es c.args.number)) done.old);
      entries = rw (← c.self.view_is) (ok_weaker c.insert.result (in_order-inserted es fs c.args.number c.args.value)
          done.updates);
      updates = rw (← c.self.view_is) (ok_weaker c.insert.result (found_now es fs c.args.number (Some c.args.value))
          done.updates);
      absent = rw (← c.self.view_is) (subst (λ o. OnErr c.insert.result (o ≡ None))
          (sym (lookup_in_order es c.args.number)) done.absent);
      err = err_weaker c.insert.result (λ same. ap (λ l. record { entries = in_order l }) same ∙ c.self.view_is)
          done.err;
      ordered = in_order_sorted fs;
      was_ordered = rw (← c.self.view_is) (in_order_sorted es);
    }
