use Rattle.std.proofs.Common.{◌∙◌, sym, ap, refl}
use Rattle.wl_number_map.specs.inner.NumberMap.{in_order}
use Rattle.wl_number_map.proofs.InOrder.{found_written, lookup_in_order, in_order_sorted, in_order-set_value}
use Rattle.wl_number_map.proofs.map.NumberMap.get_mut.Goals as goal

pub returns : goal.returns
returns g c =
    let es = c.self.inside.store in (
      (
        refl,
        λ w. let now = c.get_mut.follows.holds w in (
          rw (← c.self.view_is, now) (in_order-set_value c.args.number w es),
          rw (← c.self.view_is, now) (found_written c.args.number w es),
          in_order_sorted (c.get_mut.follows.lender w),
        ),
        ap (λ m. record { entries = in_order m }) c.get_mut.follows.holds-at-none ∙ c.self.view_is,
      ),
      record {
        writes_back = tt;
        value = rw (← c.self.view_is)
            (c.get_mut.ensures.value ∙ sym (lookup_in_order es c.args.number));
        was_ordered = rw (← c.self.view_is) (in_order_sorted es);
      },
    )
