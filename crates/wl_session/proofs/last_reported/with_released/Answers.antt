use Rattle.std.proofs.Common.{sym, subst, filter}
use Rattle.wl_session.specs.LastReported.{IsByNumber, is_live}
use Rattle.wl_session.proofs.Order.{from_filter, from_released}
use Rattle.wl_session.proofs.last_reported.with_released.Goals as goal

pub loop-observation-init : goal.loop-observation-init
loop-observation-init c = record {
  so_far = c.in_ok-list.ensures;
  by_number = subst IsByNumber (sym c.in_ok-list.ensures) (from_released (filter is_live c.args.last_reported.now) 0
      (from_filter is_live c.args.last_reported.now 0 c.requires));
}
