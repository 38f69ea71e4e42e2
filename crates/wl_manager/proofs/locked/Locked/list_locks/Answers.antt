use Rattle.std.proofs.Common.{◌∙◌, ap, refl}
use Rattle.wl_manager.specs.Locked.{Inner}
use Rattle.wl_manager.proofs.Listing.{few_rows, lists}
use Rattle.wl_manager.proofs.locked.Locked.list_locks.Goals as goal

pub returns-clause-lists : goal.returns-clause-lists
returns-clause-lists g c = lists c.args.self.now.book.state _
    (c.in_ok-copy.ensures.state ∙ ap (λ (inner : Inner). inner.book.state) c.self.view_is) c.held-held.result.now
    c.held-held.ensures c.pending-pending.result.now c.pending-pending.ensures c.args.most c.min-locks.result
    c.min-requests.result (record {
      held = c.in_ok-list_held.field-0;
      pending = c.in_ok-list_pending.field-0;
      left_out = _;
    }) c.min-locks.ensures c.min-requests.ensures c.in_ok-list_held.ensures c.in_ok-list_pending.ensures refl

pub returns-clause-may : goal.returns-clause-may
returns-clause-may g c = (
  c.self.inside.book.state,
  c.self.invariant.standing,
  lists c.self.inside.book.state _ c.in_ok-copy.ensures.state c.held-held.result.now c.held-held.ensures
      c.pending-pending.result.now c.pending-pending.ensures c.args.most c.min-locks.result c.min-requests.result
      (record { held = c.in_ok-list_held.field-0; pending = c.in_ok-list_pending.field-0; left_out = _ })
      c.min-locks.ensures c.min-requests.ensures c.in_ok-list_held.ensures c.in_ok-list_pending.ensures refl,
)

pub returns-clause-few : goal.returns-clause-few
returns-clause-few g c = few_rows c.args.self.now.book.state c.args.most _ (returns-clause-lists g c)
