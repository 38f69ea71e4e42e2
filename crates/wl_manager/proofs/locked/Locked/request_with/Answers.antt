use Rattle.std.proofs.Common.{◌≡◌, arith, refl, ◌∙◌, ◌∷◌, [], ap, sym}
use Rattle.wl_cell.specs.Seats.{CellId}
use Rattle.wl_manager.proofs.Keeping.{kept_refused, stays_refused, undone, request_small, publishes_asked, kept_asked}
use Rattle.wl_manager.proofs.Keeping.{does_asked}
use Rattle.wl_manager.proofs.locked.Locked.request_with.Goals as goal

pub invariant_of-self-in-Err : goal.invariant_of-self-in-Err
invariant_of-self-in-Err g c =
    kept_refused _ _ _ _ _ c.changes.result.now c.self.invariant
    (undone _ _ _ _ c.in-Ok.asking.keeper c.changes.result.now c.put.new.self c.drop_ended.new.self _ c.self.invariant
    (record { told = c.changes.ensures; puts = c.in-Ok-put.ensures.put; left = c.drop_ended.ensures })
    c.remove.ensures)
    c.in-Err.ensures.unchanged c.in-Err.ensures.no_changes c.in-Err.ensures.nothing_added refl refl refl refl refl

pub returns-in-Err-clause-unchanged : goal.returns-in-Err-clause-unchanged
returns-in-Err-clause-unchanged g c = (
  stays_refused _ _ _ _ c.args.self.now _ c.changes.result.now c.self.view_is c.self.invariant
      (undone _ _ _ _ c.in-Ok.asking.keeper c.changes.result.now c.put.new.self c.drop_ended.new.self c.remove.new.self
      c.self.invariant (record {
        told = c.changes.ensures;
        puts = c.in-Ok-put.ensures.put;
        left = c.drop_ended.ensures;
      })
      c.remove.ensures)
      c.in-Err.ensures.unchanged c.in-Err.ensures.nothing_added refl refl refl,
  refl,
)

pub publish_all-requires : goal.publish_all-requires
publish_all-requires g c =
    publishes_asked _ _ _ _ c.in-Ok.asking.keeper c.changes.result.now c.put.new.self c.drop_ended.new.self
    c.request_kept.new.self c.args.agent c.in-Ok.asking.ask c.in-Ok-request_kept.id c.changes-2.result.now
    c.self.invariant (record {
      told = c.changes.ensures;
      puts = c.in-Ok-put.ensures.put;
      left = c.drop_ended.ensures;
    }) c.in-Ok.asking.pending c.in-Ok-request_kept.ensures.requested c.changes-2.ensures

pub invariant_of-self-2 : goal.invariant_of-self-2
invariant_of-self-2 g c =
    kept_asked _ _ _ _ _ c.in-Ok.asking.keeper c.changes.result.now c.put.new.self c.drop_ended.new.self c.args.agent
    c.in-Ok.asking.ask c.in-Ok-request_kept.id c.changes-2.result.now c.self.invariant
    (record { told = c.changes.ensures; puts = c.in-Ok-put.ensures.put; left = c.drop_ended.ensures })
    c.in-Ok.asking.pending c.in-Ok-request_kept.ensures.requested c.in-Ok-request_kept.ensures.added
    c.changes-2.ensures
    c.publish_all.ensures.phases refl refl c.add.ensures.total c.self.invariant.shared

pub returns-clause-requested : goal.returns-clause-requested
returns-clause-requested g c =
    let same : c.in-Ok.asking.ask ≡ c.args.ask.now = rw c.in-Ok.is at c.requires.ask in
    rw (← same) ((does_asked _ _ _ _ c.args.self.now _ c.in-Ok.asking.keeper c.changes.result.now c.put.new.self
    c.drop_ended.new.self c.args.agent c.in-Ok.asking.ask c.in-Ok-request_kept.id c.self.view_is c.self.invariant
    (record { told = c.changes.ensures; puts = c.in-Ok-put.ensures.put; left = c.drop_ended.ensures })
    c.in-Ok.asking.pending c.in-Ok-request_kept.ensures.requested c.in-Ok-request_kept.ensures.added
    c.publish_all.ensures.cells).0)

pub returns-clause-owner : goal.returns-clause-owner
returns-clause-owner g c =
    (does_asked _ _ _ _ c.args.self.now (record {
      book = c.request_kept.new.self;
      kept = c.publish_all.new.self;
      next = 0;
      opened = 0;
      handed = 0;
      total = 0;
      parts = 0;
      amount = 0;
    }) c.in-Ok.asking.keeper c.changes.result.now
    c.put.new.self c.drop_ended.new.self c.args.agent c.in-Ok.asking.ask c.in-Ok-request_kept.id c.self.view_is
    c.self.invariant (record {
      told = c.changes.ensures;
      puts = c.in-Ok-put.ensures.put;
      left = c.drop_ended.ensures;
    }) c.in-Ok.asking.pending c.in-Ok-request_kept.ensures.requested
    c.in-Ok-request_kept.ensures.added c.publish_all.ensures.cells).1
    ∙ ap (λ (cell : CellId). cell ∷ []) (sym c.in-Ok.asking.one)

pub overflow_add-self : goal.overflow_add-self
overflow_add-self g c = let small = request_small c.self.inside.book.state c.args.agent c.in-Ok.asking.ask
    c.request_kept.new.self.state c.in-Ok-request_kept.id c.request_kept.new.self.recent
    c.in-Ok-request_kept.ensures.requested in omega (arith, small)
