use Rattle.std.proofs.Common.{arith, refl}
use Rattle.wl_machine.specs.declared.command.Command.TheVariants as command
use Rattle.wl_machine.specs.declared.command.Reply.TheVariants as reply
use Rattle.wl_manager.proofs.Keeping.{kept_refused, stays_refused, publishes_done, kept_done, does_done, on_err}
use Rattle.wl_manager.proofs.locked.Locked.terminate.Goals as goal

pub invariant_of-self : goal.invariant_of-self
invariant_of-self g c = kept_refused _ _ _ _ _ c.changes.result.now c.self.invariant
    (c.changes.ensures, c.drop_ended.ensures) c.in_err-terminate.ensures.unchanged c.in_err-terminate.ensures.no_changes
    c.in_err-terminate.ensures.nothing_added refl refl refl refl refl

pub returns-in_err-terminate-clause-unchanged : goal.returns-in_err-terminate-clause-unchanged
returns-in_err-terminate-clause-unchanged g c =
    on_err _ c.from_residual.result (
      stays_refused _ _ _ _ c.args.self.now _ c.changes.result.now c.self.view_is
          c.self.invariant (c.changes.ensures, c.drop_ended.ensures) c.in_err-terminate.ensures.unchanged
          c.in_err-terminate.ensures.nothing_added refl refl refl,
      refl,
    )

pub publish_all-requires : goal.publish_all-requires
publish_all-requires g c =
    publishes_done _ _ _ _ c.drop_ended.new.self c.terminate.new.self (command.Terminate c.args.agent) (reply.Done)
    c.changes.result.now c.changes-2.result.now c.self.invariant (c.changes.ensures, c.drop_ended.ensures)
    (λ id. refl) c.in_ok-terminate.ensures.ended refl refl refl c.changes-2.ensures

pub invariant_of-self-2 : goal.invariant_of-self-2
invariant_of-self-2 g c =
    kept_done _ _ _ _ _ c.drop_ended.new.self (command.Terminate c.args.agent) (reply.Done) c.changes.result.now
    c.changes-2.result.now c.self.invariant (c.changes.ensures, c.drop_ended.ensures) (λ id. refl)
    c.in_ok-terminate.ensures.ended refl refl c.in_ok-terminate.ensures.added c.changes-2.ensures
    c.publish_all.ensures.phases
    (omega arith) (omega arith) c.add.ensures.total c.self.invariant.shared

pub returns-clause-ended : goal.returns-clause-ended
returns-clause-ended g c = does_done _ _ _ _ c.args.self.now _ c.drop_ended.new.self (command.Terminate c.args.agent)
    (reply.Done) c.changes.result.now c.self.view_is c.self.invariant (c.changes.ensures, c.drop_ended.ensures)
    (λ id. refl) c.in_ok-terminate.ensures.ended c.in_ok-terminate.ensures.added c.publish_all.ensures.cells
