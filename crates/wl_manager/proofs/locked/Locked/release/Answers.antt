use Rattle.std.proofs.Common.{arith, refl}
use Rattle.wl_machine.specs.declared.command.Command.TheVariants as command
use Rattle.wl_machine.specs.declared.command.Reply.TheVariants as reply
use Rattle.wl_manager.proofs.Keeping.{publishes_done, kept_done, does_done}
use Rattle.wl_manager.proofs.locked.Locked.release.Goals as goal

pub publish_all-requires : goal.publish_all-requires
publish_all-requires g c =
    publishes_done _ _ _ _ c.drop_ended.new.self c.release-answer.new.self (command.Release c.args.agent c.args.id)
    (reply.Released c.release-answer.result) c.changes.result.now c.changes-2.result.now c.self.invariant
    (c.changes.ensures, c.drop_ended.ensures) (λ id. refl) c.release-answer.ensures.released refl refl refl
    c.changes-2.ensures

pub invariant_of-self : goal.invariant_of-self
invariant_of-self g c =
    kept_done _ _ _ _ _ c.drop_ended.new.self (command.Release c.args.agent c.args.id)
    (reply.Released c.release-answer.result) c.changes.result.now c.changes-2.result.now c.self.invariant
    (c.changes.ensures, c.drop_ended.ensures) (λ id. refl) c.release-answer.ensures.released refl refl
    c.release-answer.ensures.added c.changes-2.ensures c.publish_all.ensures.phases
    (omega arith) (omega arith) (λ counts. let total = c.add.ensures.total counts in let entries = c.entries_of.ensures
    in omega (arith, total, entries)) c.self.invariant.shared

pub returns-clause-released : goal.returns-clause-released
returns-clause-released g c = does_done _ _ _ _ c.args.self.now _ c.drop_ended.new.self
    (command.Release c.args.agent c.args.id) (reply.Released c.release-answer.result) c.changes.result.now
    c.self.view_is
    c.self.invariant (c.changes.ensures, c.drop_ended.ensures) (λ id. refl) c.release-answer.ensures.released
    c.release-answer.ensures.added c.publish_all.ensures.cells
