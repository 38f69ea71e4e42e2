use Rattle.std.proofs.Common.{arith, refl}
use Rattle.wl_machine.specs.declared.command.Command.TheVariants as command
use Rattle.wl_machine.specs.declared.command.Reply.TheVariants as reply
use Rattle.wl_manager.proofs.Keeping.{kept_refused, stays_refused, kept_done, does_done, on_err}
use Rattle.wl_manager.proofs.locked.Locked.open.Goals as goal

pub invariant_of-self : goal.invariant_of-self
invariant_of-self g c = kept_refused _ _ _ _ _ c.changes.result.now c.self.invariant
    (c.changes.ensures, c.drop_ended.ensures) c.in_err-agent.ensures.unchanged c.in_err-agent.ensures.no_changes
    c.in_err-agent.ensures.nothing_added refl refl refl refl refl

pub returns-in_err-agent-clause-unchanged : goal.returns-in_err-agent-clause-unchanged
returns-in_err-agent-clause-unchanged g c = on_err _ c.from_residual.result
    (stays_refused _ _ _ _ c.args.self.now _ c.changes.result.now c.self.view_is c.self.invariant
    (c.changes.ensures, c.drop_ended.ensures) c.in_err-agent.ensures.unchanged c.in_err-agent.ensures.nothing_added refl
    refl refl)

pub invariant_of-self-2 : goal.invariant_of-self-2
invariant_of-self-2 g c =
    kept_done _ _ _ _ _ c.drop_ended.new.self (command.Enter c.args.kind) (reply.Agent c.in_ok-agent.agent)
    c.changes.result.now c.changes-2.result.now c.self.invariant (c.changes.ensures, c.drop_ended.ensures)
    (λ id. refl) c.in_ok-agent.ensures.opened refl refl c.in_ok-agent.ensures.added c.changes-2.ensures
    c.publish_all.ensures.phases
    (omega arith) refl c.add.ensures.total (λ counts. let shared = c.self.invariant.shared counts
    in let parts = c.split-share.ensures.parts counts in omega (arith, shared, parts))

pub returns-clause-opened : goal.returns-clause-opened
returns-clause-opened g c = does_done _ _ _ _ c.args.self.now _ c.drop_ended.new.self (command.Enter c.args.kind)
    (reply.Agent c.in_ok-agent.agent) c.changes.result.now c.self.view_is c.self.invariant
    (c.changes.ensures, c.drop_ended.ensures) (λ id. refl) c.in_ok-agent.ensures.opened c.in_ok-agent.ensures.added
    c.publish_all.ensures.cells
