use Rattle.wl_machine.specs.declared.command.Command.TheVariants as command
use Rattle.wl_manager.proofs.Refused.{may_refuse}
use Rattle.wl_manager.proofs.agent.Agent.request.Goals as goal

pub returns-in-Err-clause-refused : goal.returns-in-Err-clause-refused
returns-in-Err-clause-refused g c = may_refuse c.deref_mut.result.now.book.state
    (command.Request c.args.self.now.number c.args.ask.now) c.in-Err.refusal c.in-Err.ensures.refused

pub returns-in_default-clause-refused : goal.returns-in_default-clause-refused
returns-in_default-clause-refused g c = may_refuse c.deref-in_default.result.now.book.state
    (command.Request c.args.self.now.number c.args.ask.now) _ c.without_memory.ensures
