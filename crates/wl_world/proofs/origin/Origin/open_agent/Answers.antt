use Rattle.std.proofs.Common.{[]}
use Rattle.wl_machine.specs.declared.command.Command.TheVariants as command
use Rattle.wl_codec.specs.declared.message.Body.TheVariants as body
use Rattle.wl_world.proofs.Entries.{entry, if_answered, no_entry}
use Rattle.wl_world.proofs.Operations.{label_of, refusal_is, refused}
use Rattle.wl_world.proofs.origin.Origin.open_agent.Goals as goal

pub returns-clause-admitted : goal.returns-clause-admitted
returns-clause-admitted g c = rw (← c.self.view_is) (label_of _ _ _ _ _ c.in-Ok.ensures.opened _)

pub returns-clause-entries : goal.returns-clause-entries
returns-clause-entries g c = rw (← c.self.view_is)
    (entry (g.C.LockCore.state c.self.inside.core)
    (command.Enter c.args.kind) _ _ _ _ _ c.in-Ok.ensures.opened c.in-Ok.ensures.recorded)

pub returns-in-Err-clause-admitted : goal.returns-in-Err-clause-admitted
returns-in-Err-clause-admitted g c =
    rw (← c.self.view_is) (refusal_is _ _ _ _ _ _
    (refused _ 0 (body.Enter [] c.args.kind []) _ _ _ c.in-Err.ensures.refused c.in-Err.ensures.unchanged)
    c.refusal_outcome.ensures)

pub returns-in-Err-clause-entries : goal.returns-in-Err-clause-entries
returns-in-Err-clause-entries g c =
    rw (← c.self.view_is)
    (if_answered _ _ _ c.refusal_outcome.ensures
    (no_entry (g.C.LockCore.state c.self.inside.core)
    (command.Enter c.args.kind) _ _ _ c.in-Err.ensures.refused c.in-Err.ensures.not_recorded))
