use Rattle.std.proofs.Common.{rules, Some}
use Rattle.wl_machine.specs.declared.command.Command.TheVariants as command
use Rattle.wl_world.specs.Entries.{command_entries}
use Rattle.wl_world.specs.Origins.{admitted}
use Rattle.wl_world.specs.Realms.{journals_of, realm_of}
use Rattle.wl_world.proofs.Operations.{origin_in}
use Rattle.wl_world.proofs.Realms.{grown_through, written_through}
use Rattle.wl_world.proofs.realm.open_agent_at.Goals as goal

pub returns-clause-realm : goal.returns-clause-realm
returns-clause-realm g c =
    let new = c.open_agent.new.self in
    written_through (realm_of c.args.realm.now) c.open_agent.result
    c.seat.new.realm (c.get_mut.follows.lender new) c.args.key.now c.in-Some.origin.now new
    (λ o. (admitted o c.args.kind).origin) c.in_ok-seat.ensures.same (search rules)
    ((c.get_mut.follows.holds new).3 (search rules)) (origin_in c.open_agent.result _ _ c.open_agent.ensures.admitted)

pub returns-clause-entries : goal.returns-clause-entries
returns-clause-entries g c =
    let new = c.open_agent.new.self in
    grown_through g.C.LockCore.no_entries (realm_of c.args.realm.now)
    (journals_of g.C.LockCore.no_entries c.args.realm.now) c.open_agent.result c.seat.new.realm
    (c.get_mut.follows.lender new) c.args.key.now c.in-Some.origin.now new
    (λ o. command_entries o.state (Some (command.Enter c.args.kind))) c.in_ok-seat.ensures.same
    c.in_ok-seat.ensures.journals (search rules)
    ((c.get_mut.follows.holds new).3 (search rules)) c.open_agent.ensures.entries
