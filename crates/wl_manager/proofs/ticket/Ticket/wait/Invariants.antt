use Rattle.wl_types.specs.Phases.{Reaches}
use Rattle.wl_manager.proofs.ticket.Ticket.wait.Given as goal

abbrev pub invariant-loop : goal.invariant-loop
invariant-loop g l = Reaches l.initial.owner.seen l.owner.seen
