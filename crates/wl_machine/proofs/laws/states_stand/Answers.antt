use Rattle.wl_machine.proofs.Standing.{opening_stands, stands_after_each}
use Rattle.wl_machine.proofs.laws.states_stand.Goals as goal

pub returns-clause-first : goal.returns-clause-first
returns-clause-first c = opening_stands

pub returns-clause-each : goal.returns-clause-each
returns-clause-each c = stands_after_each
