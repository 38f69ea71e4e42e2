use Rattle.std.proofs.Common.{◌∙◌, sym, ap}
use Rattle.wl_machine.specs.declared.command.Command.TheVariants as command
use Rattle.wl_index.specs.inner.Core.{IsCore}
use Rattle.wl_index.specs.inner.Locks.{Board}
use Rattle.std.specs.Prelude.{vec_capacity}
use Rattle.wl_index.proofs.Cores.{begun_core, begun_gives, taken_core, untaken_none}
use Rattle.wl_index.proofs.index.IndexCoreLockCore.take.Goals.{After-take}
use Rattle.wl_index.proofs.index.IndexCoreLockCore.take.Goals as goal

-- a lock's being taken leaves all that a core keeps
kept : (c : After-take) → IsCore c.self.inside.agents c.take.new.self (vec_capacity c.self.inside.ending)
kept c = taken_core _ c.begin.new.self _ c.args.id _ (begun_core _ _ _ _ c.begin.ensures c.self.invariant.0)
    c.take.ensures.held c.take.ensures.pending c.take.ensures.tags

pub invariant_of-self : goal.invariant_of-self
invariant_of-self c = (kept (goal.at.invariant_of-self c).After-take, c.self.invariant.1)

pub returns-then-not-take-clause-taken : goal.returns-then-not-take-clause-taken
returns-then-not-take-clause-taken c =
    rw (← c.self.view_is) (begun_gives c.self.inside.agents.rows c.self.inside.locks c.begin.new.self
    (command.Take c.args.id) _ _ _ c.begin.ensures
    (untaken_none c.self.inside.agents.rows c.begin.new.self c.take.new.self c.args.id
    (ap (λ (b : Board). b.changes) c.begin.ensures) (sym c.take.ensures.found ∙ c.if-not-take.true)
    c.take.ensures.held c.take.ensures.pending c.take.ensures.next c.take.ensures.names c.take.ensures.changes))

pub invariant_of-self-2 : goal.invariant_of-self-2
invariant_of-self-2 c = (kept (goal.at.invariant_of-self-2 c).After-take, c.self.invariant.1)
