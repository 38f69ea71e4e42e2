use Rattle.std.proofs.Common.{◌≡◌, ap, sym, None}
use Rattle.std.specs.Prelude.{vec_capacity}
use Rattle.wl_machine.specs.declared.command.Command.TheVariants as command
use Rattle.wl_machine.specs.declared.command.Reply.TheVariants as reply
use Rattle.wl_machine.specs.Refusals.{refusal}
use Rattle.wl_index.specs.declared.request.Owner.TheVariants.{Agent}
use Rattle.wl_index.specs.inner.Core.{IsCore, machine_state}
use Rattle.wl_index.specs.inner.Locks.{Board}
use Rattle.wl_index.specs.inner.AgentRows.{AgentRows}
use Rattle.wl_index.proofs.Cores.{begun_core, begun_gives, ended_core, gone}
use Rattle.wl_index.proofs.Ended.{owned_processed, terminate_gives}
use Rattle.wl_index.proofs.Tags.{grouped_gone, owners_own}
use Rattle.wl_index.proofs.index.IndexCoreLockCore.terminate.Goals.{After-begin}
use Rattle.wl_index.proofs.index.IndexCoreLockCore.terminate.Goals as goal

begun : (c : After-begin) → IsCore c.self.inside.agents c.begin.new.self (vec_capacity c.self.inside.ending)
begun c = begun_core _ _ _ _ c.begin.ensures c.self.invariant.0

pub end_owned-requires-clause-finds : goal.end_owned-requires-clause-finds
end_owned-requires-clause-finds c =
    let is = begun (goal.at.end_owned-requires-clause-finds c).After-begin in (
      c.numbers-numbers.ensures.rising,
      rw c.numbers-numbers.ensures.numbers
          (owners_own c.args.agent c.begin.new.self.entries c.self.inside.agents.members is.grouped),
    )

pub end_owned-requires-clause-room : goal.end_owned-requires-clause-room
end_owned-requires-clause-room c = (begun (goal.at.end_owned-requires-clause-room c).After-begin).ending_room

pub invariant_of-self-2 : goal.invariant_of-self-2
invariant_of-self-2 c =
    let left = ap (λ (b : Board). b.entries) c.end_owned.ensures.ended in (
      ended_core c.self.inside.agents c.close.new.self c.begin.new.self c.end_owned.new.locks c.process.new.self
          (Agent c.args.agent) _ _ (begun (goal.at.invariant_of-self-2 c).After-begin) left
          (grouped_gone c.args.agent c.end_owned.new.locks.entries c.self.inside.agents.members c.close.new.self.members
          c.close.ensures.others (rw left (gone c.args.agent c.begin.new.self.entries))) c.process.ensures.quiet
          c.process.ensures.tags c.end_owned.ensures.capacity,
      c.end_owned.ensures.emptied,
    )

pub returns-clause-ended : goal.returns-clause-ended
returns-clause-ended c =
    let i = c.self.inside in
    let state = λ (rows : AgentRows). machine_state rows c.begin.new.self in
    let accepted : refusal (state i.agents.rows) (command.Terminate c.args.agent) ≡ None = sym c.in_default.ensures in
    rw (← c.self.view_is) (begun_gives i.agents.rows i.locks c.begin.new.self (command.Terminate c.args.agent) _ _ _
    c.begin.ensures
    (terminate_gives (state i.agents.rows) (state c.close.new.self.rows) _ c.args.agent _ accepted
    (ap state c.close.ensures.rows)
    (owned_processed c.close.new.self.rows c.begin.new.self c.end_owned.new.locks c.process.new.self
    (Agent c.args.agent) _ _ reply.Done (ap (λ (b : Board). b.changes) c.begin.ensures) c.end_owned.ensures.ended
    (record {
      lists = c.process.ensures.processed;
      names = c.process.ensures.names;
      next = c.process.ensures.next;
    }))))
