use Rattle.std.proofs.Common.{◌≡◌, ◌∙◌, ap, sym, None, false}
use Rattle.std.specs.Prelude.{is_some, vec_capacity}
use Rattle.wl_types.specs.declared.answers.AbortAnswer.TheVariants as answer
use Rattle.wl_machine.specs.declared.command.Command.TheVariants as command
use Rattle.wl_machine.specs.declared.command.Reply.TheVariants as reply
use Rattle.wl_machine.specs.Refusals.{refusal, reason_in}
use Rattle.wl_index.specs.declared.request.Owner.TheVariants.{Signal}
use Rattle.wl_index.specs.inner.Core.{IsCore, machine_state}
use Rattle.wl_index.specs.inner.Locks.{Board}
use Rattle.wl_index.specs.inner.AgentRows.{AgentRows}
use Rattle.wl_index.proofs.Cores.{begun_core, begun_gives, ended_core}
use Rattle.wl_index.proofs.Ended.{abort_gives, owned_processed}
use Rattle.wl_index.proofs.Tags.{grouped_kept, owners_signed}
use Rattle.wl_index.proofs.index.IndexCoreLockCore.abort.Goals.{After-begin}
use Rattle.wl_index.proofs.index.IndexCoreLockCore.abort.Goals as goal

begun : (c : After-begin) → IsCore c.self.inside.agents c.begin.new.self (vec_capacity c.self.inside.ending)
begun c = begun_core _ _ _ _ c.begin.ensures c.self.invariant.0

pub end_owned-requires-clause-finds : goal.end_owned-requires-clause-finds
end_owned-requires-clause-finds c =
    let is = begun (goal.at.end_owned-requires-clause-finds c).After-begin in (
      c.numbers-numbers.ensures.rising,
      rw c.numbers-numbers.ensures.numbers
          (owners_signed c.args.agent c.args.signal c.begin.new.self.entries c.self.inside.agents.members is.grouped),
    )

pub end_owned-requires-clause-room : goal.end_owned-requires-clause-room
end_owned-requires-clause-room c = (begun (goal.at.end_owned-requires-clause-room c).After-begin).ending_room

pub invariant_of-self-2 : goal.invariant_of-self-2
invariant_of-self-2 c =
    let es = c.end_owned.new.locks.entries in
    let keeps = grouped_kept es c.self.inside.agents.members c.abort.new.self.members c.requests.ensures.ordered
    (rw c.requests.ensures.entries at c.abort.ensures.kept) in (
      ended_core c.self.inside.agents c.abort.new.self c.begin.new.self c.end_owned.new.locks c.process.new.self
          (Signal c.args.agent c.args.signal) _ _ (begun (goal.at.invariant_of-self-2 c).After-begin)
          (ap (λ (b : Board). b.entries) c.end_owned.ensures.ended) keeps c.process.ensures.quiet c.process.ensures.tags
          c.end_owned.ensures.capacity,
      c.end_owned.ensures.emptied,
    )

pub returns-clause-aborted : goal.returns-clause-aborted
returns-clause-aborted c =
    let i = c.self.inside in
    let state = λ (rows : AgentRows). machine_state rows c.begin.new.self in
    let accepted : refusal (state i.agents.rows) (command.Abort c.args.agent c.args.signal c.args.reason)
    ≡ None = sym c.in_default.ensures in
    let fresh : is_some (reason_in i.agents.rows.signals c.args.agent c.args.signal)
    ≡ false = ap is_some (sym c.reason.ensures) ∙ sym c.is_some.ensures ∙ c.if-is_some.false in
    rw (← c.self.view_is) (begun_gives i.agents.rows i.locks c.begin.new.self
    (command.Abort c.args.agent c.args.signal c.args.reason) _ _ _ c.begin.ensures
    (abort_gives (state i.agents.rows) (state c.abort.new.self.rows) _ c.args.agent c.args.signal c.args.reason _
    accepted fresh (ap state c.abort.ensures.rows)
    (owned_processed c.abort.new.self.rows c.begin.new.self c.end_owned.new.locks c.process.new.self
    (Signal c.args.agent c.args.signal) _ _ (reply.Aborted answer.Done)
    (ap (λ (b : Board). b.changes) c.begin.ensures) c.end_owned.ensures.ended
    (record {
      lists = c.process.ensures.processed;
      names = c.process.ensures.names;
      next = c.process.ensures.next;
    }))))
