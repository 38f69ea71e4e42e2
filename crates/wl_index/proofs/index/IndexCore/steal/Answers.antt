use Rattle.std.proofs.Common.{◌≡◌, ◌∙◌, ◌++◌, ap, arith, filter, length, subst}
use Rattle.wl_machine.specs.declared.command.Command.TheVariants as command
use Rattle.wl_machine.specs.State.{Content}
use Rattle.wl_machine.specs.Grants.{locks}
use Rattle.wl_machine.specs.Step.{lock_ends}
use Rattle.wl_types.specs.declared.phases.Phase.TheVariants.{Stolen}
use Rattle.wl_index.specs.inner.Locks.{Board, no_lock_on}
use Rattle.wl_index.specs.inner.Rows.{Rows, held_of}
use Rattle.wl_index.proofs.Asked.{Ousted, ousted_is}
use Rattle.wl_index.proofs.Cores.{as_seen, ousted_core, steal_seen}
use Rattle.wl_index.proofs.index.IndexCore.steal.Goals.{After-oust}
use Rattle.wl_index.proofs.index.IndexCore.steal.Goals as goal

pub enqueue-requires-clause-accepted : goal.enqueue-requires-clause-accepted
enqueue-requires-clause-accepted c = as_seen _ _ _ (command.Request c.args.agent c.args.ask.now) c.self.view_is
    c.requires.accepted

-- the locks of the name have ended
left : (c : After-oust) → c.oust.new.self ≡ record c.enqueue.new.locks {
  entries =
      filter (no_lock_on c.args.ask.now.name) c.enqueue.new.locks.entries;
  changes = c.enqueue.new.locks.changes ++ lock_ends Stolen
      (locks c.args.ask.now.name (held_of c.enqueue.new.locks.entries));
}
left c = subst (λ n. c.oust.new.self ≡ record c.enqueue.new.locks {
  entries =
      filter (no_lock_on n) c.enqueue.new.locks.entries;
  changes = c.enqueue.new.locks.changes
      ++ lock_ends Stolen (locks n (held_of c.enqueue.new.locks.entries));
}) c.as_str.ensures c.oust.ensures

ousted : (c : After-oust) → Ousted c.self.inside.agents.rows c.self.inside.locks c.oust.new.self c.args.agent
    c.args.ask.now
ousted c =
    ousted_is c.self.inside.agents.rows c.self.inside.locks c.enqueue.new.locks c.oust.new.self c.args.agent
    c.args.ask.now (as_seen _ _ _ (command.Request c.args.agent c.args.ask.now) c.self.view_is c.requires.accepted)
    c.requires.steal (ap (λ (v : Content). v.recent) c.self.view_is ∙ c.requires.no_changes)
    c.in_ok-number.ensures.below c.in_ok-number.ensures.enqueued (left c)

pub seize-requires-clause-gone : goal.seize-requires-clause-gone
seize-requires-clause-gone c = rw c.as_str-2.ensures (ousted (goal.at.seize-requires-clause-gone c).After-oust).gone

pub seize-requires-clause-waits : goal.seize-requires-clause-waits
seize-requires-clause-waits c = rw (c.as_str-2.ensures, c.in_ok-number.ensures.number)
    (ousted (goal.at.seize-requires-clause-waits c).After-oust).waits

pub invariant_of-self-2 : goal.invariant_of-self-2
invariant_of-self-2 c = (
  ousted_core c.enqueue.new.agents c.self.inside.locks c.enqueue.new.locks c.oust.new.self c.process.new.self
      (no_lock_on c.args.ask.now.name) c.args.agent c.args.ask.now _ c.in_ok-number.ensures.enqueued
      (ap (λ (b : Board). b.entries) (left (goal.at.invariant_of-self-2 c).After-oust))
      (let room = c.in_ok-reserve.ensures.ok in let live = ap (λ (r : Rows). length r.entries)
      c.requests.ensures.entries
      in let len = c.len.ensures.entries in omega (arith, room, live, len))
      c.enqueue.ensures.grouped c.process.ensures.quiet (c.process.ensures.tags ∙ c.seize.ensures.tags),
  c.in_ok-reserve.ensures.items ∙ c.self.invariant.1,
)

pub returns-clause-admitted : goal.returns-clause-admitted
returns-clause-admitted c =
    steal_seen c.args.self.now c.self.inside.agents.rows c.enqueue.new.agents.rows c.self.inside.locks c.oust.new.self
    c.seize.new.self c.process.new.self c.args.agent c.args.ask.now _ c.self.view_is c.requires.accepted
    c.requires.steal c.self.invariant.0.quiet c.in_ok-number.ensures.below
    (ousted (goal.at.returns-clause-admitted c).After-oust) c.seize.ensures.held c.seize.ensures.pending
    c.seize.ensures.changes c.seize.ensures.names c.seize.ensures.next
    (record { lists = c.process.ensures.processed; names = c.process.ensures.names; next = c.process.ensures.next })
    c.enqueue.ensures.rows c.in_ok-number.ensures.number
