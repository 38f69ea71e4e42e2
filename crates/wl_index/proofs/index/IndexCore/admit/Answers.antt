use Rattle.std.proofs.Common.{◌∙◌, ap, arith, length, sym}
use Rattle.wl_machine.specs.declared.command.Command.TheVariants as command
use Rattle.wl_index.specs.inner.Rows.{Rows}
use Rattle.wl_index.proofs.Cores.{as_seen, asked_core, plain_seen, refused_core, room_for_one, unavailable_asked}
use Rattle.wl_index.proofs.index.IndexCore.admit.Goals as goal

-- ---- it is unavailable

pub refuse-requires-clause-few : goal.refuse-requires-clause-few
refuse-requires-clause-few c = (room_for_one c.self.inside.agents.rows c.self.inside.locks c.args.agent c.args.ask.now
    (as_seen _ _ _ (command.Request c.args.agent c.args.ask.now) c.self.view_is c.requires.accepted)).0

pub refuse-requires-clause-low : goal.refuse-requires-clause-low
refuse-requires-clause-low c = (room_for_one c.self.inside.agents.rows c.self.inside.locks c.args.agent c.args.ask.now
    (as_seen _ _ _ (command.Request c.args.agent c.args.ask.now) c.self.view_is c.requires.accepted)).1

pub invariant_of-self : goal.invariant_of-self
invariant_of-self c = (
  refused_core c.refuse.result _ c.self.inside.locks c.refuse.new.self _ c.refuse.ensures.refused
      c.refuse.ensures.err c.self.invariant.0,
  c.self.invariant.1,
)

pub returns-then-is_unavailable-clause-admitted : goal.returns-then-is_unavailable-clause-admitted
returns-then-is_unavailable-clause-admitted c =
    unavailable_asked c.refuse.result c.args.self.now c.self.inside.agents.rows c.self.inside.locks c.refuse.new.self
    c.args.agent c.args.ask.now c.self.view_is c.requires.accepted c.requires.plain
    (sym (c.is_unavailable.ensures c.args.agent) ∙ c.if-is_unavailable.true) c.requires.no_changes
    c.refuse.ensures.number c.refuse.ensures.refused

-- ---- it comes to its queue

pub enqueue-requires-clause-accepted : goal.enqueue-requires-clause-accepted
enqueue-requires-clause-accepted c = as_seen _ _ _ (command.Request c.args.agent c.args.ask.now) c.self.view_is
    c.requires.accepted

pub invariant_of-self-2 : goal.invariant_of-self-2
invariant_of-self-2 c = (
  asked_core c.enqueue.new.agents c.self.inside.locks c.enqueue.new.locks c.process.new.self c.args.agent c.args.ask.now
      _ c.in_ok-number.ensures.enqueued (let room = c.in_ok-reserve.ensures.ok
      in let live = ap (λ (r : Rows). length r.entries) c.requests.ensures.entries in let len = c.len.ensures.entries
      in omega (arith, room, live, len)) c.enqueue.ensures.grouped c.process.ensures.quiet c.process.ensures.tags,
  c.in_ok-reserve.ensures.items ∙ c.self.invariant.1,
)

pub returns-clause-admitted : goal.returns-clause-admitted
returns-clause-admitted c =
    plain_seen c.args.self.now c.self.inside.agents.rows c.enqueue.new.agents.rows c.self.inside.locks
    c.enqueue.new.locks c.process.new.self c.args.agent c.args.ask.now _ c.self.view_is c.requires.accepted
    c.requires.plain
    (sym (c.is_unavailable.ensures c.args.agent) ∙ c.if-is_unavailable.false) c.requires.no_changes
    c.in_ok-number.ensures.enqueued (record {
      lists = c.process.ensures.processed;
      names = c.process.ensures.names;
      next = c.process.ensures.next;
    }) c.enqueue.ensures.rows c.in_ok-number.ensures.number
