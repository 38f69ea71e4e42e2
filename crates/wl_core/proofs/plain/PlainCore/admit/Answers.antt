use Rattle.std.proofs.Common.{◌≡◌, ◌∙◌, sym, false, refl, subst, ap, rules, arith, ◌+◌, [], ◌++◌}
use Rattle.std.specs.Prelude.{not, nat_le, filter, None, if◌then◌else◌}
use Rattle.std.specs.Str.{bytes_eq}
use Rattle.wl_types.specs.declared.phases.Phase.TheVariants.{Stolen}
use Rattle.wl_machine.specs.State.{State, Content}
use Rattle.wl_machine.specs.Refusals.{refusal}
use Rattle.wl_machine.specs.Grants.{locks}
use Rattle.wl_machine.specs.Step.{with_name, Gives, lock_ends}
use Rattle.wl_machine.specs.declared.command.Command.TheVariants as command
use Rattle.wl_machine.specs.declared.command.Reply.TheVariants as reply
use Rattle.wl_core.proofs.Free.{request_unspent}
use Rattle.wl_core.proofs.Processes.{request_meets}
use Rattle.wl_core.proofs.plain.PlainCore.admit.Goals as goal

pub overflow_add-self : goal.overflow_add-self
overflow_add-self c =
    let s : State = record {
      agents = c.self.inside.agents.items;
      signals = c.self.inside.signals.items;
      names = c.self.inside.names.items;
      held = c.self.inside.held.items;
      pending = c.self.inside.pending.items;
      next = c.self.inside.next;
    } in
    let accepted : refusal s (command.Request c.args.agent c.args.ask.now)
    ≡ None = subst (λ (v : Content). refusal v.state (command.Request c.args.agent c.args.ask.now) ≡ None)
    (sym c.self.view_is) c.requires.accepted in
    let unspent : nat_le 9007199254740992 c.self.inside.next.request
    ≡ false = request_unspent s c.args.agent c.args.ask.now accepted in
    grind arith

pub returns-clause-admitted : goal.returns-clause-admitted
returns-clause-admitted c =
    let s : State = record {
      agents = c.self.inside.agents.items;
      signals = c.self.inside.signals.items;
      names = c.self.inside.names.items;
      held = c.self.inside.held.items;
      pending = c.self.inside.pending.items;
      next = c.self.inside.next;
    } in
    let accepted : refusal s (command.Request c.args.agent c.args.ask.now)
    ≡ None = subst (λ (v : Content). refusal v.state (command.Request c.args.agent c.args.ask.now) ≡ None)
    (sym c.self.view_is) c.requires.accepted in
    let named : c.in-Ok.name ≡ c.args.ask.now.name = search rules in
    let cleared : c.make_room.new.changes.items ≡ [] = c.make_room.ensures.changes
    ∙ ap (λ (v : Content). v.recent) c.self.view_is ∙ c.requires.no_changes in
    let added : c.add_name.new.names.items ≡ with_name c.in-Ok.name c.self.inside.names.items = search rules in
    let kept : c.enqueue.new.held.items ≡ (if c.args.ask.now.steal
    then filter (λ lock. not (bytes_eq lock.name c.in-Ok.name)) c.self.inside.held.items
    else c.self.inside.held.items) = rw (← c.make_room.ensures.held) c.enqueue.ensures.held in
    let waits = rw (
      c.deref.ensures.value,
      c.deref-2.ensures.value,
      c.make_room.ensures.held,
      c.make_room.ensures.pending,
      named,
    ) at (sym c.is_unavailable.ensures ∙ c.if-is_unavailable.false) in
    let entered = rw (c.make_room.ensures.pending, named) at c.enqueue.ensures.pending in
    let ended : c.enqueue.new.changes.items ≡ (if c.args.ask.now.steal
    then c.make_room.new.changes.items ++ lock_ends Stolen (locks c.in-Ok.name c.self.inside.held.items)
    else c.make_room.new.changes.items) = rw (← c.make_room.ensures.held) c.enqueue.ensures.changes in
    subst (λ (v : Content). Gives v.state (command.Request c.args.agent c.args.ask.now)
    (record s {
      names = c.process_queues.new.names.items;
      held = c.process_queues.new.held.items;
      pending = c.process_queues.new.pending.items;
      next = record c.self.inside.next {
        request =
            c.self.inside.next.request + 1;
      };
    }) (reply.Request c.self.inside.next.request) c.process_queues.new.changes.items)
    c.self.view_is
    (request_meets s c.args.agent c.args.ask.now c.in-Ok.name _ _ _ _ _ _ _ _ _ c.args.ask.now.steal refl accepted waits
    named added cleared kept entered ended c.process_queues.ensures.lists c.process_queues.ensures.names)
