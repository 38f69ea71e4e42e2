use Rattle.std.proofs.Common.{rules, arith, refl}
use Rattle.wl_machine.specs.declared.command.Command.TheVariants as command
use Rattle.wl_machine.specs.declared.command.Reply.TheVariants as reply
use Rattle.wl_journal.proofs.Legal.{grown}
use Rattle.wl_journal.proofs.book.recording.BookLockCore.open.Goals as goal

pub invariant_of-self-2 : goal.invariant_of-self-2
invariant_of-self-2 g c =
    let room = c.in_ok-make_room.ensures.room in
    let len = c.self.inside.entries.ok.0 in
    let same = c.in_ok-make_room.ensures.len in
    let capacity = c.push_reserved.ensures.capacity in
    grown _ _ _ c.self.inside.entries.items c.push_reserved.new.self.items _ _ _ _ _ 1 (command.Enter c.args.kind)
    (reply.Agent c.in_ok-agent.agent) _ c.self.invariant c.in_ok-agent.ensures.opened refl refl (search rules) refl
    (omega (arith, room, len, same, capacity))
