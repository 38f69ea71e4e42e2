use Rattle.std.proofs.Common.{rules, arith, refl}
use Rattle.wl_machine.specs.declared.command.Command.TheVariants as command
use Rattle.wl_machine.specs.declared.command.Reply.TheVariants as reply
use Rattle.wl_journal.proofs.Legal.{grown}
use Rattle.wl_journal.proofs.book.recording.BookLockCore.new_signal.Goals as goal

pub invariant_of-self-2 : goal.invariant_of-self-2
invariant_of-self-2 g c =
    let room = c.in_ok-make_room.ensures.room in
    let len = c.self.inside.entries.ok.0 in
    let same = c.in_ok-make_room.ensures.len in
    let capacity = c.push_reserved.ensures.capacity in
    grown _ _ _ c.self.inside.entries.items c.push_reserved.new.self.items _ _ _ _ _ 1 (command.NewSignal c.args.agent)
    (reply.Signal c.in_ok-signal.signal) _ c.self.invariant c.in_ok-signal.ensures.made refl refl (search rules) refl
    (omega (arith, room, len, same, capacity))
