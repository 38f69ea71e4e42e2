use Rattle.std.proofs.Common.{◌≡◌, refl, true, vec_capacity}
use Rattle.wl_machine.specs.declared.command.Command.TheVariants as command
use Rattle.wl_machine.specs.declared.command.Reply.TheVariants as reply
use Rattle.wl_machine.specs.Recorded.{is_recorded}
use Rattle.wl_journal.proofs.Legal.{paid}
use Rattle.wl_journal.proofs.book.recording.BookLockCore.abort.Goals as goal

pub invariant_of-self-in-Done : goal.invariant_of-self-in-Done
invariant_of-self-in-Done g c =
    let said : is_recorded (reply.Aborted c.in_ok-answer.answer) ≡ true = rw c.in-Done.is refl in
    paid _ _ _ c.self.inside.entries.items c.push_reserved.new.self.items _ _ (vec_capacity c.push_reserved.new.self) _
    (command.Abort c.args.agent c.args.signal c.args.reason) (reply.Aborted c.in_ok-answer.answer) _ c.self.invariant
    c.in_ok-answer.ensures.aborted refl said c.push_reserved.ensures.items c.push_reserved.ensures.capacity
