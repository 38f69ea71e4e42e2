use Rattle.std.proofs.Common.{refl, vec_capacity}
use Rattle.wl_machine.specs.declared.command.Command.TheVariants as command
use Rattle.wl_machine.specs.declared.command.Reply.TheVariants as reply
use Rattle.wl_journal.proofs.Legal.{paid}
use Rattle.wl_journal.proofs.book.recording.BookLockCore.terminate.Goals as goal

pub invariant_of-self-2 : goal.invariant_of-self-2
invariant_of-self-2 g c =
    paid _ _ _ c.self.inside.entries.items c.push_reserved.new.self.items _ _ (vec_capacity c.push_reserved.new.self) _
    (command.Terminate c.args.agent) reply.Done _ c.self.invariant c.in_ok-terminate.ensures.ended refl refl
    c.push_reserved.ensures.items c.push_reserved.ensures.capacity
