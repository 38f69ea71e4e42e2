use Rattle.std.proofs.Common.{◌≡◌, arith, refl, true, vec_capacity}
use Rattle.wl_machine.specs.declared.command.Command.TheVariants as command
use Rattle.wl_machine.specs.declared.command.Reply.TheVariants as reply
use Rattle.wl_machine.specs.Recorded.{is_recorded}
use Rattle.wl_journal.proofs.Legal.{was_owed, paid}
use Rattle.wl_journal.proofs.book.recording.BookLockCore.release.Goals as goal

pub push_reserved-requires : goal.push_reserved-requires
push_reserved-requires g c =
    let said : is_recorded (reply.Released c.release-answer.result) ≡ true = rw c.in-Released.is refl in
    let one = was_owed _ _ _ _ _ _ _ (command.Release c.args.agent c.args.id) (reply.Released c.release-answer.result) _
    c.self.invariant c.release-answer.ensures.released refl said in
    let roomy = c.self.invariant.roomy in
    let len = c.self.inside.entries.ok.0 in
    omega (arith, one, roomy, len)

pub overflow_sub-self : goal.overflow_sub-self
overflow_sub-self g c =
    let said : is_recorded (reply.Released c.release-answer.result) ≡ true = rw c.in-Released.is refl in
    was_owed _ _ _ _ _ _ _ (command.Release c.args.agent c.args.id) (reply.Released c.release-answer.result) _
    c.self.invariant c.release-answer.ensures.released refl said

pub invariant_of-self : goal.invariant_of-self
invariant_of-self g c =
    let said : is_recorded (reply.Released c.release-answer.result) ≡ true = rw c.in-Released.is refl in
    paid _ _ _ c.self.inside.entries.items c.push_reserved.new.self.items _ _ (vec_capacity c.push_reserved.new.self) _
    (command.Release c.args.agent c.args.id) (reply.Released c.release-answer.result) _ c.self.invariant
    c.release-answer.ensures.released refl said c.push_reserved.ensures.items c.push_reserved.ensures.capacity
