use Rattle.std.proofs.Common.{refl, ap, Ok}
use Rattle.std.proofs.KnownBytes.{Keeps-refl}
use Rattle.wl_server.specs.Lines.{to_come}
use Rattle.wl_server.proofs.relaying.relay_line.Goals as goal

pub returns-in-Err-Ended-clause-stopped : goal.returns-in-Err-Ended-clause-stopped
returns-in-Err-Ended-clause-stopped g c =
    let took = ap Ok c.in-Ok-true.field-0-test in (
      refl,
      (
        c.next_line.new.line.items,
        (to_come g.I.Read.remaining c.next_line.new.self, g.O.Write.contents c.args.writer.now),
        (c.in-Ok-true.ensures.given took, c.in-Ok-true.ensures.short took, refl),
      ),
      Keeps-refl _,
    )

pub returns-in-Ok-put-clause-went : goal.returns-in-Ok-put-clause-went
returns-in-Ok-put-clause-went g c = λ _.
    let took = ap Ok c.in-Ok-true.field-0-test in (
      (c.next_line.new.line.items, c.ask.new.reply.items),
      (
        (to_come g.I.Read.remaining c.next_line.new.self, g.O.Write.contents c.args.writer.now),
        (c.in-Ok-true.ensures.given took, c.in-Ok-true.ensures.short took, refl),
        rw c.deref.ensures.value at c.in-Ok.ensures,
        (refl, rw (c.deref-2.ensures.value, c.in-Ok-push.ensures.items) at c.in-Ok-put.ensures.all),
      ),
    )

pub returns-in-Err-clause-stopped : goal.returns-in-Err-clause-stopped
returns-in-Err-clause-stopped g c =
    let took = ap Ok c.in-Ok-true.field-0-test in
    let (part, more, split, wrote) = c.in-Err.ensures.some in (
      refl,
      (
        c.next_line.new.line.items,
        c.ask.new.reply.items,
        part,
        more,
        (to_come g.I.Read.remaining c.next_line.new.self, g.O.Write.contents c.args.writer.now),
        c.ask.new.self,
        (c.in-Ok-true.ensures.given took, c.in-Ok-true.ensures.short took, refl),
        rw c.deref.ensures.value at c.in-Ok.ensures,
        rw (c.deref-2.ensures.value, c.in-Ok-push.ensures.items) at split,
        wrote,
      ),
    )
