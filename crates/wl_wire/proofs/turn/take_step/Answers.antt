use Rattle.std.proofs.Common.{arith}
use Rattle.wl_wire.proofs.Steps.{after, more}
use Rattle.wl_wire.proofs.turn.take_step.Goals as goal

pub returns-in-Went : goal.returns-in-Went
returns-in-Went g c = after g.S.Read.remaining g.S.Write.contents g.P.Speaker.answers g.P.Speaker.pushes
    g.P.Speaker.rests 0 1 _ (c.push_changes.new.wire.socket, c.in-Went.next) _ _ c.in-Went.ensures.0
    c.take_message.ensures

pub returns-in_default : goal.returns-in_default
returns-in_default g c = more g.S.Read.remaining g.S.Write.contents g.P.Speaker.answers g.P.Speaker.pushes
    g.P.Speaker.rests 0 1 _ _ _ (omega arith) c.push_changes.ensures
