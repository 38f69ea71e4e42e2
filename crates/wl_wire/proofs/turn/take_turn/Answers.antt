use Rattle.std.proofs.Common.{arith}
use Rattle.wl_wire.proofs.Steps.{turn_after, within}
use Rattle.wl_wire.proofs.turn.take_turn.Goals as goal

pub returns-in-Went : goal.returns-in-Went
returns-in-Went g c = turn_after g.S.Read.remaining g.S.Write.contents g.P.Speaker.answers g.P.Speaker.pushes
    g.P.Speaker.rests _ (c.send_waiting.new.wire.socket, c.in-Went.next) _ _ c.in-Went.ensures.0 c.take_steps.ensures

pub returns-in-Stops : goal.returns-in-Stops
returns-in-Stops g c = within g.S.Read.remaining g.S.Write.contents g.P.Speaker.answers g.P.Speaker.pushes
    g.P.Speaker.rests 0 16 _ _ (omega arith) c.in-Stops.ensures

pub returns-in-Ended : goal.returns-in-Ended
returns-in-Ended g c =
    let (middle, last, steps, ends) = c.in-Ended.ensures in (
      middle,
      last,
      within g.S.Read.remaining g.S.Write.contents g.P.Speaker.answers g.P.Speaker.pushes
          g.P.Speaker.rests 0 16 _ _ (omega arith) steps,
      ends,
    )
