use Rattle.std.proofs.Common.{◌+◌, arith}
use Rattle.wl_wire.proofs.Steps.{joined, within}
use Rattle.wl_wire.proofs.turn.take_steps.Goals as goal

pub loop-taken-preserved : goal.loop-taken-preserved
loop-taken-preserved g c = (
  joined g.S.Read.remaining g.S.Write.contents g.P.Speaker.answers g.P.Speaker.pushes g.P.Speaker.rests
      c.loop-taken.taken 1 _ (c.loop-taken.wire.socket, c.loop-taken.speaker) _ c.loop-taken.invariant.0
      c.in-Went.ensures.0,
  c.in-Went.ensures.1,
)

pub returns-in-Stops : goal.returns-in-Stops
returns-in-Stops g c =
    within g.S.Read.remaining g.S.Write.contents g.P.Speaker.answers g.P.Speaker.pushes g.P.Speaker.rests
    (c.loop-taken.taken + 1) 16 _ _ (omega arith) (
    joined g.S.Read.remaining g.S.Write.contents g.P.Speaker.answers g.P.Speaker.pushes g.P.Speaker.rests
    c.loop-taken.taken 1 _ (c.loop-taken.wire.socket, c.loop-taken.speaker) _ c.loop-taken.invariant.0
    c.in-Stops.ensures
    )

pub returns-in-Ended : goal.returns-in-Ended
returns-in-Ended g c =
    let (middle, last, steps, ends) = c.in-Ended.ensures in (
      middle,
      last,
      within g.S.Read.remaining g.S.Write.contents g.P.Speaker.answers g.P.Speaker.pushes g.P.Speaker.rests
          (c.loop-taken.taken + 1) 16 _ _ (omega arith) (
          joined g.S.Read.remaining g.S.Write.contents g.P.Speaker.answers g.P.Speaker.pushes g.P.Speaker.rests
          c.loop-taken.taken 1 _ (c.loop-taken.wire.socket, c.loop-taken.speaker) _ c.loop-taken.invariant.0 steps
          ),
      ends,
    )

pub returns : goal.returns
returns g c = within g.S.Read.remaining g.S.Write.contents g.P.Speaker.answers g.P.Speaker.pushes g.P.Speaker.rests
    c.loop-taken.taken 16 _ _ (omega arith) c.loop-taken.invariant.0
