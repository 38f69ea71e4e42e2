use Rattle.std.proofs.Common.{refl, rules, string_bytes}
use Rattle.wl_wire.specs.Turns.{Telling}
use Rattle.wl_wire.proofs.Steps.{looked, pushed, stays}
use Rattle.wl_wire.proofs.turn.push_changes.Goals as goal

pub returns-then-not-may_push : goal.returns-then-not-may_push
returns-then-not-may_push g c = (
  stays g.S.Read.remaining g.S.Write.contents g.P.Speaker.answers g.P.Speaker.pushes
      g.P.Speaker.rests 0 _,
  c.requires,
)

pub returns-in-Some : goal.returns-in-Some
returns-in-Some g c =
    let tells : g.P.Speaker.pushes c.args.speaker (string_bytes c.in-Some.text) c.in-Ok.next = search rules in
    rw c.after_sending.ensures (
    pushed g.S.Read.remaining g.S.Write.contents g.P.Speaker.answers g.P.Speaker.pushes g.P.Speaker.rests
    c.put-pushing.result _ _ _ _ (string_bytes c.in-Some.text) c.requires tells
    c.put-pushing.ensures
    )

pub returns-in-None : goal.returns-in-None
returns-in-None g c =
    let same : g.P.Speaker.rests c.args.speaker c.in-Ok.next = search rules in (
      looked g.S.Read.remaining g.S.Write.contents g.P.Speaker.answers g.P.Speaker.pushes g.P.Speaker.rests _ _ _ same,
      c.requires,
    )

pub returns-in-Err : goal.returns-in-Err
returns-in-Err g c = (
  (c.args.wire.now.socket, c.args.speaker),
  Telling,
  stays g.S.Read.remaining g.S.Write.contents g.P.Speaker.answers
      g.P.Speaker.pushes g.P.Speaker.rests 0 (c.args.wire.now.socket, c.args.speaker),
  refl,
)
