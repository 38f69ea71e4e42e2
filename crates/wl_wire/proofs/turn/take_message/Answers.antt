use Rattle.std.proofs.Common.{sym, ◌∙◌, refl}
use Rattle.wl_wire.specs.Turns.{Parting, Reading}
use Rattle.wl_wire.proofs.Steps.{after, blocked, exchanged, idle, stays}
use Rattle.wl_wire.proofs.turn.take_message.Goals as goal

pub returns-then-not-wire : goal.returns-then-not-wire
returns-then-not-wire g c = stays g.S.Read.remaining g.S.Write.contents g.P.Speaker.answers g.P.Speaker.pushes
    g.P.Speaker.rests 1 _

pub returns-in-Some : goal.returns-in-Some
returns-in-Some g c =
    exchanged g.S.Read.remaining g.S.Write.contents g.P.Speaker.answers g.P.Speaker.pushes g.P.Speaker.rests
    c.args.wire.now.socket c.read.new.self.socket c.args.speaker c.in-Some.given.now c.answer.result
    c.answer.new.wire.socket c.requires
    (c.in-Ok.message, c.in-Ok.ensures.socket, c.in-Some.ensures.given)
    c.answer.ensures

pub returns-then-is_close : goal.returns-then-is_close
returns-then-is_close g c = (
  (c.args.wire.now.socket, c.args.speaker),
  Parting,
  stays g.S.Read.remaining g.S.Write.contents g.P.Speaker.answers g.P.Speaker.pushes g.P.Speaker.rests 1
      (c.args.wire.now.socket, c.args.speaker),
  (c.requires, (c.in-Ok.message, c.in-Ok.ensures.socket, sym c.is_close.ensures ∙ c.if-is_close.true), refl),
)

pub returns-in-Ok : goal.returns-in-Ok
returns-in-Ok g c =
    after g.S.Read.remaining g.S.Write.contents g.P.Speaker.answers g.P.Speaker.pushes g.P.Speaker.rests 1 0 _
    (c.read.new.self.socket, c.args.speaker) _ _
    (idle g.S.Read.remaining g.S.Write.contents g.P.Speaker.answers g.P.Speaker.pushes g.P.Speaker.rests _ _ _
    c.in-Ok.message c.requires c.in-Ok.ensures.socket c.in-None.ensures.idle
    (sym c.is_close.ensures ∙ c.if-is_close.false))
    c.send_waiting.ensures

pub returns-then-would_block : goal.returns-then-would_block
returns-then-would_block g c =
    after g.S.Read.remaining g.S.Write.contents g.P.Speaker.answers g.P.Speaker.pushes g.P.Speaker.rests 1 0 _
    (c.read.new.self.socket, c.args.speaker) _ _
    (blocked g.S.Read.remaining g.S.Write.contents g.P.Speaker.answers g.P.Speaker.pushes g.P.Speaker.rests _ _ _
    c.in-Err.error c.requires c.in-Err.ensures.socket (c.would_block.ensures c.if-would_block.true))
    c.stop.ensures

pub returns : goal.returns
returns g c = (
  (c.args.wire.now.socket, c.args.speaker),
  Reading,
  stays g.S.Read.remaining g.S.Write.contents g.P.Speaker.answers g.P.Speaker.pushes g.P.Speaker.rests 1
      (c.args.wire.now.socket, c.args.speaker),
  (c.requires, (c.in-Err.error, c.in-Err.ensures.socket, c.ending_of.ensures)),
)
