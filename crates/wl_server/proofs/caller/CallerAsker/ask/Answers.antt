use Rattle.std.proofs.lemmas.Result.{on_ok_weaker}
use Rattle.tungstenite.specs.Socket.{content_of}
use Rattle.wl_server.proofs.Sockets.{sent}
use Rattle.wl_server.proofs.caller.CallerAsker.ask.Goals as goal

pub returns-in-Ok-send : goal.returns-in-Ok-send
returns-in-Ok-send g c = on_ok_weaker c.hear.result (λ heard. rw (← c.self.view_is) (
  c.send.new.self,
  sent g.S.Write.contents c.self.inside.socket c.send.new.self (content_of c.in-Ok.message) c.args.line.now
      c.in-Ok.ensures c.in-Ok-send.ensures.wrote c.in-Ok-send.ensures.empty,
  heard,
)) c.hear.ensures
