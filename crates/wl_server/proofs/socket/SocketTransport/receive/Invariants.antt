use Rattle.std.proofs.Common.{List}
use Rattle.tungstenite.specs.declared.message.Message.{Message}
use Rattle.wl_server.specs.Sockets.{Idles}
use Rattle.wl_server.proofs.socket.SocketTransport.receive.Given as goal

-- only pings, pongs and close frames came so far
abbrev pub invariant-loop : goal.invariant-loop
invariant-loop g l = (idle : List Message) × Idles (λ peer_stream. g.S.Read.remaining peer_stream.stream)
    l.fn.self.inner idle l.self.inner
