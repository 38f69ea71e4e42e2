use Rattle.std.proofs.Common.{[], ◌∷◌, ◌++◌}
use Rattle.wl_server.specs.inner.Talks.{data_bytes}
use Rattle.wl_server.proofs.Sockets.{idles_more, heard}
use Rattle.wl_server.proofs.socket.SocketTransport.receive.Goals as goal

pub returns-in-Some-data_of-clause-heard : goal.returns-in-Some-data_of-clause-heard
returns-in-Some-data_of-clause-heard g c =
    let (before, all) = c.loop.invariant in
    heard (λ peer_stream. g.S.Read.remaining peer_stream.stream) before c.in-Ok.message c.args.self.now.inner
    c.loop.self.inner c.read.new.self (data_bytes c.in-Some-data_of.data) all (rw c.in-Ok.is at c.read.ensures)
    c.in-Some-data_of.ensures.given

pub loop-preserved : goal.loop-preserved
loop-preserved g c =
    let (before, all) = c.loop.invariant in (
      before ++ c.in-Ok.message ∷ [],
      idles_more (λ peer_stream. g.S.Read.remaining peer_stream.stream) before
          c.in-Ok.message c.args.self.now.inner c.loop.self.inner c.read.new.self all (rw c.in-Ok.is at c.read.ensures)
          c.in_default.ensures.idle,
    )
