use Rattle.std.proofs.Common.{refl, [], ◌∷◌, ◌++◌}
use Rattle.wl_server.proofs.Talks.{one_more, counted}
use Rattle.wl_server.proofs.talk.talk.Goals as goal

pub loop-init : goal.loop-init
loop-init g c = ([], refl, refl)

pub returns-in-Ended : goal.returns-in-Ended
returns-in-Ended g c =
    let (es, all, count) = c.loop.invariant in
    record {
      exchanges = es;
      last = (c.loop.transport, c.loop.speaker);
      exchanged = all;
      count = count;
      ends = c.in-Ended.ensures;
    }

pub loop-preserved : goal.loop-preserved
loop-preserved g c =
    let (es, all, count) = c.loop.invariant in
    let (e, went) = c.in-Went.ensures in (
      es ++ e ∷ [],
      one_more g.L.Transport.hears g.L.Transport.says g.P.Speaker.answers es e _ _ _ all went,
      rw c.saturating_add-answered.ensures (counted es e c.loop.answered count),
    )
