use Rattle.std.proofs.Common.{refl, [], ◌∷◌, ◌++◌, ap, Ok}
use Rattle.wl_server.specs.Lines.{to_come}
use Rattle.wl_server.proofs.Talks.{one_more, counted}
use Rattle.wl_server.proofs.relaying.relay_lines.Goals as goal

pub loop-init : goal.loop-init
loop-init g c = ([], rw c.new-lines.ensures refl, refl)

pub loop-preserved : goal.loop-preserved
loop-preserved g c =
    let (es, all, count) = c.loop.invariant in
    let (e, went) = c.in-Ok-true.ensures.went (ap Ok c.in-Ok-true.field-0-test) in (
      es ++ e ∷ [],
      one_more _ _ g.A.Asker.asks es e _ _ _ all went,
      rw c.saturating_add-written.ensures (counted es e c.loop.written count),
    )

pub returns-in-Ok-false : goal.returns-in-Ok-false
returns-in-Ok-false g c =
    let (es, all, count) = c.loop.invariant in
    let (end, kept) = c.in-Ok-false.ensures.ended (ap Ok c.in-Ok-false.field-0-test) in
    record {
      exchanges = es;
      last = ((to_come g.I.Read.remaining c.loop.lines, g.O.Write.contents c.loop.writer), c.loop.asker);
      exchanged = all;
      finishes = (count, end, kept);
    }

pub returns-in-Err : goal.returns-in-Err
returns-in-Err g c =
    let (es, all, count) = c.loop.invariant in
    record {
      exchanges = es;
      last = ((to_come g.I.Read.remaining c.loop.lines, g.O.Write.contents c.loop.writer), c.loop.asker);
      exchanged = all;
      finishes = rw (← count) c.in-Err.ensures.stopped;
    }
