use Rattle.std.proofs.Common.{◌≡◌, ◌≤◌, ◌+◌, ◌++◌, List, ℕ, length}
use Rattle.wl_codec.specs.Lines.{HasNoLf}
use Rattle.wl_script.specs.inner.Progress.{moment, Fed, CountsOn}
use Rattle.wl_script.proofs.feeding.feed.Given as goal

abbrev pub invariant-loop-line : goal.invariant-loop-line
invariant-loop-line g l = record {
  -- what was taken so far
  fed : (front : List ℕ) × (l.piece ≡ front ++ l.rest)
      × Fed l.limit (moment l.fn.progress.unfinished.items l.fn.progress.answered (g.A.Answerer.world l.fn.answerer)
      (g.W.Output.held l.fn.writer)) front
      (moment l.progress.unfinished.items l.progress.answered (g.A.Answerer.world l.answerer)
      (g.W.Output.held l.writer));
  -- what is to be counted yet
  entries : CountsOn (g.A.Answerer.world l.fn.answerer) (g.A.Answerer.journals l.fn.answerer)
      (l.fn.progress.unfinished.items ++ l.piece)
      (g.A.Answerer.world l.answerer) (g.A.Answerer.journals l.answerer) (l.progress.unfinished.items ++ l.rest);
  open_end : HasNoLf l.progress.unfinished.items;
  count : l.progress.answered + length l.rest ≤ l.fn.progress.answered + length l.piece;
  same : g.W.Output.failures l.writer ≡ g.W.Output.failures l.fn.writer;
}

abbrev pub decreases-loop-line : goal.decreases-loop-line
decreases-loop-line g l = length l.rest
