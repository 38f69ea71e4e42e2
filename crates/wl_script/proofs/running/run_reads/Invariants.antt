use Rattle.std.proofs.Common.{◌≡◌, ◌≤◌, ◌*◌, List, [], ℕ, length}
use Rattle.std.specs.Io.KnownBytes.{Consumes}
use Rattle.wl_script.specs.Streams.{GrewBy}
use Rattle.wl_script.specs.inner.Progress.{moment, Fed, CountsOn}
use Rattle.wl_script.proofs.running.run_reads.Given as goal

abbrev pub invariant-loop-turn : goal.invariant-loop-turn
invariant-loop-turn g l = record {
  -- what was read so far
  fed : (bytes : List ℕ) × Consumes (g.R.Input.rest l.fn.reader) (g.R.Input.rest l.reader) bytes
      × Fed l.limits.line (moment [] 0 (g.A.Answerer.world l.fn.answerer) (g.W.Output.held l.fn.writer)) bytes
      (moment l.progress.unfinished.items l.progress.answered (g.A.Answerer.world l.answerer)
      (g.W.Output.held l.writer))
      × (l.turn ≤ length bytes)
      × CountsOn (g.A.Answerer.world l.fn.answerer) (g.A.Answerer.journals l.fn.answerer) bytes
      (g.A.Answerer.world l.answerer) (g.A.Answerer.journals l.answerer) l.progress.unfinished.items;
  short : length l.progress.unfinished.items ≤ l.limits.line;
  count : l.progress.answered ≤ 65536 * l.turn;
  reads : GrewBy (g.R.Input.reads l.fn.reader) (g.R.Input.reads l.reader) l.turn;
  none_read : g.R.Input.failures l.reader ≡ g.R.Input.failures l.fn.reader;
  none_written : g.W.Output.failures l.writer ≡ g.W.Output.failures l.fn.writer;
}
