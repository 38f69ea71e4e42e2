use Rattle.std.proofs.Common.{◌≡◌, ◌≤◌, length, take}
use Rattle.std.specs.Io.KnownBytes.{Appends}
use Rattle.wl_script.specs.Audits.{audit_text, with_entries}
use Rattle.wl_script.specs.inner.Audits.{counts_of}
use Rattle.wl_script.proofs.auditing.write_origins.Given as goal

-- the lines of the first origins were written
abbrev pub invariant-loop-key : goal.invariant-loop-key
invariant-loop-key g l = record {
  written : Appends (g.W.Output.held l.fn.writer) (g.W.Output.held l.writer)
      (audit_text (counts_of (take l.key-index l.books)));
  count : l.written ≡ length (with_entries (counts_of (take l.key-index l.books)));
  few : l.written ≤ l.key-index;
  same : g.W.Output.failures l.writer ≡ g.W.Output.failures l.fn.writer;
}
