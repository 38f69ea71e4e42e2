use Rattle.std.proofs.Common.{rules}
use Rattle.wl_script.proofs.Pieces.{handed_on}
use Rattle.wl_script.proofs.Audits.{few_more, more_counted, more_written, not_written}
use Rattle.wl_script.proofs.auditing.write_origins.Goals as goal

pub returns-in_err-written-clause-err : goal.returns-in_err-written-clause-err
returns-in_err-written-clause-err g c =
    handed_on c.from_residual.result c.in_err-written.field-0.0 _ c.from_residual.ensures.1
    (not_written c.args.books.now c.loop-key.key-index c.loop-key-item.result _ _ _ _ _ _ c.loop-key-test.true
    c.loop-key-item.is
    c.loop-key.invariant.written c.loop-key.invariant.count c.in_err-written.ensures.err)

pub loop-key-preserved : goal.loop-key-preserved
loop-key-preserved g c = record {
  written = more_written c.args.books.now c.loop-key.key-index c.loop-key-item.result _ _ _ _ _ c.loop-key-test.true
      c.loop-key-item.is c.in_ok-written.ensures.ok c.loop-key.invariant.written;
  count = more_counted c.args.books.now c.loop-key.key-index c.loop-key-item.result _ _ _ _ c.loop-key-test.true
      c.loop-key-item.is c.in_ok-written.ensures.ok c.loop-key.invariant.count;
  few = few_more _ _ _ _ _ _ c.in_ok-written.ensures.ok c.loop-key.invariant.few;
  same = search rules;
}
