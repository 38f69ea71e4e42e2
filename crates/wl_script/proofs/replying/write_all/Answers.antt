use Rattle.std.proofs.Common.{rules}
use Rattle.std.proofs.Math.Seq.{take-add}
use Rattle.std.proofs.lemmas.List.{take_rest}
use Rattle.std.proofs.KnownBytes.{Appends-trans}
use Rattle.wl_script.proofs.replying.write_all.Goals as goal

pub loop-at-preserved : goal.loop-at-preserved
loop-at-preserved g c = record {
  within = search rules;
  written = rw (take-add c.loop-at.at c.in-Ok.n c.args.bytes.now)
      (Appends-trans _ _ _ _ _ c.loop-at.invariant.written (rw take_rest at c.in-Ok.ensures.bytes));
  same = search rules;
}
