use Rattle.std.proofs.Common.{sym, arith}
use Rattle.wl_types.specs.declared.phases.Phase.TheVariants.{Pending}
use Rattle.wl_session.proofs.Edits.{with_observed_none, with_observed_more}
use Rattle.wl_session.proofs.last_reported.report_each.Goals as goal

pub loop-observation-init : goal.loop-observation-init
loop-observation-init c = record {
  so_far = sym (with_observed_none _ c.requires.list);
  list = c.requires.list;
  room = omega arith;
}

pub loop-observation-preserved : goal.loop-observation-preserved
loop-observation-preserved c =
    let inv = c.loop-observation.invariant in
    record {
      so_far = with_observed_more c.args.last_reported.now.items c.args.observed.now _ _
          c.loop-observation.observation-index (0, Pending) c.loop-observation-test.true inv.so_far
          c.report_one.ensures.items;
      list = c.report_one.ensures.list;
      room = omega (arith, inv.room, c.report_one.ensures.one_more, c.report_one.ensures.room);
    }
