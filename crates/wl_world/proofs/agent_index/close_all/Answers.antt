use Rattle.std.proofs.Common.{rules}
use Rattle.wl_world.specs.inner.AgentIndex.{close_one}
use Rattle.wl_world.proofs.Walks.{one_more_of, left_twice}
use Rattle.wl_world.proofs.agent_index.close_all.Goals as goal

pub loop-number-preserved : goal.loop-number-preserved
loop-number-preserved c = record {
  ordered = c.close_at.ensures.ordered;
  under_way = one_more_of (close_one c.args.agent) (left_twice c.args.agent) _ c.loop-number.number-index
      c.args.numbers.now c.args.live.now.entries c.loop-number.live.entries c.close_at.new.live.entries
      c.loop-number-test.true (search rules) c.loop-number.invariant.under_way c.close_at.ensures.each;
}
