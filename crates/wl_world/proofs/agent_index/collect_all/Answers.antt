use Rattle.std.proofs.Common.{◌++◌, ◌∙◌, ap, arith, rules}
use Rattle.wl_world.specs.inner.AgentIndex.{found, observed_of, collect_one}
use Rattle.wl_world.proofs.Observed.{observed_more}
use Rattle.wl_world.proofs.Walks.{one_more_of, collect_twice, untouched_more}
use Rattle.wl_world.proofs.agent_index.collect_all.Goals as goal

pub loop-number-preserved : goal.loop-number-preserved
loop-number-preserved c =
    let loop = c.loop-number in
    let numbers = c.args.numbers.now in
    let start = c.args.live.now.entries in
    let before = c.loop-number.live.entries in
    let after = c.collect_at.new.live.entries in
    record {
      ordered = c.in_ok-collect_at.ensures.ordered;
      under_way = one_more_of (collect_one c.args.agent) (collect_twice c.args.agent) _ loop.number-index numbers start
          before after
          c.loop-number-test.true (search rules) loop.invariant.under_way c.in_ok-collect_at.ensures.each;
      untouched = untouched_more (collect_one c.args.agent) _ loop.number-index numbers start before after
          c.requires.sorted (search rules) c.in_ok-collect_at.ensures.each loop.invariant.untouched;
      observed = observed_more (λ number. observed_of c.args.agent (found number start)) numbers loop.number-index
          loop.observed.items c.collect_at.new.observed.items
          c.loop-number-test.true loop.invariant.observed (c.in_ok-collect_at.ensures.observed
          ∙ ap (λ o. loop.observed.items ++ observed_of c.args.agent o)
          (loop.invariant.untouched loop.number-index (omega arith) c.loop-number-test.true));
    }
