use Rattle.std.proofs.Common.{arith}
use Rattle.wl_cli.specs.Endpoints.{IsEndpointText}
use Rattle.wl_cli.proofs.Lists.{contains_seen, zip_more}
use Rattle.wl_cli.proofs.endpoint.endpoints_of.Goals as goal

pub returns-in_default-clause-wrong : goal.returns-in_default-clause-wrong
returns-in_default-clause-wrong c listen = (
  _,
  contains_seen (λ t. t.now) c.args.texts.now c.loop-text.text-index _
      (omega arith),
  c.in_default.ensures.none,
)

pub loop-text-preserved : goal.loop-text-preserved
loop-text-preserved c =
    let step = zip_more IsEndpointText (λ t. t.now) c.args.texts.now c.loop-text.text-index _
    c.loop-text.endpoints.items c.in-Some.endpoint (omega arith) c.loop-text.invariant c.in-Some.ensures.some in
    grind (arith, step)
