use Rattle.std.proofs.Common.{arith, ap, map, take, ◌∙◌}
use Rattle.wl_admission.specs.Tokens.{reach_by, rule_of}
use Rattle.wl_admission.proofs.Lists.{seen_more}
use Rattle.wl_admission.proofs.TokenLines.{reach_more}
use Rattle.wl_admission.proofs.tokens.Tokens.scope_of.Goals as goal

pub loop-grant-preserved : goal.loop-grant-preserved
loop-grant-preserved c =
    let one = seen_more rule_of c.args.self.now.grants.items c.loop-grant.grant-index c.grant-item.result (omega arith)
    in
    let step = ap (λ rules. reach_by rules c.args.token.now) one
    ∙ reach_more (map rule_of (take c.loop-grant.grant-index c.args.self.now.grants.items)) _ c.args.token.now in
    grind (arith, c.loop-grant.invariant, c.or-found.ensures, c.scope_for.ensures, step)
