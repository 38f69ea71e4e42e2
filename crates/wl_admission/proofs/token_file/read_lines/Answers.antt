use Rattle.std.proofs.Common.{ap, sym, ◌∙◌, map, Ok}
use Rattle.wl_admission.specs.Tokens.{rule_of}
use Rattle.wl_admission.proofs.TokenLines.{rule_more, fault_at}
use Rattle.wl_admission.proofs.token_file.read_lines.Goals as goal

pub loop-index-preserved : goal.loop-index-preserved
loop-index-preserved c =
    rule_more (λ line. line.now) c.args.lines.now c.loop-index.index _ (map rule_of c.loop-index.grants.items)
    (rule_of c.in-Ok.grant) c.loop-index-test.true c.loop-index.invariant c.in-Ok.ensures
    ∙ ap Ok (sym c.in_ok-push_grant.ensures.pushed)

pub returns-in-Err : goal.returns-in-Err
returns-in-Err c = λ other.
    fault_at (λ line. line.now) c.args.lines.now c.loop-index.index _ (map rule_of c.loop-index.grants.items) _
    c.loop-index-test.true c.loop-index.invariant (c.in-Err.ensures other)
