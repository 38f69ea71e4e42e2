use Rattle.std.proofs.Common.{◌∙◌, Some, ap}
use Rattle.clap.specs.Words.{Rule, rule_of}
use Rattle.wl_cli.proofs.parts.option_named.Goals as goal

pub returns-clause-rule : goal.returns-clause-rule
returns-clause-rule c =
    ap rule_of c.help.ensures ∙ ap rule_of c.long.ensures
    ∙ ap (λ (rule : Rule). record rule { long = Some c.args.name.now }) c.new.ensures.rule

pub returns-clause-local : goal.returns-clause-local
returns-clause-local c =
    ap (λ a. a.global) c.help.ensures ∙ ap (λ a. a.global) c.long.ensures ∙ c.new.ensures.optional.1
