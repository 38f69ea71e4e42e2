use Rattle.std.proofs.Common.{◌∙◌, Some, ap}
use Rattle.clap.specs.Words.{Rule, rule_of}
use Rattle.clap.specs.declared.builder.action.ArgAction.TheVariants.{Append}
use Rattle.wl_cli.proofs.parts.repeatable.Goals as goal

pub returns-clause-rule : goal.returns-clause-rule
returns-clause-rule c =
    ap rule_of c.action.ensures ∙ ap (λ (rule : Rule). record rule { action = Some Append }) c.value.ensures.rule

pub returns-clause-local : goal.returns-clause-local
returns-clause-local c = ap (λ a. a.global) c.action.ensures ∙ c.value.ensures.local
