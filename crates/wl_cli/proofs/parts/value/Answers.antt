use Rattle.std.proofs.Common.{◌∙◌, Some, ap, ap₂}
use Rattle.clap.specs.Words.{Rule, rule_of}
use Rattle.clap.specs.declared.builder.action.ArgAction.TheVariants.{Set}
use Rattle.wl_cli.proofs.parts.value.Goals as goal

pub returns-clause-rule : goal.returns-clause-rule
returns-clause-rule c =
    let rule = ap rule_of c.action.ensures ∙ ap (λ (rule : Rule). record rule { action = Some Set })
    (ap rule_of c.value_name.ensures ∙ ap (λ (rule : Rule). record rule { value_names = 1 }) c.option_named.ensures.rule) in
    let given = c.value_parser.ensures.given in
    ap rule_of c.value_parser.ensures.others
    ∙ ap₂ (λ parser (rule : Rule). record rule { parser = parser }) (given.1 ∙ ap Some given.2) rule

pub returns-clause-local : goal.returns-clause-local
returns-clause-local c =
    ap (λ a. a.global) c.value_parser.ensures.others ∙ ap (λ a. a.global) c.action.ensures
    ∙ ap (λ a. a.global) c.value_name.ensures ∙ c.option_named.ensures.local
