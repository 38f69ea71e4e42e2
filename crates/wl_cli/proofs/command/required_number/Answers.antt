use Rattle.std.proofs.Common.{◌∙◌, ap, true}
use Rattle.clap.specs.Words.{Rule, rule_of}
use Rattle.wl_cli.specs.Daemon.{value_rule}
use Rattle.wl_cli.proofs.command.required_number.Goals as goal

pub returns-clause-rule : goal.returns-clause-rule
returns-clause-rule c most is =
    ap rule_of c.required.ensures ∙ ap (λ (rule : Rule). record rule { required = true })
    (c.value.ensures.rule ∙ ap (value_rule c.args.name.now) is)

pub returns-clause-local : goal.returns-clause-local
returns-clause-local c = ap (λ a. a.global) c.required.ensures ∙ c.value.ensures.local
