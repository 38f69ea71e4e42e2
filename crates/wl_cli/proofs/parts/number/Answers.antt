use Rattle.std.proofs.Common.{◌∙◌, ap, pos, rules}
use Rattle.clap.specs.declared.builder.value_parser.ValueParser.TheVariants as values
use Rattle.wl_cli.specs.Daemon.{value_rule}
use Rattle.wl_cli.proofs.parts.number.Goals as goal

pub returns-clause-rule : goal.returns-clause-rule
returns-clause-rule c = c.value.ensures.rule ∙ ap (value_rule c.args.name.now) (c.signed.ensures ∙ ap (λ high. values.Signed (pos 1) high) (search rules))

pub returns-clause-local : goal.returns-clause-local
returns-clause-local c = c.value.ensures.local
