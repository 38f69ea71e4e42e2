use Rattle.std.proofs.Common.{◌∙◌, ap, codes}
use Rattle.wl_cli.specs.Daemon.{value_rule}
use Rattle.wl_cli.proofs.Commands.{gains, stays_local}
use Rattle.wl_cli.proofs.daemon_command.with_epoch.Goals as goal

pub returns-clause-app : goal.returns-clause-app
returns-clause-app c status =
    let epoch = gains c.args.command c.add_option-command.result c.value.result _ _ c.add_option-command.ensures
    c.value.ensures.local status (c.value.ensures.rule ∙ ap (value_rule (codes "epoch")) c.signed-epoch.ensures) in
    gains c.add_option-command.result c.add_option.result c.value-2.result _ _ c.add_option.ensures
    c.value-2.ensures.local epoch c.value-2.ensures.rule

pub returns-clause-local : goal.returns-clause-local
returns-clause-local c local =
    let epoch = stays_local c.args.command c.add_option-command.result c.value.result c.add_option-command.ensures
    c.value.ensures.local local in
    stays_local c.add_option-command.result c.add_option.result c.value-2.result c.add_option.ensures
    c.value-2.ensures.local epoch
