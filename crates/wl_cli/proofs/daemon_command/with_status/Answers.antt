use Rattle.std.proofs.Common.{◌∙◌, ap, codes}
use Rattle.wl_cli.specs.Daemon.{value_rule}
use Rattle.wl_cli.proofs.Commands.{gains, stays_local}
use Rattle.wl_cli.proofs.daemon_command.with_status.Goals as goal

pub returns-clause-app : goal.returns-clause-app
returns-clause-app c admission =
    let status = gains c.args.command c.add_option-command.result c.value.result _ _ c.add_option-command.ensures
    c.value.ensures.local admission (c.value.ensures.rule ∙ ap (value_rule (codes "status")) c.string-address.ensures)
    in
    gains c.add_option-command.result c.add_option.result c.repeatable-host.result _ _ c.add_option.ensures
    c.repeatable-host.ensures.local status c.repeatable-host.ensures.rule

pub returns-clause-local : goal.returns-clause-local
returns-clause-local c local =
    let status = stays_local c.args.command c.add_option-command.result c.value.result c.add_option-command.ensures
    c.value.ensures.local local in
    stays_local c.add_option-command.result c.add_option.result c.repeatable-host.result c.add_option.ensures
    c.repeatable-host.ensures.local status
