use Rattle.std.proofs.Common.{◌∙◌, Ok, ap, codes}
use Rattle.wl_cli.specs.Daemon.{again_rule, value_rule}
use Rattle.wl_cli.proofs.Commands.{default_stays_local, defaults, gains, stays_local}
use Rattle.wl_cli.proofs.daemon_command.daemon_command.Goals as goal

pub returns-clause-app : goal.returns-clause-app
returns-clause-app c =
    let listen = gains (Ok c.command_named-command.result) c.add_option-command.result c.default_value.result _ _
    c.add_option-command.ensures (default_stays_local c.repeatable-listen.result _ _ c.default_value.ensures
    c.repeatable-listen.ensures.local) c.command_named-command.ensures.app (defaults c.repeatable-listen.result _ _ _
    c.default_value.ensures (c.repeatable-listen.ensures.rule ∙ ap (again_rule (codes "listen")) c.string.ensures)) in
    let limits = c.with_limits-command.ensures.app listen in
    let admission = c.with_admission-command.ensures.app limits in
    let status = c.with_status-command.ensures.app admission in
    let epoch = c.with_epoch-command.ensures.app status in
    let while_input = gains c.with_epoch-command.result c.add_option-command-2.result c.flag.result _ _
    c.add_option-command-2.ensures c.flag.ensures.local epoch c.flag.ensures.rule in
    gains c.add_option-command-2.result c.add_option.result c.default_value-2.result _ _ c.add_option.ensures
    (default_stays_local c.value-log.result _ _ c.default_value-2.ensures c.value-log.ensures.local) while_input
    (defaults c.value-log.result _ _ _ c.default_value-2.ensures (c.value-log.ensures.rule ∙ ap (value_rule (codes
    "log")) c.string-2.ensures))

pub returns-clause-local : goal.returns-clause-local
returns-clause-local c =
    let listen = stays_local (Ok c.command_named-command.result) c.add_option-command.result c.default_value.result
    c.add_option-command.ensures (default_stays_local c.repeatable-listen.result _ _ c.default_value.ensures
    c.repeatable-listen.ensures.local) c.command_named-command.ensures.local in
    let limits = c.with_limits-command.ensures.local listen in
    let admission = c.with_admission-command.ensures.local limits in
    let status = c.with_status-command.ensures.local admission in
    let epoch = c.with_epoch-command.ensures.local status in
    let while_input = stays_local c.with_epoch-command.result c.add_option-command-2.result c.flag.result
    c.add_option-command-2.ensures c.flag.ensures.local epoch in
    stays_local c.add_option-command-2.result c.add_option.result c.default_value-2.result c.add_option.ensures
    (default_stays_local c.value-log.result _ _ c.default_value-2.ensures c.value-log.ensures.local) while_input
