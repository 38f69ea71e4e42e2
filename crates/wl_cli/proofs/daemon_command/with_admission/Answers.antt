use Rattle.std.proofs.Common.{◌∙◌, ap, codes}
use Rattle.wl_cli.specs.Daemon.{again_rule}
use Rattle.wl_cli.proofs.Commands.{gains, stays_local}
use Rattle.wl_cli.proofs.daemon_command.with_admission.Goals as goal

pub returns-clause-app : goal.returns-clause-app
returns-clause-app c limits =
    let token_file = gains c.args.command c.add_option-command.result c.value.result _ _ c.add_option-command.ensures
    c.value.ensures.local limits c.value.ensures.rule in
    let open_option = gains c.add_option-command.result c.add_option-command-2.result c.flag.result _ _
    c.add_option-command-2.ensures c.flag.ensures.local token_file c.flag.ensures.rule in
    let sharded = gains c.add_option-command-2.result c.add_option-command-3.result c.flag-2.result _ _
    c.add_option-command-3.ensures c.flag-2.ensures.local open_option c.flag-2.ensures.rule in
    gains c.add_option-command-3.result c.add_option.result c.repeatable-origin.result _ _ c.add_option.ensures
    c.repeatable-origin.ensures.local sharded (c.repeatable-origin.ensures.rule ∙ ap (again_rule (codes
    "allow-origin")) c.string.ensures)

pub returns-clause-local : goal.returns-clause-local
returns-clause-local c local =
    let token_file = stays_local c.args.command c.add_option-command.result c.value.result c.add_option-command.ensures
    c.value.ensures.local local in
    let open_option = stays_local c.add_option-command.result c.add_option-command-2.result c.flag.result
    c.add_option-command-2.ensures c.flag.ensures.local token_file in
    let sharded = stays_local c.add_option-command-2.result c.add_option-command-3.result c.flag-2.result
    c.add_option-command-3.ensures c.flag-2.ensures.local open_option in
    stays_local c.add_option-command-3.result c.add_option.result c.repeatable-origin.result c.add_option.ensures
    c.repeatable-origin.ensures.local sharded
