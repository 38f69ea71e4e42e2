use Rattle.wl_cli.proofs.Commands.{gains_command, keeps_local}
use Rattle.wl_cli.proofs.command.weblocks_command.Goals as goal

pub returns-clause-app : goal.returns-clause-app
returns-clause-app c =
    let serve = gains_command c.script_commands-command.result c.serve_command.result c.add_subcommand-command.result _ _
    c.add_subcommand-command.ensures c.serve_command.ensures.local c.script_commands-command.ensures.app
    c.serve_command.ensures.app in
    let client = gains_command c.add_subcommand-command.result c.client_command.result c.add_subcommand-command-2.result _
    _ c.add_subcommand-command-2.ensures c.client_command.ensures.local serve c.client_command.ensures.app in
    gains_command c.add_subcommand-command-2.result c.daemon_command.result c.add_subcommand.result _ _
    c.add_subcommand.ensures c.daemon_command.ensures.local client c.daemon_command.ensures.app

pub returns-clause-local : goal.returns-clause-local
returns-clause-local c =
    let serve = keeps_local c.script_commands-command.result c.serve_command.result c.add_subcommand-command.result
    c.add_subcommand-command.ensures c.serve_command.ensures.local c.script_commands-command.ensures.local in
    let client = keeps_local c.add_subcommand-command.result c.client_command.result c.add_subcommand-command-2.result
    c.add_subcommand-command-2.ensures c.client_command.ensures.local serve in
    keeps_local c.add_subcommand-command-2.result c.daemon_command.result c.add_subcommand.result c.add_subcommand.ensures
    c.daemon_command.ensures.local client
