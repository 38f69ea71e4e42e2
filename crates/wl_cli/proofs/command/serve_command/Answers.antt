use Rattle.std.proofs.Common.{Ok}
use Rattle.wl_cli.proofs.Commands.{gains, stays_local}
use Rattle.wl_cli.proofs.command.serve_command.Goals as goal

pub returns-clause-app : goal.returns-clause-app
returns-clause-app c =
    let port = gains (Ok c.command_named-command.result) c.add_option-command.result c.port_option.result _ _
    c.add_option-command.ensures c.port_option.ensures.local c.command_named-command.ensures.app
    c.port_option.ensures.rule in
    gains c.add_option-command.result c.add_option.result c.clients_option.result _ _ c.add_option.ensures
    c.clients_option.ensures.local port c.clients_option.ensures.rule

pub returns-clause-local : goal.returns-clause-local
returns-clause-local c =
    let port = stays_local (Ok c.command_named-command.result) c.add_option-command.result c.port_option.result
    c.add_option-command.ensures c.port_option.ensures.local c.command_named-command.ensures.local in
    stays_local c.add_option-command.result c.add_option.result c.clients_option.result c.add_option.ensures
    c.clients_option.ensures.local port
