use Rattle.std.proofs.Common.{Ok}
use Rattle.wl_cli.proofs.Commands.{gains, stays_local}
use Rattle.wl_cli.proofs.command.client_command.Goals as goal

pub returns-clause-app : goal.returns-clause-app
returns-clause-app c =
    gains (Ok c.command_named-command.result) c.add_option.result c.port_option.result _ _ c.add_option.ensures
    c.port_option.ensures.local c.command_named-command.ensures.app c.port_option.ensures.rule

pub returns-clause-local : goal.returns-clause-local
returns-clause-local c =
    stays_local (Ok c.command_named-command.result) c.add_option.result c.port_option.result c.add_option.ensures
    c.port_option.ensures.local c.command_named-command.ensures.local
