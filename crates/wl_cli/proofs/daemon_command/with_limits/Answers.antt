use Rattle.std.proofs.Common.{◌≡◌, codes, rules}
use Rattle.clap.specs.Words.{rule_of}
use Rattle.wl_cli.specs.Daemon.{option_rule}
use Rattle.wl_cli.proofs.Commands.{default_stays_local, defaults, gains, stays_local}
use Rattle.wl_cli.proofs.daemon_command.with_limits.Goals as goal

pub returns-clause-app : goal.returns-clause-app
returns-clause-app c listen =
    let idle_rule : rule_of c.value-idle.result ≡ option_rule (codes "idle") 86400 = search rules in
    let connections = gains c.args.command c.add_option-command.result c.default_value.result _ _
    c.add_option-command.ensures (default_stays_local c.number-connections.result _ _ c.default_value.ensures
    c.number-connections.ensures.local) listen (defaults c.number-connections.result _ _ _ c.default_value.ensures
    c.number-connections.ensures.rule) in
    let per_address = gains c.add_option-command.result c.add_option-command-2.result c.number-per_address.result _ _
    c.add_option-command-2.ensures c.number-per_address.ensures.local connections c.number-per_address.ensures.rule in
    let managers = gains c.add_option-command-2.result c.add_option-command-3.result c.default_value-2.result _ _
    c.add_option-command-3.ensures (default_stays_local c.number-managers.result _ _ c.default_value-2.ensures
    c.number-managers.ensures.local) per_address (defaults c.number-managers.result _ _ _ c.default_value-2.ensures
    c.number-managers.ensures.rule) in
    let idle = gains c.add_option-command-3.result c.add_option-command-4.result c.default_value-3.result _ _
    c.add_option-command-4.ensures (default_stays_local c.value-idle.result _ _ c.default_value-3.ensures
    c.value-idle.ensures.local) managers (defaults c.value-idle.result _ _ _ c.default_value-3.ensures idle_rule) in
    gains c.add_option-command-4.result c.add_option.result c.number.result _ _ c.add_option.ensures
    c.number.ensures.local idle c.number.ensures.rule

pub returns-clause-local : goal.returns-clause-local
returns-clause-local c local =
    let connections = stays_local c.args.command c.add_option-command.result c.default_value.result
    c.add_option-command.ensures (default_stays_local c.number-connections.result _ _ c.default_value.ensures
    c.number-connections.ensures.local) local in
    let per_address = stays_local c.add_option-command.result c.add_option-command-2.result c.number-per_address.result
    c.add_option-command-2.ensures c.number-per_address.ensures.local connections in
    let managers = stays_local c.add_option-command-2.result c.add_option-command-3.result c.default_value-2.result
    c.add_option-command-3.ensures (default_stays_local c.number-managers.result _ _ c.default_value-2.ensures
    c.number-managers.ensures.local) per_address in
    let idle = stays_local c.add_option-command-3.result c.add_option-command-4.result c.default_value-3.result
    c.add_option-command-4.ensures (default_stays_local c.value-idle.result _ _ c.default_value-3.ensures
    c.value-idle.ensures.local) managers in
    stays_local c.add_option-command-4.result c.add_option.result c.number.result c.add_option.ensures
    c.number.ensures.local idle
