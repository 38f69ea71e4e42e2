use Rattle.std.proofs.Common.{◌∙◌, Ok, ap, true}
use Rattle.clap.specs.Simple.{Shape, app_of_fields, on_top}
use Rattle.wl_cli.proofs.Commands.{gains_command, keeps_local}
use Rattle.wl_cli.proofs.command.script_commands.Goals as goal

pub returns-clause-app : goal.returns-clause-app
returns-clause-app c =
    let top = ap app_of_fields c.subcommand_required-command.ensures ∙ ap (on_top (λ (s : Shape). record s {
      subcommand_required = true;
    })) (ap app_of_fields c.version.ensures ∙ ap (on_top (λ (s : Shape). record s {
      has_version = true;
    })) c.command_named.ensures.app) in
    let run = gains_command (Ok c.subcommand_required-command.result) (Ok c.run_command.result)
    c.add_subcommand-command.result _ _ c.add_subcommand-command.ensures c.run_command.ensures.local top
    c.run_command.ensures.app in
    let audit = gains_command c.add_subcommand-command.result (Ok c.audit_command.result)
    c.add_subcommand-command-2.result _ _ c.add_subcommand-command-2.ensures c.audit_command.ensures.local run
    c.audit_command.ensures.app in
    gains_command c.add_subcommand-command-2.result (Ok c.timeline_command.result) c.add_subcommand.result _ _
    c.add_subcommand.ensures c.timeline_command.ensures.local audit c.timeline_command.ensures.app

pub returns-clause-local : goal.returns-clause-local
returns-clause-local c =
    let top = ap (λ f. f.has_globals) c.subcommand_required-command.ensures ∙ ap (λ f. f.has_globals) c.version.ensures ∙
    c.command_named.ensures.local in
    let run = keeps_local (Ok c.subcommand_required-command.result) (Ok c.run_command.result)
    c.add_subcommand-command.result c.add_subcommand-command.ensures c.run_command.ensures.local top in
    let audit = keeps_local c.add_subcommand-command.result (Ok c.audit_command.result) c.add_subcommand-command-2.result
    c.add_subcommand-command-2.ensures c.audit_command.ensures.local run in
    keeps_local c.add_subcommand-command-2.result (Ok c.timeline_command.result) c.add_subcommand.result
    c.add_subcommand.ensures c.timeline_command.ensures.local audit
