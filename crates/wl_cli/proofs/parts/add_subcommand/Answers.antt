use Rattle.std.proofs.Common.{subst, sym}
use Rattle.std.specs.Prelude.{IfOk, IsOkAnd}
use Rattle.clap.specs.Words.{AddsSubcommand}
use Rattle.wl_cli.proofs.parts.add_subcommand.Goals as goal

pub returns : goal.returns
returns c =
    let added = subst (λ subcommand. IfOk c.subcommand.result (λ new.
    IsOkAnd subcommand (λ sub. AddsSubcommand c.in_ok-command.field-0 sub new)))
    (sym c.in_ok-subcommand.was) c.subcommand.ensures in
    subst (λ command. IfOk c.subcommand.result (λ new. IsOkAnd command (λ old.
    IsOkAnd c.args.subcommand (λ sub. AddsSubcommand old sub new)))) (sym c.in_ok-command.was) added
