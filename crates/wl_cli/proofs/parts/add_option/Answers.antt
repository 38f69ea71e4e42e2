use Rattle.std.proofs.Common.{subst, sym}
use Rattle.std.specs.Prelude.{IfOk, IsOkAnd}
use Rattle.clap.specs.Words.{AddsArg}
use Rattle.wl_cli.proofs.parts.add_option.Goals as goal

pub returns : goal.returns
returns c =
    subst (λ command. IfOk c.arg.result (λ new. IsOkAnd command (λ old. AddsArg old c.args.option new)))
    (sym c.in_ok-command.was) c.arg.ensures
