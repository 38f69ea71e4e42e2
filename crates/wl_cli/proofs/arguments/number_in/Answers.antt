use Rattle.std.proofs.Common.{rules, Some}
use Rattle.std.specs.Str.Parse.{ParsesUnsigned, ExplainsUnsignedError, HasUnsignedDigitsIfOk}
use Rattle.clap.specs.Words.{found_of}
use Rattle.wl_cli.proofs.Options.{has_number}
use Rattle.wl_cli.proofs.arguments.number_in.Goals as goal

pub returns-in-Some-clause-ok : goal.returns-in-Some-clause-ok
returns-in-Some-clause-ok c =
    let has = has_number (λ bs r. ParsesUnsigned 32 10 bs r × ExplainsUnsignedError 10 bs r
    × HasUnsignedDigitsIfOk bs r)
    (found_of c.args.options.now) c.args.name.now (Some c.in-Some.number) (λ text n g. g.0.1) c.in-Some.ensures.none
    c.in-Some.ensures.value in
    (has, search rules, search rules)
