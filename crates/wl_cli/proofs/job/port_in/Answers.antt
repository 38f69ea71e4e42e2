use Rattle.std.proofs.Common.{codes}
use Rattle.std.specs.Str.Parse.{ParsesUnsigned, ExplainsUnsignedError, HasUnsignedDigitsIfOk}
use Rattle.clap.specs.Words.{found_of}
use Rattle.wl_cli.proofs.Options.{has_number}
use Rattle.wl_cli.proofs.job.port_in.Goals as goal

pub returns : goal.returns
returns c =
    has_number (λ bs r. ParsesUnsigned 16 10 bs r × ExplainsUnsignedError 10 bs r × HasUnsignedDigitsIfOk bs r)
    (found_of c.args.options.now) (codes "port") c.get_one.result (λ text n g. g.0.1) c.get_one.ensures.none
    c.get_one.ensures.value
