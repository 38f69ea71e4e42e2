use Rattle.std.proofs.Common.{arith}
use Rattle.wl_admission.proofs.Lists.{bytes_eq_more}
use Rattle.wl_admission.proofs.tokens.is_same_token.Goals as goal

pub loop-i-preserved : goal.loop-i-preserved
loop-i-preserved c =
    let step = bytes_eq_more c.args.known.now c.args.given.now c.loop-i.i 0 0 (omega arith) (omega arith) in
    grind (arith, c.loop-i.invariant, step)
