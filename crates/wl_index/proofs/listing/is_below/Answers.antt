use Rattle.std.proofs.Common.{◌<◌, sym, arith}
use Rattle.std.proofs.lemmas.Bool.Decides.{nat_tests}
use Rattle.wl_index.proofs.Grouping.{below_last}
use Rattle.wl_index.proofs.listing.is_below.Goals as goal

pub returns-in-Some : goal.returns-in-Some
returns-in-Some c h =
    let lower : c.in-Some.last.now < c.args.number = grind (arith, nat_tests, h) in
    below_last c.args.list.now c.in-Some.last.now c.args.number c.requires (sym c.in-Some.ensures.value) lower
