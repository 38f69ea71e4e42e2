use Rattle.std.proofs.Common.{arith, subst}
use Rattle.std.proofs.lemmas.List.{take_all}
use Rattle.std.proofs.lemmas.List.Elements.{All-more}
use Rattle.std.specs.List.{All}
use Rattle.wl_admission.specs.Loopback.{IsOfThisMachine}
use Rattle.wl_daemon.proofs.entry.check_addresses.Goals as goal

pub loop-address-preserved : goal.loop-address-preserved
loop-address-preserved c is_closed has_none =
    All-more IsOfThisMachine c.args.addresses.now c.loop-address.address-index _ (omega arith)
    (c.loop-address.invariant is_closed has_none) (c.in_ok-check_address.ensures.guarded is_closed has_none)

pub returns : goal.returns
returns c = record {
  guarded = λ is_closed has_none. subst (All IsOfThisMachine)
      (take_all c.loop-address.address-index c.args.addresses.now c.loop-address-test.false)
      (c.loop-address.invariant is_closed has_none);
}
