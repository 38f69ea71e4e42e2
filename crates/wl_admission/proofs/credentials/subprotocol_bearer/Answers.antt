use Rattle.std.proofs.Common.{arith, ap, sym, ◌∙◌, ◌-◌, length, drop, Some, codes}
use Rattle.std.specs.Prelude.{nat_eq}
use Rattle.std.specs.List.{starts_with}
use Rattle.std.proofs.lemmas.List.{take_all, length-drop}
use Rattle.wl_admission.proofs.Lists.{if_yes}
use Rattle.wl_admission.proofs.credentials.subprotocol_bearer.Goals as goal

pub returns-then-starts_with : goal.returns-then-starts_with
returns-then-starts_with c =
    ap Some (take_all (length c.args.bytes.now - 16) (drop 16 c.args.bytes.now)
    (omega (arith, length-drop 16 c.args.bytes.now)))
    ∙ if_yes (starts_with nat_eq c.args.bytes.now (codes "weblocks.bearer.")) _ _
    (sym c.starts_with.ensures.value ∙ c.if-starts_with.true)
