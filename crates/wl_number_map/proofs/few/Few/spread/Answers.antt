use Rattle.std.proofs.Common.{◌==◌, ◌∙◌, ap, cond}
use Rattle.std.specs.Prelude.{Some}
use Rattle.std.specs.Map.{lookup}
use Rattle.wl_number_map.proofs.few.Few.spread.Goals as goal

pub returns-clause-updates : goal.returns-clause-updates
returns-clause-updates g c q =
    let moved = ap (λ m. lookup (λ k. q == k) m.entries) c.deref_mut-2.ensures.value ∙ c.move_to.ensures.moved q in
    c.put_reserved.ensures.updates q ∙ ap (cond (c.args.number == q) (Some c.args.value)) moved
