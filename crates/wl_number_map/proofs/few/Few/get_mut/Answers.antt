use Rattle.std.proofs.Common.{◌≡◌, ◌==◌, refl, sym, ◌∙◌}
use Rattle.std.specs.Prelude.{None}
use Rattle.std.specs.Map.{lookup}
use Rattle.wl_number_map.proofs.First.{none_set}
use Rattle.wl_number_map.proofs.few.Few.get_mut.Goals as goal

pub returns-in-None : goal.returns-in-None
returns-in-None g c =
    let absent : lookup (λ k. c.args.number == k) c.args.self.now
    ≡ None = rw (← c.self.view_is) c.in-None.ensures.absent in (
      (refl, λ w. c.self.view_is ∙ none_set (λ k. c.args.number == k) c.args.self.now w absent, c.self.view_is),
      record { writes_back = tt; value = sym absent },
    )
