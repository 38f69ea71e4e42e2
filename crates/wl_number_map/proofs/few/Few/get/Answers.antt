use Rattle.std.proofs.Common.{◌==◌, ◌∙◌, ap, sym}
use Rattle.std.specs.Prelude.{Some}
use Rattle.wl_number_map.proofs.First.{first_found}
use Rattle.wl_number_map.proofs.few.Few.get.Goals as goal

pub returns-in-Some : goal.returns-in-Some
returns-in-Some g c =
    rw (← c.self.view_is) (ap (λ row. Some row.1) c.index.ensures
    ∙ sym (first_found (λ k. c.args.number == k) c.self.inside.rows.items c.in-Some.place c.index.result.now
    (rw (c.self.view_is) c.in-Some.ensures.first)))
