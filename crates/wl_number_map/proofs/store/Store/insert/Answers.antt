use Rattle.std.proofs.Common.{◌==◌, ◌∙◌, sym, ap}
use Rattle.std.specs.Prelude.{IsSome, is_some}
use Rattle.std.specs.Map.{lookup, set_value}
use Rattle.wl_number_map.specs.inner.Entries.{held_entries}
use Rattle.wl_number_map.proofs.Put.{put_over}
use Rattle.wl_number_map.proofs.store.Store.insert.Goals as goal

pub returns-in-Some-clause-updates : goal.returns-in-Some-clause-updates
returns-in-Some-clause-updates g c =
    let few = c.in-Few.few in
    let there : IsSome (lookup (λ k. c.args.number == k) few) = ap is_some (sym c.in-Some.ensures.value) in
    let over = c.get_mut.follows.holds c.replace.new.dest ∙ ap (λ w. set_value (λ k. c.args.number == k) few w)
    c.replace.ensures.after in
    let was = ap held_entries (sym c.in-Few.is) ∙ c.self.view_is in
    rw (over, ← was) (put_over c.args.number c.args.value few there)
