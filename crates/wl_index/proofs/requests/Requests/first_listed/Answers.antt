use Rattle.std.proofs.Common.{◌≡◌, ◌+◌, ◌∷◌, ℕ, false, refl, sym, ap, ◌∙◌, drop, get_or}
use Rattle.std.specs.Prelude.{is_some}
use Rattle.std.specs.List.{find}
use Rattle.wl_index.specs.inner.Untaken.{finds_untaken}
use Rattle.wl_index.proofs.Turns.{rest_next}
use Rattle.wl_index.proofs.requests.Requests.first_listed.Goals as goal

pub loop-listed-preserved : goal.loop-listed-preserved
loop-listed-preserved c =
    let l = c.loop-listed in
    let ns = c.args.numbers.now in
    let finds : ℕ → _ = finds_untaken c.args.owner c.args.self.now.entries in
    let n : ℕ = get_or ns l.listed-index 0 in
    let next : drop l.listed-index ns ≡ n ∷ drop (l.listed-index + 1) ns =
    rest_next ns l.listed-index 0 c.loop-listed-test.true in
    let none : finds n ≡ false = ap is_some (sym c.ending_place-place.ensures)
    ∙ (sym c.is_some.ensures ∙ c.if-is_some.false) in
    let passed : find finds (n ∷ drop (l.listed-index + 1) ns)
    ≡ find finds (drop (l.listed-index + 1) ns) = rw none refl in
    sym passed ∙ (ap (find finds) (sym next) ∙ l.invariant)
