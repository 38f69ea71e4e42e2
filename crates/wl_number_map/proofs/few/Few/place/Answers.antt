use Rattle.std.proofs.Common.{ℕ, Bool, true, ◌==◌, ◌≡◌, ◌∙◌, get_or, sym, ap, arith, subst}
use Rattle.std.specs.Prelude.{None}
use Rattle.std.specs.Map.{lookup}
use Rattle.std.proofs.lemmas.Bool.Decides.{nat_tests}
use Rattle.std.proofs.lemmas.List.{take_all}
use Rattle.std.proofs.lemmas.Map.{NonePasses, lookup-none}
use Rattle.wl_number_map.specs.inner.Entries.{IsFirst}
use Rattle.wl_number_map.proofs.First.{first_at}
use Rattle.wl_number_map.proofs.few.Few.place.Goals as goal

pub returns-then-row-number-clause-first : goal.returns-then-row-number-clause-first
returns-then-row-number-clause-first g c =
    let t : ℕ → Bool = λ k. c.args.number == k in
    let es = c.deref-row-items.result.now in
    let row = c.row-item.result in
    let same = c.if-row-number.true in
    let passes : t row.0 ≡ true = grind (arith, nat_tests, same) in
    let here : t (get_or es c.loop-row.row-index row).0 ≡ true = ap (λ r. t r.0) (sym c.row-item.is) ∙ passes in
    let at = first_at t es c.loop-row.row-index row c.loop-row-test.true c.loop-row.invariant.1 here in
    let now = subst (λ l. IsFirst t l c.loop-row.row-index) (c.deref-row-items.ensures.value ∙ c.self.view_is) at in
    subst (λ i. IsFirst t c.args.self.now i) (sym c.loop-row.invariant.0) now

pub returns-clause-absent : goal.returns-clause-absent
returns-clause-absent g c =
    let t : ℕ → Bool = λ k. c.args.number == k in
    let es = c.deref-row-items.result.now in
    let none = subst (NonePasses t) (take_all c.loop-row.row-index es c.loop-row-test.false) c.loop-row.invariant.1 in
    subst (λ l. lookup t l ≡ None) (c.deref-row-items.ensures.value ∙ c.self.view_is) (lookup-none t es none)
