use Rattle.std.proofs.Common.{ℕ, Bool, ◌==◌, ◌≡◌, ◌≤◌, ◌∙◌, length, arith}
use Rattle.std.specs.Map.{remove_entry}
use Rattle.wl_number_map.specs.inner.Entries.{IsFirst}
use Rattle.wl_number_map.proofs.Put.{put_none, put_out}
use Rattle.wl_number_map.proofs.First.{distinct_removed, first_removed, fewer}
use Rattle.wl_number_map.proofs.few.Few.remove.Given.{Over}
use Rattle.wl_number_map.proofs.few.Few.remove.Goals as goal

after : (g : Over) (c : goal.After-remove g) → c.remove.new.self.items
    ≡ remove_entry (λ k. c.args.number == k) c.self.inside.rows.items
after g c =
    let es = c.self.inside.rows.items in
    let t : ℕ → Bool = λ k. c.args.number == k in
    let at : IsFirst t es c.in-Some.place = rw (c.self.view_is) c.in-Some.ensures.first in
    c.remove.ensures.items ∙ first_removed t es c.in-Some.place at

pub invariant_of-self : goal.invariant_of-self
invariant_of-self g c =
    let es = c.self.inside.rows.items in
    let t : ℕ → Bool = λ k. c.args.number == k in
    let small : length (remove_entry t es) ≤ length es = fewer t es in
    let was = c.self.invariant.1 in
    rw (after g c) (distinct_removed t es c.self.invariant.0, omega (arith, small, was))

pub returns-in-Some-clause-updates : goal.returns-in-Some-clause-updates
returns-in-Some-clause-updates g c = rw (after g c, ← c.self.view_is)
    (put_out c.args.number c.self.inside.rows.items c.self.invariant.0)

pub returns-in-None-clause-updates : goal.returns-in-None-clause-updates
returns-in-None-clause-updates g c = put_none c.args.number c.args.self.now c.in-None.ensures.absent
