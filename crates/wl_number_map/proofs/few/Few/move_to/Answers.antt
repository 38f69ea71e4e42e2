use Rattle.std.proofs.Common.{◌≡◌, ◌==◌, ◌-◌, ◌++◌, [], ◌∷◌, ◌∙◌, length, take, ap, sym, arith, append-nil}
use Rattle.std.specs.Map.{lookup}
use Rattle.std.proofs.lemmas.List.{length_push}
use Rattle.wl_number_map.proofs.First.{few_none}
use Rattle.wl_number_map.proofs.Put.{lookup_moved}
use Rattle.wl_number_map.proofs.few.Few.move_to.Given.{Over}
use Rattle.wl_number_map.proofs.few.Few.move_to.Goals as goal

pub loop-number-preserved : goal.loop-number-preserved
loop-number-preserved g c =
    let left = c.pop.new.self.items in
    let fs = c.loop-number.map.entries in
    let was : c.loop-number.self-inside.rows.items ≡ left ++ (c.in-Some.number, c.in-Some.value)
    ∷ [] = c.in-Some.ensures.items in
    let size = ap length was ∙ length_push left (c.in-Some.number, c.in-Some.value) in
    let room = c.loop-number.invariant.1 in
    let spent = c.put_reserved.ensures.room in (
      λ q. lookup_moved left fs c.put_reserved.new.map.entries c.in-Some.number c.in-Some.value
          c.put_reserved.ensures.updates q
          ∙ (ap (λ l. lookup (λ k. q == k) (l ++ fs)) (sym was) ∙ c.loop-number.invariant.0 q),
      omega (arith, size, room, spent),
    )

-- none is left
none : (g : Over) (c : goal.In_default g) → c.pop.new.self.items ≡ []
none g c = c.in_default.ensures.rest ∙ ap (λ n. take (n - 1) c.loop-number.self-inside.rows.items)
    c.in_default.ensures.cases.0

pub invariant_of-self : goal.invariant_of-self
invariant_of-self g c = few_none c.pop.new.self.items (none g c)

pub returns-clause-moved : goal.returns-clause-moved
returns-clause-moved g c q =
    let after : c.loop-number.self-inside.rows.items ≡ [] = c.in_default.ensures.items
    ∙ (append-nil c.pop.new.self.items ∙ none g c) in
    let now = ap (λ l. lookup (λ k. q == k) (l ++ c.loop-number.map.entries)) (sym after) ∙ c.loop-number.invariant.0 q
    in
    now ∙ ap (lookup (λ k. q == k)) (ap (λ l. c.self.inside.rows.items ++ l) c.requires.none
    ∙ (append-nil c.self.inside.rows.items ∙ c.self.view_is))
