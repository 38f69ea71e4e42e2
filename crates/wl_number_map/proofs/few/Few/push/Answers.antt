use Rattle.std.proofs.Common.{◌≡◌, ◌≤◌, ◌+◌, ◌==◌, length, ◌++◌, [], ◌∷◌, ◌∙◌, ap, arith}
use Rattle.std.specs.Prelude.{None}
use Rattle.std.specs.Map.{lookup}
use Rattle.std.proofs.lemmas.List.{length_push}
use Rattle.wl_number_map.proofs.Put.{put_pushed}
use Rattle.wl_number_map.proofs.First.{distinct_pushed}
use Rattle.wl_number_map.proofs.few.Few.push.Given.{Over}
use Rattle.wl_number_map.proofs.few.Few.push.Goals as goal

after : (g : Over) (c : goal.In_ok-push g) → c.push.new.self.items
    ≡ c.self.inside.rows.items ++ (c.args.number, c.args.value) ∷ []
after g c = c.in_ok-push.ensures.items ∙ ap (λ l. l ++ (c.args.number, c.args.value) ∷ []) c.make_room.ensures

pub invariant_of-self-2 : goal.invariant_of-self-2
invariant_of-self-2 g c =
    let es = c.self.inside.rows.items in
    let absent : lookup (λ k. c.args.number == k) es ≡ None = rw (c.self.view_is) c.requires.absent in
    let room : length es + 1 ≤ 4 = rw (c.self.view_is) c.requires.room in
    let size = length_push es (c.args.number, c.args.value) in
    rw (after g c) (distinct_pushed es c.args.number c.args.value c.self.invariant.0 absent, omega (arith, size, room))

pub returns-clause-updates : goal.returns-clause-updates
returns-clause-updates g c =
    let es = c.self.inside.rows.items in
    let absent : lookup (λ k. c.args.number == k) es ≡ None = rw (c.self.view_is) c.requires.absent in
    rw (after g c, ← c.self.view_is) (put_pushed c.args.number c.args.value es absent)
