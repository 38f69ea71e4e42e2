use Rattle.std.proofs.Common.{◌≡◌, [], ℕ, Bor, List, Option, map, unwrap_or, arith, sym, ap, ◌∙◌}
use Rattle.std.proofs.lemmas.Grind.{common_steps}
use Rattle.std.specs.Prelude.{option_map}
use Rattle.clap.specs.Words.{found_of}
use Rattle.clap.proofs.WalkLemmas.{raw_values-rows}
use Rattle.wl_cli.proofs.arguments.texts_in.Goals as goal
use Rattle.wl_cli.proofs.arguments.texts_in.Goals.{in-Some+else-is_err, in_default}

pub returns-clause-ok : goal.returns-clause-ok
returns-clause-ok c =
    let given = λ (found : Option (Bor (List (Bor (List ℕ))))). unwrap_or
    (option_map (λ s. map (λ v. v.now) s.now) found) [] in
    let texts = ap (λ found. unwrap_or found []) (c.get_strs.ensures
    ∙ raw_values-rows (found_of c.args.options.now) c.args.name.now) in
    elim c.match-get_strs.branch [
      | in-Some+else-is_err w ↦
          let copied : c.match-get_strs.texts.items ≡ w.in-Some.given.now = grind (arith, common_steps) in
          ap (map (λ text. text.now)) copied ∙ sym (ap given w.in-Some.is) ∙ texts
      | in_default w ↦
          let none : c.match-get_strs.texts.items ≡ [] = ap (λ texts. texts.items) w.texts-is
          ∙ c.new-texts.ensures.items in
          ap (map (λ text. text.now)) none ∙ sym (ap given w.in_default.is) ∙ texts
    ]
