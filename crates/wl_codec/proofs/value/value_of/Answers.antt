use Rattle.std.proofs.Common.{◌≡◌, Bool, true, false, cond, Some, None, option_map, sym, ap, ◌∙◌}
use Rattle.json.specs.Value.{value_view}
use Rattle.wl_codec.specs.inner.Seen.{data_of, fits}
use Rattle.wl_codec.specs.Value.{json_value}
use Rattle.wl_codec.proofs.Bytes.{tree, json_value-tree, json_value-refused}
use Rattle.wl_codec.proofs.value.value_of.Goals.{After-numbers_fit}
use Rattle.wl_codec.proofs.value.value_of.Goals as goal

pub returns-in_default : goal.returns-in_default
returns-in_default c = sym (json_value-refused c.args.bytes.now c.in_default.ensures.cases.0)

-- a tree was read, and stands where its numbers fit
read : (c : After-numbers_fit) → json_value c.args.bytes.now
    ≡ cond (fits (value_view c.in-Some.value)) (Some (data_of (value_view c.in-Some.value))) None
read c =
    let text = c.in-Ok.ensures.cases in
    json_value-tree c.args.bytes.now (Some (value_view c.in-Some.value)) text.1
    (ap (option_map value_view) (sym c.in-Some.is) ∙ c.in_ok-value.ensures ∙ ap tree text.0)

pub returns-then-numbers_fit : goal.returns-then-numbers_fit
returns-then-numbers_fit c =
    let j = value_view c.in-Some.value in
    let fit : fits j ≡ true = sym c.numbers_fit.ensures ∙ c.if-numbers_fit.true in
    sym (read (goal.at.returns-then-numbers_fit c).After-numbers_fit
    ∙ ap (λ (b : Bool). cond b (Some (data_of j)) None) fit)

pub returns-in-Some : goal.returns-in-Some
returns-in-Some c =
    let j = value_view c.in-Some.value in
    let unfit : fits j ≡ false = sym c.numbers_fit.ensures ∙ c.if-numbers_fit.false in
    sym (read (goal.at.returns-in-Some c).After-numbers_fit ∙ ap (λ (b : Bool). cond b (Some (data_of j)) None) unfit)

pub returns : goal.returns
returns c =
    let text = c.in-Ok.ensures.cases in
    sym (json_value-tree c.args.bytes.now None text.1 (ap (option_map value_view) (sym c.in-None.is)
    ∙ c.in_ok-value.ensures ∙ ap tree text.0))
