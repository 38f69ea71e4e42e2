use Rattle.std.proofs.Common.{ap, ◌++◌, ◌∙◌}
use Rattle.std.specs.Prelude.{string_bytes}
use Rattle.std.proofs.lemmas.Result.{on_ok_weaker}
use Rattle.wl_admission.proofs.Components.{encoded_is_component}
use Rattle.wl_admission.proofs.targets.push_component.Goals as goal

pub returns : goal.returns
returns c =
    let is = c.utf8_percent_encode.ensures.text ∙ encoded_is_component c.args.text.now in
    on_ok_weaker c.append_to.result (λ added. added ∙ ap (λ spelled. string_bytes c.args.target.now ++ spelled) is)
    c.append_to.ensures.ok
