use Rattle.std.proofs.Common.{◌≡◌, ◌∙◌, ◌∷◌, ◌++◌, ◌<◌, ◌^◌, [], ap, arith, string_bytes, subst, sym}
use Rattle.std.specs.Fmt.{decimal}
use Rattle.std.proofs.lemmas.Fmt.{decimal_is_IsNumeral}
use Rattle.wl_daemon.specs.Epochs.{Writes, without_lf}
use Rattle.wl_daemon.proofs.Epochs.{has_lf}
use Rattle.wl_daemon.proofs.epoch.text_of.Goals as goal

pub returns : goal.returns
returns c fits =
    let text : string_bytes c.push.new.self ≡ decimal c.args.epoch ++ 10 ∷ [] =
    c.in_ok-push.ensures.bytes
    ∙ ap (λ end. string_bytes c.in_ok-text.text ++ end) (c.in_ok-push.ensures.ascii (omega arith))
    ∙ ap (λ digits. digits ++ 10 ∷ []) c.in_ok-text.ensures.ok in
    let small : c.args.epoch < 2 ^ 64 = omega (arith, fits) in
    let digits = decimal_is_IsNumeral c.args.epoch small in
    subst (λ kept. Writes kept c.args.epoch) (sym (ap without_lf text ∙ has_lf (decimal c.args.epoch)))
    (digits.0, digits.1, fits)
