use Rattle.std.proofs.Common.{◌≢◌, ◌++◌, List, ℕ, None, subst}
use Rattle.std.proofs.lemmas.Bool.Decides.{Decides-eqb}
use Rattle.std.proofs.lemmas.Slice.Eq.{strip_prefix_is}
use Rattle.wl_admission.proofs.Components.{none_without_prefix}
use Rattle.wl_admission.proofs.targets.origin_named.Goals as goal

pub returns-in_default : goal.returns-in_default
returns-in_default c =
    let cut = strip_prefix_is Decides-eqb c.as_bytes.result.now c.as_bytes-2.result.now None c.in_default.ensures.cases
    in
    let target = subst (λ bytes. (rest : List ℕ) → bytes ≢ c.as_bytes-2.result.now ++ rest) c.as_bytes.ensures.value cut
    in
    none_without_prefix c.args.target.now (subst (λ prefix. (rest : List ℕ) → c.args.target.now ≢ prefix ++ rest)
    c.as_bytes-2.ensures.value target) _
