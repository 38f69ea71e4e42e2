use Rattle.std.proofs.Common.{◌≡◌, ◌∙◌, ap, subst, nat_cmp, Some, refl, ◌+◌}
use Rattle.std.specs.List.Sorted.{IsStrictlySortedBy}
use Rattle.std.specs.Map.{keys_of, lookup}
use Rattle.std.specs.BTreeMap.{is_at}
use Rattle.wl_index.specs.inner.Rows.{Rows}
use Rattle.wl_index.proofs.Rows.{removed}
use Rattle.wl_index.proofs.Tables.{retracted}
use Rattle.wl_index.proofs.requests.Requests.retract.Goals as goal

pub invariant_of-self : goal.invariant_of-self
invariant_of-self c =
    let i = c.self.inside in
    let es = i.requests.entries in
    let w = c.requires.waits in
    let there : lookup (is_at (nat_cmp c.args.number)) es ≡ Some w.0 =
    ap (λ (v : Rows). lookup (is_at (nat_cmp c.args.number)) v.entries) c.self.view_is ∙ w.1 in
    let last : i.next ≡ c.args.number + 1 = ap (λ (v : Rows). v.next) c.self.view_is ∙ c.requires.last in
    let gone = c.remove.ensures.entries ∙ removed c.args.number es c.self.invariant.ordered in
    rw gone (retracted c.args.number w.0 es i.grant_seq i.next c.self.invariant there w.2 last
    (subst (λ es. IsStrictlySortedBy nat_cmp (keys_of es)) gone c.remove.ensures.ordered))

pub returns : goal.returns
returns c =
    let i = c.self.inside in
    rw (← c.self.view_is, c.remove.ensures.entries, removed c.args.number i.requests.entries c.self.invariant.ordered)
    refl
