use Rattle.std.proofs.Common.{◌≡◌, ◌∙◌, ◌+◌, ◌++◌, ◌∷◌, [], ap, arith, drop, get_or, List, ℕ, Option, Some, None, refl}
use Rattle.std.proofs.Common.{sym, subst}
use Rattle.std.specs.List.Sorted.{IsStrictlySortedBy}
use Rattle.std.specs.Map.{keys_of}
use Rattle.std.specs.Ordering.{nat_cmp}
use Rattle.wl_index.specs.inner.Rows.{Rows}
use Rattle.std.specs.Option.{option_to_list}
use Rattle.std.proofs.lemmas.List.{drop_all}
use Rattle.wl_index.specs.declared.request.Standing.TheVariants.{Holds}
use Rattle.wl_index.specs.declared.request.Place.{Place}
use Rattle.wl_index.specs.inner.Ends.{ends_entry}
use Rattle.wl_index.specs.inner.Order.{from_grant_seq, first_of}
use Rattle.wl_index.proofs.Picks.{picked}
use Rattle.wl_index.proofs.Turns.{rest_next}
use Rattle.wl_index.proofs.Untaken.{all_offered, offered}
use Rattle.wl_index.proofs.requests.Requests.first_untaken.Goals as goal

pub loop-number-init : goal.loop-number-init
loop-number-init c = ap first_of (all_offered c.args.low c.args.owner c.args.self.now.entries c.args.numbers.now
    (subst (λ (v : Rows). IsStrictlySortedBy nat_cmp (keys_of v.entries)) c.self.view_is c.self.invariant.ordered)
    c.requires.0 c.requires.1)

pub loop-number-preserved : goal.loop-number-preserved
loop-number-preserved c =
    let l = c.loop-number in
    let ns = c.args.numbers.now in
    let n : ℕ = get_or ns l.number-index 0 in
    let rest : List ℕ = drop (l.number-index + 1) ns in
    let next : drop l.number-index ns ≡ n ∷ rest = rest_next ns l.number-index 0 c.loop-number-test.true in
    let offer = c.earlier-first.ensures ∙ ap (λ o. first_of
    (option_to_list l.first ++ from_grant_seq c.args.low (option_to_list o))) c.ending_place.ensures in
    offered c.args.low c.args.owner l.first c.earlier-first.result n (drop l.number-index ns) rest
    c.args.self.now.entries next offer l.invariant

-- the only place is the first
alone : (o : Option Place) → o ≡ first_of (option_to_list o ++ [])
alone None = refl
alone (Some p) = refl

pub returns : goal.returns
returns c =
    let l = c.loop-number in
    let none : drop l.number-index c.args.numbers.now ≡ [] = drop_all l.number-index c.args.numbers.now (omega arith) in
    alone l.first ∙ ap (λ (k : List ℕ). first_of (option_to_list l.first
    ++ from_grant_seq c.args.low (picked (ends_entry c.args.owner Holds) c.args.self.now.entries k))) (sym none)
    ∙ l.invariant
