use Rattle.std.proofs.Common.{◌≡◌, ◌∙◌, ℕ, Bool, filter, sym, ap, subst, Some}
use Rattle.std.specs.Option.{is_some, option_copied_mut}
use Rattle.std.specs.List.Sorted.{IsStrictlySortedBy}
use Rattle.std.specs.Ordering.{nat_cmp}
use Rattle.wl_machine.proofs.Covers.{Contains-filter, rising_filter}
use Rattle.wl_index.specs.inner.Lists.{KeepsLive, at, list_at, numbers_on, only_live}
use Rattle.wl_index.proofs.Grouping.{one_list}
use Rattle.wl_index.proofs.Registers.{written_here}
use Rattle.wl_index.proofs.agent.clean_list.Goals.{After-shrink_to_fit}
use Rattle.wl_index.proofs.agent.clean_list.Goals as goal

-- the lists, of which one was cleaned
cleaned : (c : After-shrink_to_fit) → let list = c.shrink_to_fit.new.self in
    ((q : ℕ) → IsStrictlySortedBy nat_cmp (list_at q (c.get_mut.follows.lender list).entries))
    × ((q : ℕ) → KeepsLive c.args.live.now.entries (list_at q c.args.signals.now.entries)
    (list_at q (c.get_mut.follows.lender list).entries))
cleaned c =
    let list = c.shrink_to_fit.new.self in
    let live : ℕ → Bool = λ n. is_some (at n c.args.live.now.entries) in
    let there : at c.args.signal c.args.signals.now.entries ≡ Some c.in-Some.list.now = sym c.get_mut.ensures.value
    ∙ ap option_copied_mut c.in-Some.is in
    let left : list.items ≡ filter live c.in-Some.list.now.items = c.shrink_to_fit.ensures.items ∙ c.retain_live.ensures
    in
    one_list c.args.live.now.entries c.args.signal _ list _ _ there
    ((c.get_mut.follows.holds list).3 (ap is_some there)).0
    (rw left (rising_filter live c.in-Some.list.now.items (subst (λ o. IsStrictlySortedBy nat_cmp (numbers_on o)) there
    (c.requires c.args.signal))))
    (λ n is has. rw left (Contains-filter live c.in-Some.list.now.items n is has)) c.requires

pub returns-in-Some-clause-rising : goal.returns-in-Some-clause-rising
returns-in-Some-clause-rising c = (cleaned (goal.at.returns-in-Some-clause-rising c).After-shrink_to_fit).0

pub returns-in-Some-clause-kept : goal.returns-in-Some-clause-kept
returns-in-Some-clause-kept c = (cleaned (goal.at.returns-in-Some-clause-kept c).After-shrink_to_fit).1

pub returns-in-Some-clause-cleaned : goal.returns-in-Some-clause-cleaned
returns-in-Some-clause-cleaned c =
    let list = c.shrink_to_fit.new.self in
    let there : at c.args.signal c.args.signals.now.entries ≡ Some c.in-Some.list.now = sym c.get_mut.ensures.value
    ∙ ap option_copied_mut c.in-Some.is in
    let here = written_here c.args.signal list c.args.signals.now.entries _
    ((c.get_mut.follows.holds list).3 (ap is_some there)).0 in
    ap numbers_on here ∙ c.shrink_to_fit.ensures.items ∙ c.retain_live.ensures
    ∙ sym (ap (λ o. only_live c.args.live.now.entries (numbers_on o)) there)
