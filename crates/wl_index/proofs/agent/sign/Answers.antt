use Rattle.std.proofs.Common.{◌≡◌, ◌∙◌, sym, ap, subst, Some}
use Rattle.std.specs.Option.{is_some, option_copied_mut}
use Rattle.std.specs.List.Sorted.{IsStrictlySortedBy}
use Rattle.std.specs.Ordering.{nat_cmp}
use Rattle.wl_index.specs.inner.Lists.{at, numbers_on}
use Rattle.wl_index.proofs.Grouping.{one_list}
use Rattle.wl_index.proofs.Registers.{lent_some}
use Rattle.wl_index.proofs.agent.sign.Goals.{After-unwrap-list}
use Rattle.wl_index.proofs.agent.sign.Goals as goal

pub unwrap-list-requires : goal.unwrap-list-requires
unwrap-list-requires c = lent_some c.get_mut.result _ c.get_mut.ensures.value c.requires.there

there : (c : After-unwrap-list) → at c.args.signal c.args.signals.now.entries ≡ Some c.unwrap-list.result.now
there c = sym c.get_mut.ensures.value ∙ ap option_copied_mut c.unwrap-list.ensures

pub enlist-requires-clause-rising : goal.enlist-requires-clause-rising
enlist-requires-clause-rising c = subst (λ o. IsStrictlySortedBy nat_cmp (numbers_on o))
    (there (goal.at.enlist-requires-clause-rising c).After-unwrap-list) (c.requires.rising c.args.signal)

pub returns-clause-rising : goal.returns-clause-rising
returns-clause-rising c =
    let at = there (goal.at.returns-clause-rising c).After-unwrap-list in
    let list = c.enlist.new.list in
    (one_list c.args.live.now.entries c.args.signal _ list _ _ at ((c.get_mut.follows.holds list).3 (ap is_some at)).0
    c.enlist.ensures.rising c.enlist.ensures.kept c.requires.rising).0

pub returns-clause-kept : goal.returns-clause-kept
returns-clause-kept c =
    let at = there (goal.at.returns-clause-kept c).After-unwrap-list in
    let list = c.enlist.new.list in
    (one_list c.args.live.now.entries c.args.signal _ list _ _ at ((c.get_mut.follows.holds list).3 (ap is_some at)).0
    c.enlist.ensures.rising c.enlist.ensures.kept c.requires.rising).1
