use Rattle.std.proofs.Common.{is_some}
use Rattle.wl_machine.proofs.Covers.{Contains-filter, rising_filter}
use Rattle.wl_index.specs.inner.Lists.{at}
use Rattle.wl_index.proofs.listing.make_room.Goals as goal

pub returns-in_err-reserve-clause-rising : goal.returns-in_err-reserve-clause-rising
returns-in_err-reserve-clause-rising c = rw (c.reserve.ensures.items, c.retain_live.ensures)
    (rising_filter (λ n. is_some (at n c.args.live.now.entries)) c.args.list.now.items c.requires)

pub returns-in_err-reserve-clause-kept : goal.returns-in_err-reserve-clause-kept
returns-in_err-reserve-clause-kept c n live has = rw (c.reserve.ensures.items, c.retain_live.ensures)
    (Contains-filter (λ n. is_some (at n c.args.live.now.entries)) c.args.list.now.items n live has)

pub returns-in_ok-reserve-clause-rising : goal.returns-in_ok-reserve-clause-rising
returns-in_ok-reserve-clause-rising c = rw (c.reserve.ensures.items, c.retain_live.ensures)
    (rising_filter (λ n. is_some (at n c.args.live.now.entries)) c.args.list.now.items c.requires)

pub returns-in_ok-reserve-clause-kept : goal.returns-in_ok-reserve-clause-kept
returns-in_ok-reserve-clause-kept c n live has = rw (c.reserve.ensures.items, c.retain_live.ensures)
    (Contains-filter (λ n. is_some (at n c.args.live.now.entries)) c.args.list.now.items n live has)

pub returns-else-len-capacity-2-clause-rising : goal.returns-else-len-capacity-2-clause-rising
returns-else-len-capacity-2-clause-rising c = rw c.retain_live.ensures
    (rising_filter (λ n. is_some (at n c.args.live.now.entries)) c.args.list.now.items c.requires)

pub returns-else-len-capacity-2-clause-kept : goal.returns-else-len-capacity-2-clause-kept
returns-else-len-capacity-2-clause-kept c n live has = rw c.retain_live.ensures
    (Contains-filter (λ n. is_some (at n c.args.live.now.entries)) c.args.list.now.items n live has)
