use Rattle.std.proofs.Common.{◌≡◌, ◌∙◌, ap, filter, map}
use Rattle.wl_index.specs.declared.request.Place.{Place}
use Rattle.wl_index.specs.inner.Ends.{ends_entry}
use Rattle.wl_index.specs.inner.Order.{place_of}
use Rattle.wl_index.specs.inner.Rows.{Rows}
use Rattle.wl_index.specs.inner.GrantOrder.{by_grant_seq}
use Rattle.wl_index.specs.declared.request.Standing.TheVariants.{Holds}
use Rattle.wl_index.proofs.Boards.{ended_as}
use Rattle.wl_index.proofs.Owned.{locks_distinct, locks_gone, locks_live, locks_told}
use Rattle.wl_index.proofs.ending.end_locks.Goals.{After-deref}
use Rattle.wl_index.proofs.ending.end_locks.Goals as goal

pub sort-requires : goal.sort-requires
sort-requires c = rw c.gather.ensures.items (locks_distinct c.args.ending.owner c.requests.result.now.entries
    c.gather.ensures.distinct)

-- the places of what ends
places : (c : After-deref) → c.deref.result.now ≡ by_grant_seq (λ (p : Place). p.grant_seq)
    (map place_of (filter (ends_entry c.args.ending.owner Holds) c.args.locks.now.entries))
places c = c.deref.ensures.value ∙ c.sort.ensures.items ∙ ap (by_grant_seq (λ (p : Place). p.grant_seq))
    (c.gather.ensures.items ∙ ap (λ (r : Rows). map place_of (filter (ends_entry c.args.ending.owner Holds) r.entries))
    c.requests.ensures.entries)

pub end_all-requires : goal.end_all-requires
end_all-requires c = let at = (goal.at.end_all-requires c).After-deref
    in rw (places at) (locks_live c.args.ending.owner c.args.locks.now.entries c.requests.ensures.ordered)

pub returns-clause-ended : goal.returns-clause-ended
returns-clause-ended c =
    let at = (goal.at.returns-clause-ended c).After-deref in
    let es = c.args.locks.now.entries in
    ended_as _ _ _ _ _ _ _ c.end_all.ensures (places at) (locks_gone c.args.ending.owner es c.requests.ensures.ordered)
    (locks_told c.args.ending.owner es _)
