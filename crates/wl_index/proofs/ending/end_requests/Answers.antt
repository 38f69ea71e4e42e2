use Rattle.std.proofs.Common.{◌≡◌, ◌∙◌, ap, filter, map}
use Rattle.wl_index.specs.inner.Ends.{ends_entry}
use Rattle.wl_index.specs.inner.Order.{place_of}
use Rattle.wl_index.specs.inner.Rows.{Rows}
use Rattle.wl_index.specs.declared.request.Standing.TheVariants.{Waits}
use Rattle.wl_index.proofs.Boards.{ended_as}
use Rattle.wl_index.proofs.Owned.{requests_gone, requests_live, requests_told}
use Rattle.wl_index.proofs.ending.end_requests.Goals.{After-deref}
use Rattle.wl_index.proofs.ending.end_requests.Goals as goal

-- the places of what ends
places : (c : After-deref) → c.deref.result.now ≡ map place_of
    (filter (ends_entry c.args.ending.owner Waits) c.args.locks.now.entries)
places c = c.deref.ensures.value ∙ c.gather.ensures.items ∙ ap (λ (r : Rows). map place_of
    (filter (ends_entry c.args.ending.owner Waits) r.entries)) c.requests.ensures.entries

pub end_all-requires : goal.end_all-requires
end_all-requires c = let at = (goal.at.end_all-requires c).After-deref
    in rw (places at) (requests_live c.args.ending.owner c.args.locks.now.entries c.requests.ensures.ordered)

pub returns-clause-ended : goal.returns-clause-ended
returns-clause-ended c =
    let at = (goal.at.returns-clause-ended c).After-deref in
    let es = c.args.locks.now.entries in
    ended_as _ _ _ _ _ _ _ c.end_all.ensures (places at) (requests_gone c.args.ending.owner es
    c.requests.ensures.ordered) (requests_told c.args.ending.owner es _)
