use Rattle.std.proofs.Common.{◌≡◌, ◌∙◌, sym, ap, nat_cmp, true, Some, refl, rules}
use Rattle.std.specs.Option.{option_copied_mut}
use Rattle.std.specs.List.{list_any}
use Rattle.std.specs.Map.{lookup, set_value}
use Rattle.std.specs.BTreeMap.{is_at}
use Rattle.wl_index.specs.inner.Rows.{pending_of, tags_of}
use Rattle.wl_index.proofs.Rows.{is_request, pending_there, pending_apart, tags_set}
use Rattle.wl_index.proofs.Grants.{Granted, granted_now, granted_meets, copied_some}
use Rattle.wl_index.proofs.requests.Requests.grant.Goals.{After-unwrap-request}
use Rattle.wl_index.proofs.requests.Requests.grant.Goals as goal

pub unwrap-request-requires : goal.unwrap-request-requires
unwrap-request-requires c =
    let waits : list_any (is_request c.args.number) (pending_of c.self.inside.requests.entries) ≡ true = search rules in
    let there = pending_there c.args.number c.self.inside.requests.entries c.self.invariant.ordered waits in
    copied_some c.get_mut.result there.0 (c.get_mut.ensures.value ∙ there.1)

-- the request
there : (c : After-unwrap-request) → lookup (is_at (nat_cmp c.args.number)) c.self.inside.requests.entries
    ≡ Some c.unwrap-request.result.now
there c = sym c.get_mut.ensures.value ∙ ap option_copied_mut c.unwrap-request.ensures

-- the table with it as the last lock
written : (c : After-unwrap-request)
    → (c.get_mut.follows.lender (granted_now c.self.inside.grant_seq c.unwrap-request.result.now)).entries
    ≡ set_value (is_at (nat_cmp c.args.number)) c.self.inside.requests.entries
    (granted_now c.self.inside.grant_seq c.unwrap-request.result.now)
written c = (c.get_mut.follows.holds (granted_now c.self.inside.grant_seq c.unwrap-request.result.now)).0

granted : (c : After-unwrap-request) → Granted c.args.number c.self.inside.requests.entries c.unwrap-request.result.now
    c.self.inside.grant_seq c.self.inside.next
granted c =
    let waits : list_any (is_request c.args.number) (pending_of c.self.inside.requests.entries) ≡ true = search rules in
    granted_meets _ _ _ _ _ c.self.invariant (there c) waits

tags : (c : After-unwrap-request)
    → tags_of (set_value (is_at (nat_cmp c.args.number)) c.self.inside.requests.entries
    (granted_now c.self.inside.grant_seq c.unwrap-request.result.now)) ≡ tags_of c.self.inside.requests.entries
tags c = tags_set _ _ _ (granted_now c.self.inside.grant_seq c.unwrap-request.result.now) c.self.invariant.ordered
    (there c) refl

pub invariant_of-self : goal.invariant_of-self
invariant_of-self c =
    let at = (goal.at.invariant_of-self c).After-unwrap-request in
    rw (written at) (granted at).table

pub returns-clause-held : goal.returns-clause-held
returns-clause-held c =
    let at = (goal.at.returns-clause-held c).After-unwrap-request in
    rw (← c.self.view_is, written at) (granted at).held

pub returns-clause-pending : goal.returns-clause-pending
returns-clause-pending c =
    let at = (goal.at.returns-clause-pending c).After-unwrap-request in
    rw (← c.self.view_is, written at) (granted at).pending

pub returns-clause-apart : goal.returns-clause-apart
returns-clause-apart c = rw (← c.self.view_is) (pending_apart c.self.inside.requests.entries c.self.invariant.ordered)

pub returns-clause-tags : goal.returns-clause-tags
returns-clause-tags c =
    let at = (goal.at.returns-clause-tags c).After-unwrap-request in
    rw (← c.self.view_is, written at) (tags at)
