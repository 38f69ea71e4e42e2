use Rattle.std.proofs.Common.{◌≡◌, ℕ, List, ap, ◌∙◌, subst, map, filter, IfOk}
use Rattle.wl_machine.specs.declared.rows.HeldRow.{HeldRow}
use Rattle.wl_index.specs.declared.request.Place.{Place}
use Rattle.wl_index.specs.inner.GrantOrder.{by_grant_seq}
use Rattle.wl_index.specs.inner.Rows.{held_of, holding}
use Rattle.wl_index.proofs.Places.{places_distinct, numbers_in_order}
use Rattle.wl_index.proofs.requests.Requests.locks_in_order.Goals as goal

pub sort-requires : goal.sort-requires
sort-requires c = rw c.in_ok-places.ensures (places_distinct c.self.inside.requests.entries c.self.invariant.distinct)

pub returns-clause-numbers : goal.returns-clause-numbers
returns-clause-numbers c =
    let es = c.self.inside.requests.entries in
    let sorted : c.deref.result.now ≡ by_grant_seq (λ (p : Place). p.grant_seq) c.in_ok-places.places.items =
    c.deref.ensures.value ∙ c.sort.ensures.items in
    let numbers : map (λ (p : Place). p.number) c.deref.result.now
    ≡ map (λ (lock : HeldRow). lock.number) (held_of es) =
    ap (map (λ (p : Place). p.number)) (sorted ∙ ap (by_grant_seq (λ (p : Place). p.grant_seq)) c.in_ok-places.ensures)
    ∙ numbers_in_order (filter holding es) in
    rw (← c.self.view_is) (subst (λ (l : List ℕ). IfOk c.numbers.result (λ ns. ns.items ≡ l)) numbers c.numbers.ensures)
