use Rattle.std.proofs.Common.{subst, nat_cmp, rules}
use Rattle.std.specs.List.Sorted.{IsStrictlySortedBy}
use Rattle.std.specs.Map.{keys_of}
use Rattle.wl_number_map.proofs.Keyed.{entry_last}
use Rattle.wl_index.proofs.Tables.{more_table}
use Rattle.wl_index.proofs.requests.Requests.push.Goals as goal

pub invariant_of-self-2 : goal.invariant_of-self-2
invariant_of-self-2 c =
    let i = c.self.inside in
    rw c.in_ok-insert.ensures.entries (more_table i.requests.entries i.grant_seq i.next c.args.request c.requires.waits
    (search rules) c.self.invariant (subst (λ es. IsStrictlySortedBy nat_cmp (keys_of es))
    c.in_ok-insert.ensures.entries c.in_ok-insert.ensures.ordered))

pub returns-clause-entries : goal.returns-clause-entries
returns-clause-entries c =
    let i = c.self.inside in
    rw (← c.self.view_is, c.in_ok-insert.ensures.entries) (entry_last i.requests.entries i.next c.args.request
    c.self.invariant.below)

pub returns-clause-below : goal.returns-clause-below
returns-clause-below c = rw (← c.self.view_is) c.self.invariant.below

pub returns-in_err-insert-clause-below : goal.returns-in_err-insert-clause-below
returns-in_err-insert-clause-below c = rw (← c.self.view_is) c.self.invariant.below
