use Rattle.std.proofs.Common.{subst, nat_cmp}
use Rattle.std.specs.List.Sorted.{IsStrictlySortedBy}
use Rattle.std.specs.Map.{keys_of}
use Rattle.wl_index.proofs.Rows.{removed}
use Rattle.wl_index.proofs.Tables.{ended_table}
use Rattle.wl_index.proofs.requests.Requests.remove.Goals as goal

pub invariant_of-self : goal.invariant_of-self
invariant_of-self c =
    let i = c.self.inside in
    let es = i.requests.entries in
    rw c.remove.ensures.entries (ended_table c.args.number es i.grant_seq i.next c.self.invariant
    (subst (λ es. IsStrictlySortedBy nat_cmp (keys_of es)) c.remove.ensures.entries c.remove.ensures.ordered))

pub returns-clause-entries : goal.returns-clause-entries
returns-clause-entries c =
    let i = c.self.inside in
    rw (← c.self.view_is, c.remove.ensures.entries) (removed c.args.number i.requests.entries c.self.invariant.ordered)

pub returns-clause-ordered : goal.returns-clause-ordered
returns-clause-ordered c = rw (← c.self.view_is) c.self.invariant.ordered
