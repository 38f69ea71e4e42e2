use Rattle.std.proofs.Common.{rules, ◌≡◌, ◌-◌, ◌∙◌, arith, ap, sym, subst, leb, length, take, drop}
use Rattle.std.specs.List.Sorted.{IsStrictlySortedBy}
use Rattle.std.specs.Map.{keys_of}
use Rattle.std.specs.Ordering.{nat_cmp}
use Rattle.wl_index.specs.inner.Rows.{Rows}
use Rattle.std.specs.List.{find}
use Rattle.std.proofs.lemmas.List.{take_all, length-drop}
use Rattle.std.proofs.lemmas.List.Sorted.{IsPartitionPoint-from_clause, IsPartitionedBy-leb}
use Rattle.std.proofs.lemmas.Map.Keys.{non_decreasing_from_sorted}
use Rattle.wl_machine.specs.Least.{IsLeast, above}
use Rattle.wl_index.specs.inner.Untaken.{finds_untaken}
use Rattle.wl_index.proofs.Above.{least_behind, untaken}
use Rattle.wl_index.proofs.requests.Requests.least_untaken.Goals as goal

pub returns : goal.returns
returns c =
    let es = c.args.self.now.entries in
    let ns = c.args.numbers.now in
    let behind = c.partition_point-behind.result in
    let parted = IsPartitionedBy-leb (λ n. n) ns c.args.after
    (λ i j d. non_decreasing_from_sorted ns c.requires.0 i j d) in
    let point = IsPartitionPoint-from_clause (λ n. leb n c.args.after) ns behind
    c.partition_point-behind.ensures.partitioned parted (λ a r q k. search rules) in
    let least = least_behind c.args.owner c.args.after es ns behind
    (subst (λ (v : Rows). IsStrictlySortedBy nat_cmp (keys_of v.entries)) c.self.view_is c.self.invariant.ordered)
    c.requires.0 c.requires.1 point in
    let len = length-drop behind ns in
    let rest : take (length ns - behind) (drop behind ns) ≡ drop behind ns =
    take_all (length ns - behind) (drop behind ns) (omega (arith, len)) in
    subst (IsLeast (above c.args.after (untaken c.args.owner es)))
    (sym (c.first_listed.ensures ∙ ap (find (finds_untaken c.args.owner es)) rest)) least
