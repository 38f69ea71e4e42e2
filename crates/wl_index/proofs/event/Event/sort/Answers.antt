use Rattle.std.proofs.Common.{◌∙◌, sym}
use Rattle.std.proofs.lemmas.List.Sorted.{IsPermutation-reverse, list_any-IsPermutation}
use Rattle.std.specs.Prelude.{reverse}
use Rattle.wl_index.proofs.event.Event.sort.Goals as goal

pub returns-clause-same : goal.returns-clause-same
returns-clause-same c test =
    let old = c.self.inside.touched.items in
    let sorted = c.sort_unstable.new.self.items in
    let turned = c.reverse.new.self.items in
    rw (← c.self.view_is) (
    sym (list_any-IsPermutation test turned (reverse turned) (IsPermutation-reverse turned))
    ∙ sym (list_any-IsPermutation test sorted turned c.reverse.ensures.permutation)
    ∙ sym (list_any-IsPermutation test old sorted c.sort_unstable.ensures.permutation)
    ∙ list_any-IsPermutation test old (reverse old) (IsPermutation-reverse old))
