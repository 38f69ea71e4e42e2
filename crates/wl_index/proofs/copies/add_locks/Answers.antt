use Rattle.std.proofs.Common.{◌∙◌, ◌++◌, ap, append-nil, subst, sym}
use Rattle.std.proofs.lemmas.List.{nil_from_length}
use Rattle.std.specs.List.{AllByRecursion}
use Rattle.wl_index.specs.inner.Rows.{lock_row}
use Rattle.wl_index.proofs.Views.{Stands, found_at, locks_stand, locks_copied}
use Rattle.wl_index.proofs.copies.add_locks.Goals as goal

pub loop-number-init : goal.loop-number-init
loop-number-init c =
    let es = c.args.requests.now.entries in
    let all = c.into_iter-number-iterator.ensures.into_iter_gives.0 in
    record {
      stand = subst (AllByRecursion (Stands es)) (sym (all ∙ c.requires.locks)) (locks_stand es c.requires.ordered);
      added = ap (λ numbers. record c.args.draft.now { held = c.args.draft.now.held ++ found_at lock_row es numbers })
          all;
    }

pub returns : goal.returns
returns c =
    let es = c.args.requests.now.entries in
    let rest = c.loop-number.number-iterator.rest in
    let empty = nil_from_length rest.items (sym rest.ok.0 ∙ c.in-None.ensures.steps.0) in
    let none = ap (λ numbers. c.loop-number.draft.held ++ found_at lock_row es numbers) empty
    ∙ append-nil c.loop-number.draft.held in
    sym (ap (λ held. record c.loop-number.draft { held = held }) none) ∙ c.loop-number.invariant.added
    ∙ ap (λ held. record c.args.draft.now { held = c.args.draft.now.held ++ held })
    (ap (found_at lock_row es) c.requires.locks ∙ locks_copied es c.requires.ordered)
