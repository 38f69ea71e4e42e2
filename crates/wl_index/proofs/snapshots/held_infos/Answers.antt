use Rattle.std.proofs.Common.{◌∙◌, ◌++◌, ap, append-nil, subst, sym}
use Rattle.std.specs.List.{AllByRecursion}
use Rattle.std.proofs.lemmas.List.{nil_from_length}
use Rattle.wl_index.proofs.Views.{Stands, found_at, info, locks_stand, locks_shown}
use Rattle.wl_index.proofs.snapshots.held_infos.Goals as goal

pub loop-number-init : goal.loop-number-init
loop-number-init c =
    let es = c.args.requests.now.entries in
    let all = c.into_iter-number-iterator.ensures.into_iter_gives.0 in
    record {
      stand = subst (AllByRecursion (Stands es)) (sym (all ∙ c.requires.locks)) (locks_stand es c.requires.ordered);
      shown = ap (λ infos. infos ++ found_at info es c.into_iter-number-iterator.result.rest.items) c.new-infos.ensures
          ∙ ap (found_at info es) all;
    }

pub returns : goal.returns
returns c =
    let es = c.args.requests.now.entries in
    let rest = c.loop-number.number-iterator.rest in
    let empty = nil_from_length rest.items (sym rest.ok.0 ∙ c.in-None.ensures.steps.0) in
    sym (append-nil c.loop-number.infos) ∙ ap (λ numbers. c.loop-number.infos ++ found_at info es numbers) (sym empty)
    ∙ c.loop-number.invariant.shown
    ∙ ap (found_at info es) c.requires.locks ∙ locks_shown es c.requires.ordered
