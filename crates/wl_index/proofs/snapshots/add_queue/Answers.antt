use Rattle.std.proofs.Common.{◌∙◌, ◌++◌, ap, append-nil, subst, sym}
use Rattle.std.specs.List.{AllByRecursion}
use Rattle.std.specs.Map.{keys_of}
use Rattle.wl_index.proofs.Views.{Stands, found_at, info, queue_stands, queue_shown}
use Rattle.wl_index.proofs.snapshots.add_queue.Goals as goal

pub loop-number-init : goal.loop-number-init
loop-number-init c =
    let es = c.args.requests.now.entries in
    let all = c.into_iter-number-iterator.ensures.into_iter_gives ∙ c.waiters-number-items.ensures in
    record {
      stand = subst (AllByRecursion (Stands es)) (sym (ap keys_of (all ∙ c.requires.matched.waits)))
          (queue_stands c.args.name_queue.now.name es c.requires.ordered);
      shown = ap (λ waits. c.args.infos.now ++ found_at info es (keys_of waits)) all;
    }

pub returns : goal.returns
returns c =
    let es = c.args.requests.now.entries in
    let empty = c.in-None.ensures.steps.0 in
    sym (append-nil c.loop-number.infos) ∙ ap (λ waits. c.loop-number.infos ++ found_at info es (keys_of waits))
    (sym empty) ∙ c.loop-number.invariant.shown
    ∙ ap (λ shown. c.args.infos.now ++ shown) (ap (λ waits. found_at info es (keys_of waits)) c.requires.matched.waits
    ∙ queue_shown c.args.name_queue.now.name es c.requires.ordered)
