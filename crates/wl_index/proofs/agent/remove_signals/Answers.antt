use Rattle.std.proofs.Common.{◌∙◌, ap, sym, filter}
use Rattle.wl_index.specs.inner.Lists.{is_spared}
use Rattle.wl_number_map.proofs.Keyed.{removed_at}
use Rattle.wl_index.proofs.Spared.{spared_all, spared_next}
use Rattle.wl_index.proofs.agent.remove_signals.Goals as goal

pub loop-number-preserved : goal.loop-number-preserved
loop-number-preserved c =
    let l = c.loop-number in
    let n = c.in-Some.number.now in
    record {
      ordered = c.remove.ensures.ordered;
      spares = ap (filter (is_spared c.next.new.self)) (c.remove.ensures.entries
          ∙ removed_at n l.signals.entries l.invariant.ordered) ∙ spared_next n c.next.new.self l.signals.entries
          ∙ ap (λ ns. filter (is_spared ns) l.signals.entries) (sym c.in-Some.ensures.steps) ∙ l.invariant.spares;
    }

pub returns-clause-entries : goal.returns-clause-entries
returns-clause-entries c =
    let l = c.loop-number in
    sym (spared_all l.signals.entries) ∙ ap (λ ns. filter (is_spared ns) l.signals.entries)
    (sym c.in-None.ensures.steps.0) ∙ l.invariant.spares
