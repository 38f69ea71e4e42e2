use Rattle.std.proofs.Common.{rules, ap, ◌∙◌}
use Rattle.std.proofs.lemmas.List.Elements.{All-push}
use Rattle.wl_session.specs.LastReported.{Fits}
use Rattle.wl_server.proofs.Observed.{at_first, passed, observed_more, taken_more}
use Rattle.std.specs.BTreeMap.IterMut.{iter_mut_rest}
use Rattle.wl_server.proofs.requests.Requests.observe_all.Goals as goal

pub loop-number-init : goal.loop-number-init
loop-number-init c =
    let is = ap (λ i. iter_mut_rest i) c.into_iter-number-iterator.ensures.into_iter_gives
    ∙ c.iter_mut-number-items.ensures.rest in
    record {
      can_next = search rules;
      is_finite = search rules;
      by_number = search rules;
      to_come = rw (c.new-observed.ensures.items, is) (at_first c.args.self.now.by_number.entries
          c.iter_mut-number-items.ensures.ordered);
      fit = search rules;
      taken = search rules;
    }

pub loop-number-preserved : goal.loop-number-preserved
loop-number-preserved c = record {
  can_next = search rules;
  is_finite = search rules;
  by_number = search rules;
  to_come = passed _ (c.in-Some.number.now, c.in-Some.request.now) _
      (rw c.in-Some.ensures.steps at c.loop-number.invariant.to_come);
  fit = search rules;
  taken = search rules;
}

pub loop-number-preserved-in-Continue-1 : goal.loop-number-preserved-in-Continue-1
loop-number-preserved-in-Continue-1 c =
    let phase = c.in-Some-change.phase in
    let items = c.in_ok-push.ensures.items in
    let both = observed_more _ phase (c.in-Some.number.now, c.in-Some.request.now) _ c.loop-number.invariant.by_number
    (rw c.in-Some.ensures.steps at c.loop-number.invariant.to_come) in
    record {
      can_next = search rules;
      is_finite = search rules;
      by_number = rw items both.0;
      to_come = rw items both.1;
      fit = rw items (All-push (Fits c.args.outcome.now c.args.session.now.last_reported) c.loop-number.observed.items
          (c.in-Some.number.now, phase) c.loop-number.invariant.fit c.in-Some-change.ensures.0);
      taken = rw items (taken_more c.loop-number.observed.items c.in-Some.number.now phase c.loop-number.invariant.taken
          c.in-Some-change.ensures.1);
    }
