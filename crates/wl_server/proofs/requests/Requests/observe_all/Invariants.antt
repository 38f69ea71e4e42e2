use Rattle.std.proofs.Common.{◌≢◌, All}
use Rattle.wl_types.specs.declared.phases.Phase.TheVariants.{Granted}
use Rattle.wl_session.specs.LastReported.{Fits, IsByNumber}
use Rattle.wl_server.proofs.Observed.{AreToCome}
use Rattle.std.specs.BTreeMap.IterMut.{iter_mut_rest}
use Rattle.wl_server.proofs.requests.Requests.observe_all.Given as goal

abbrev pub invariant-loop-number : goal.invariant-loop-number
invariant-loop-number l = record {
  can_next : (goal.iterator-loop-number).can_next l.number-iterator;
  is_finite : (goal.iterator-loop-number).is_finite l.number-iterator;
  by_number : IsByNumber l.observed.items;
  to_come : AreToCome l.observed.items (iter_mut_rest l.number-iterator);
  fit : All (Fits l.outcome l.session.last_reported) l.observed.items;
  taken : All (λ observation. observation.1 ≢ Granted) l.observed.items;
}
