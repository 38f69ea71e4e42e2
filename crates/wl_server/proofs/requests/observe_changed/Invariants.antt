use Rattle.std.proofs.Common.{◌≢◌, All}
use Rattle.wl_types.specs.declared.phases.Phase.TheVariants.{Granted}
use Rattle.wl_session.specs.LastReported.{Fits, IsByNumber}
use Rattle.wl_server.proofs.Observed.{AreBelowAll}
use Rattle.wl_server.proofs.requests.observe_changed.Given as goal

abbrev pub invariant-loop-number : goal.invariant-loop-number
invariant-loop-number l = record {
  by_number : IsByNumber l.observed.items;
  below : AreBelowAll l.numbers l.number-index l.observed.items;
  fit : All (Fits l.outcome l.session.last_reported) l.observed.items;
  taken : All (λ observation. observation.1 ≢ Granted) l.observed.items;
}
