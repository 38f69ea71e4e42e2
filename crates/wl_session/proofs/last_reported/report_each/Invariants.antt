use Rattle.std.proofs.Common.{◌≡◌, ◌+◌, ◌≤◌, length, take, vec_len, vec_capacity}
use Rattle.wl_session.specs.LastReported.{with_observed}
use Rattle.wl_session.specs.inner.LastReported.{IsReportedList}
use Rattle.wl_session.proofs.last_reported.report_each.Given as goal

abbrev pub invariant-loop-observation : goal.invariant-loop-observation
invariant-loop-observation l = record {
  so_far : l.last_reported.items ≡ with_observed l.initial.last_reported.items (take l.observation-index l.observed);
  list : IsReportedList l.last_reported.items;
  room : vec_len l.last_reported + length l.observed ≤ vec_capacity l.last_reported + l.observation-index;
}
