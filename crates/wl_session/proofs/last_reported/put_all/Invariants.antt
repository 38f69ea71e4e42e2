use Rattle.std.proofs.Common.{◌≡◌, ◌+◌, ◌≤◌, length, take, fold, vec_len, vec_capacity}
use Rattle.wl_session.specs.LastReported.{IsByNumber, put}
use Rattle.wl_session.proofs.last_reported.put_all.Given as goal

abbrev pub invariant-loop-observation : goal.invariant-loop-observation
invariant-loop-observation l = record {
  so_far : l.list.items ≡ fold put l.initial.list.items (take l.observation-index l.observed);
  by_number : IsByNumber l.list.items;
  room : vec_len l.list + length l.observed ≤ vec_capacity l.list + l.observation-index;
}
