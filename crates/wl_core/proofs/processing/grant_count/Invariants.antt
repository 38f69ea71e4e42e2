use Rattle.std.proofs.Common.{◌≡◌, ◌+◌, ◌≤◌, ◌<◌, length, drop, false}
use Rattle.wl_machine.specs.Grants.{queue, starts_exclusive, shared_prefix}
use Rattle.wl_core.proofs.processing.grant_count.Given as goal

-- the shared requests so far and those to come; while there are none, the first of the rest is the first
abbrev pub invariant-loop-request : goal.invariant-loop-request
invariant-loop-request l = record {
  counted : l.count + length (shared_prefix (queue l.name (drop l.request-index l.pending)))
      ≡ length (shared_prefix (queue l.name l.pending));
  first : l.count ≡ 0 → starts_exclusive (queue l.name (drop l.request-index l.pending))
      ≡ starts_exclusive (queue l.name l.pending);
  shared : 0 < l.count → starts_exclusive (queue l.name l.pending) ≡ false;
  few : l.count ≤ l.request-index;
}
