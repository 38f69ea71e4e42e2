use Rattle.std.proofs.Common.{◌≡◌, ◌++◌, map}
use Rattle.std.specs.List.{flat_map, AllByRecursion}
use Rattle.wl_machine.specs.Grants.{queue}
use Rattle.wl_machine.specs.Step.{request_info}
use Rattle.wl_index.specs.inner.Rows.{held_of, pending_of}
use Rattle.wl_index.specs.inner.NameQueue.{Matches}
use Rattle.wl_index.specs.inner.Queues.{names_of}
use Rattle.wl_index.proofs.snapshots.pending_infos.Given as goal

-- what is shown, and the queues to come, are all queues
abbrev pub invariant-loop-name_queue : goal.invariant-loop-name_queue
invariant-loop-name_queue l = record {
  matched : AllByRecursion (λ e. Matches e.1 (held_of l.requests.entries) (pending_of l.requests.entries))
      l.name_queue-iterator;
  shown : l.infos ++ flat_map (λ name. map request_info (queue name (pending_of l.requests.entries)))
      (names_of l.name_queue-iterator) ≡ flat_map (λ name. map request_info
      (queue name (pending_of l.requests.entries)))
      (names_of l.queues);
}
