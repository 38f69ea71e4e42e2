use Rattle.std.proofs.Common.{◌≡◌, take}
use Rattle.std.specs.Map.{values_of}
use Rattle.wl_world.specs.Requests.{with_changes}
use Rattle.wl_world.specs.inner.AgentIndex.{IsIndex}
use Rattle.wl_world.proofs.agent_index.note_all.Given as goal

abbrev pub invariant-loop-change : goal.invariant-loop-change
invariant-loop-change l = record {
  index : IsIndex l.live.entries l.agent_index.entries;
  with_changes : values_of l.live.entries ≡ with_changes (take l.change-index l.changes) (values_of l.fn.live.entries);
}
