use Rattle.std.proofs.Common.{◌≡◌, ◌∷◌, ◌++◌, [], ℕ, take}
use Rattle.std.specs.Map.{values_of}
use Rattle.wl_world.specs.Requests.{with_changes, waiting}
use Rattle.wl_world.specs.inner.Requests.{IsRising}
use Rattle.wl_world.specs.inner.AgentIndex.{IsIndex, coming}
use Rattle.wl_world.proofs.agent_index.note_others.Given as goal

-- with the request that is to come at the end, the changes so far are noted
abbrev pub invariant-loop-change : goal.invariant-loop-change
invariant-loop-change l = record {
  index : IsIndex l.live.entries l.agent_index.entries;
  greatest : IsRising 0 l.number (values_of l.live.entries);
  with_changes : (agent : ℕ) → values_of l.live.entries ++ coming agent l.number l.phase ∷ []
      ≡ with_changes (take l.change-index l.changes) (values_of l.fn.live.entries ++ waiting agent l.number ∷ []);
}
