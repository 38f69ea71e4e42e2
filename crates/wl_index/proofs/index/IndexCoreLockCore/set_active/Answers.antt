use Rattle.wl_index.proofs.Cores.{begun_core, relisted_core}
use Rattle.wl_index.proofs.index.IndexCoreLockCore.set_active.Goals as goal

pub invariant_of-self-2 : goal.invariant_of-self-2
invariant_of-self-2 c = (
  relisted_core c.self.inside.agents _ c.begin.new.self _ c.set_active.ensures.lists
      (begun_core _ _ _ _ c.begin.ensures c.self.invariant.0),
  c.self.invariant.1,
)
