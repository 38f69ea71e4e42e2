use Rattle.wl_index.proofs.Cores.{begun_core, relisted_core}
use Rattle.wl_index.proofs.index.IndexCoreLockCore.new_signal.Goals as goal

pub invariant_of-self-2 : goal.invariant_of-self-2
invariant_of-self-2 c = (
  relisted_core c.self.inside.agents _ c.begin.new.self _ c.make_signal.ensures.lists
      (begun_core _ _ _ _ c.begin.ensures c.self.invariant.0),
  c.self.invariant.1,
)
