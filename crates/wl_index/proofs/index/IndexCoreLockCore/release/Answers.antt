use Rattle.std.proofs.Common.{ap}
use Rattle.wl_index.specs.inner.Locks.{Board}
use Rattle.wl_index.specs.inner.Rows.{other}
use Rattle.wl_index.proofs.Cores.{begun_core, fewer_core}
use Rattle.wl_index.proofs.index.IndexCoreLockCore.release.Goals as goal

pub invariant_of-self-2 : goal.invariant_of-self-2
invariant_of-self-2 c = (
  fewer_core _ c.begin.new.self c.end.new.self _ (other c.args.id) _
      (begun_core _ _ _ _ c.begin.ensures c.self.invariant.0) (ap (λ (b : Board). b.entries) c.end.ensures)
      c.process.ensures.quiet c.process.ensures.tags,
  c.self.invariant.1,
)
