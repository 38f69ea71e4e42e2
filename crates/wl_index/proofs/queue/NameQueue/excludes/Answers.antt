use Rattle.std.proofs.Common.{◌∙◌}
use Rattle.wl_index.specs.inner.NameQueue.{waits_from}
use Rattle.wl_index.proofs.Shared.{excluded}
use Rattle.wl_index.proofs.queue.NameQueue.excludes.Goals as goal

pub returns : goal.returns
returns c =
    let i = c.self.inside in
    rw (← c.self.view_is) (c.is_some.ensures ∙ excluded i.live.entries (waits_from i.first i.live.entries) i.first
    i.holder c.self.invariant)
