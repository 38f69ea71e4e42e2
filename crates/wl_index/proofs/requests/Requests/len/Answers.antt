use Rattle.std.proofs.Common.{◌∙◌, sym}
use Rattle.wl_index.proofs.Rows.{live_count}
use Rattle.wl_index.proofs.requests.Requests.len.Goals as goal

pub returns-clause-live : goal.returns-clause-live
returns-clause-live c =
    let i = c.self.inside in
    rw (← c.self.view_is) (c.len.ensures.len ∙ sym (live_count i.requests.entries))

pub returns-clause-ordered : goal.returns-clause-ordered
returns-clause-ordered c = rw (← c.self.view_is) c.self.invariant.ordered
