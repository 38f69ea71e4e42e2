use Rattle.wl_index.proofs.locks.Locks.queues.Goals as goal

pub returns-clause-ordered : goal.returns-clause-ordered
returns-clause-ordered c = rw (← c.self.view_is) c.self.invariant.ordered
