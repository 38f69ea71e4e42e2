use Rattle.wl_index.proofs.requests.Requests.next.Goals as goal

pub returns-clause-below : goal.returns-clause-below
returns-clause-below c = rw (← c.self.view_is) c.self.invariant.below
