use Rattle.wl_server.proofs.requests.Requests.observe.Goals as goal

pub returns-clause-fenced : goal.returns-clause-fenced
returns-clause-fenced c = rw c.deref.ensures.value at c.in_ok-keep_fences.ensures
