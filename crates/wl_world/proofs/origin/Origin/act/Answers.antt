use Rattle.wl_world.specs.Origins.{act}
use Rattle.wl_world.specs.inner.Views.{fresh, origin}
use Rattle.wl_world.proofs.Counted.{acted_in_order}
use Rattle.wl_world.proofs.Entries.{if_answered}
use Rattle.wl_world.proofs.Operations.{done_is, refusal_is}
use Rattle.wl_world.proofs.origin.Origin.act.Goals as goal

pub returns-in-Err-clause-acted : goal.returns-in-Err-clause-acted
returns-in-Err-clause-acted g c = rw (← c.self.view_is)
    (refusal_is _ _ _ _ _ _ c.in-Err.ensures.done c.refusal_outcome.ensures)

pub returns-clause-acted : goal.returns-clause-acted
returns-clause-acted g c =
    rw (← c.self.view_is)
    (done_is (λ requests. act (origin (g.C.LockCore.state c.self.inside.core) requests) c.args.agent
    c.args.body.now)
    (g.C.LockCore.state c.operate.new.core)
    (fresh c.in-Ok.outcome (g.C.LockCore.recent c.operate.new.core)) c.args.agent c.in-Ok.outcome
    c.self.inside.requests c.accept.new.requests
    c.in-Ok.ensures.done c.in_ok-accept.ensures.ok)

pub invariant_of-self-2 : goal.invariant_of-self-2
invariant_of-self-2 g c =
    acted_in_order (origin (g.C.LockCore.state c.self.inside.core) c.self.inside.requests)
    (origin (g.C.LockCore.state c.operate.new.core) c.accept.new.requests) c.args.agent c.args.body.now c.in-Ok.outcome
    (done_is (λ requests. act (origin (g.C.LockCore.state c.self.inside.core) requests) c.args.agent c.args.body.now)
    (g.C.LockCore.state c.operate.new.core)
    (fresh c.in-Ok.outcome (g.C.LockCore.recent c.operate.new.core)) c.args.agent c.in-Ok.outcome
    c.self.inside.requests c.accept.new.requests
    c.in-Ok.ensures.done c.in_ok-accept.ensures.ok) c.self.invariant

pub returns-in-Err-clause-entries : goal.returns-in-Err-clause-entries
returns-in-Err-clause-entries g c = rw (← c.self.view_is)
    (if_answered _ _ _ c.refusal_outcome.ensures c.in-Err.ensures.entries)
