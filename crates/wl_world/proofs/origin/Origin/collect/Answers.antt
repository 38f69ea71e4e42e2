use Rattle.std.proofs.Common.{arith, sym, subst}
use Rattle.std.proofs.lemmas.Grind.{common_steps}
use Rattle.wl_session.specs.LastReported.{IsByNumber}
use Rattle.wl_world.specs.Requests.{changed_requests}
use Rattle.wl_world.specs.inner.Requests.{IsRising}
use Rattle.wl_world.proofs.Counted.{collect_in_order}
use Rattle.wl_world.proofs.Rising.{changed_rising, taken_rising}
use Rattle.wl_world.proofs.origin.Origin.collect.Goals as goal

pub invariant_of-self : goal.invariant_of-self
invariant_of-self g c = subst (IsRising 0 (g.C.LockCore.state c.self.inside.core).next.request)
    (sym c.in_err-changed.ensures.err) tt

pub invariant_of-self-2 : goal.invariant_of-self-2
invariant_of-self-2 g c =
    collect_in_order c.args.agent (g.C.LockCore.state c.self.inside.core)
    (g.C.LockCore.state c.take_all.new.core) c.deref_mut.result.now c.self.inside.requests c.collect.new.self
    c.take_all.ensures.state c.in_ok-changed.ensures.ok c.self.invariant

pub returns-clause-by_number : goal.returns-clause-by_number
returns-clause-by_number g c =
    subst IsByNumber (sym (grind (arith, common_steps))) (taken_rising 0
    (changed_requests c.args.agent c.self.inside.requests)
    (changed_rising c.args.agent 0 (g.C.LockCore.state c.self.inside.core).next.request c.self.inside.requests
    c.self.invariant))
