use Rattle.std.proofs.Common.{arith, ap, length}
use Rattle.wl_manager.specs.Aborts.{Found, taken}
use Rattle.wl_manager.proofs.Aborted.{own_entries, why_refused, if_ok, if_err}
use Rattle.wl_manager.proofs.agent.Agent.abort.Goals as goal

pub returns-clause-counted : goal.returns-clause-counted
returns-clause-counted g c = if_ok _ _ c.abort-aborted.result
    (λ answer done counts.
    let amount = done.2 counts in
    let own = own_entries c.args.self.now.number c.args.signal c.args.reason answer in (
      length (taken done.0),
      λ again. ap (λ (found : Found). length (taken found)) (done.1.again again),
      omega (arith, amount, own),
    )) c.abort-aborted.ensures.aborted

pub returns-clause-refused : goal.returns-clause-refused
returns-clause-refused g c = if_err _ _ c.abort-aborted.result
    (λ refusal is. why_refused c.deref_mut.result.now.book.state c.args.self.now.number c.args.signal c.args.reason
    refusal is) c.abort-aborted.ensures.refused
