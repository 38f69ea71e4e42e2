use Rattle.std.specs.Option.{is_some}
use Rattle.wl_world.specs.inner.AgentIndex.{found}
use Rattle.wl_machine.proofs.Covers.{Contains-filter}
use Rattle.wl_world.proofs.agent_index.clean.Goals as goal

pub returns-then-len-saturating_add-clause-own : goal.returns-then-len-saturating_add-clause-own
returns-then-len-saturating_add-clause-own c = λ n live has. rw c.retain_live.ensures
    (Contains-filter (λ number. is_some (found number c.args.live.now.entries))
    c.args.agent_requests.now.own.items n live
    has)
