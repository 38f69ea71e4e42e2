use Rattle.wl_world.specs.Realms.{entries_in, origin_in}
use Rattle.wl_world.proofs.Listed.{entries_listed, origins_listed, stands}
use Rattle.wl_world.proofs.engine.Engine.into_cores.Goals as goal

pub returns-clause-states : goal.returns-clause-states
returns-clause-states g c =
    stands (λ cores. cores.items) g.C.LockCore.state (λ m. m.origin.state)
    (λ found. (origin_in found).state) c.args.self.realm.entries c.take_cores.result
    origins_listed c.take_cores.ensures.distinct c.take_cores.ensures.in_order c.take_cores.ensures.states

pub returns-clause-entries : goal.returns-clause-entries
returns-clause-entries g c =
    stands (λ cores. cores.items) g.C.LockCore.entries (λ m. m.entries)
    (entries_in g.C.LockCore.no_entries) c.args.self.realm.entries c.take_cores.result
    (entries_listed g.C.LockCore.no_entries) c.take_cores.ensures.distinct c.take_cores.ensures.in_order
    c.take_cores.ensures.entries
