use Rattle.wl_world.proofs.Listed.{moved_list, sorted_list}
use Rattle.wl_world.proofs.cores.take_cores.Goals as goal

pub returns-clause-in_order : goal.returns-clause-in_order
returns-clause-in_order g c =
    sorted_list g.C.LockCore.state (λ m. m.origin.state) c.args.realm.entries c.in_ok-cores.cores.items
    c.sort_cores.new.cores.items c.in_ok-cores.ensures.distinct c.in_ok-cores.ensures.states
    c.sort_cores.ensures.permutation c.sort_cores.ensures.sorted

pub returns-clause-states : goal.returns-clause-states
returns-clause-states g c =
    moved_list g.C.LockCore.state
    (λ m. m.origin.state) c.args.realm.entries c.in_ok-cores.cores.items c.sort_cores.new.cores.items
    c.in_ok-cores.ensures.states c.sort_cores.ensures.permutation

pub returns-clause-entries : goal.returns-clause-entries
returns-clause-entries g c =
    moved_list g.C.LockCore.entries
    (λ m. m.entries) c.args.realm.entries c.in_ok-cores.cores.items c.sort_cores.new.cores.items
    c.in_ok-cores.ensures.entries c.sort_cores.ensures.permutation
