use Rattle.std.proofs.Common.{◌≡◌, ◌++◌}
use Rattle.wl_world.specs.Cores.{seen_by}
use Rattle.wl_world.proofs.cores.list_cores.Given as goal

-- what is seen of the cores so far, and of the managers that are left
abbrev pub invariant-loop-key : goal.invariant-loop-key
invariant-loop-key g l = record {
  states : seen_by g.C.LockCore.state l.cores.items ++ seen_by (λ m. m.origin.state) l.key-iterator ≡ seen_by
      (λ m. m.origin.state) l.fn.realm.entries;
  entries : seen_by g.C.LockCore.entries l.cores.items ++ seen_by (λ m. m.entries) l.key-iterator ≡ seen_by
      (λ m. m.entries) l.fn.realm.entries;
}
