use Rattle.std.proofs.Common.{All, Contains}
use Rattle.wl_types.specs.declared.phases.Phase.TheVariants.{Taken}
use Rattle.wl_server.proofs.requests.Requests.keep_fences.Given as goal

abbrev pub invariant-loop-number : goal.invariant-loop-number
invariant-loop-number l = All (λ fence. Contains l.observed (fence.request, Taken)) l.self.fences.items
