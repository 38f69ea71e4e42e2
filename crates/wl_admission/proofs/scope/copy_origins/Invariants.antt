use Rattle.std.proofs.Common.{◌≡◌, take}
use Rattle.wl_admission.proofs.scope.copy_origins.Given as goal

-- the origins so far are copied
abbrev pub invariant-loop-origin : goal.invariant-loop-origin
invariant-loop-origin l = l.made.items ≡ take l.origin-index l.origins
