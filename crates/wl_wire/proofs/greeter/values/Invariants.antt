use Rattle.std.proofs.Common.{◌≡◌, map}
use Rattle.wl_wire.proofs.greeter.values.Given as goal

-- the values so far
abbrev pub invariant-loop-value : goal.invariant-loop-value
invariant-loop-value l = map (λ text. text.now) l.found.items ≡ map (λ value. value.now.bytes) l.yielded
