use Rattle.std.proofs.Common.{◌≡◌, string_bytes}
use Rattle.std.specs.List.{flat_map}
use Rattle.wl_timeline.specs.Escapes.{escaped_char}
use Rattle.wl_timeline.proofs.escaping.escape.Given as goal

abbrev pub invariant-loop-c : goal.invariant-loop-c
invariant-loop-c l = string_bytes l.safe ≡ flat_map escaped_char l.yielded
