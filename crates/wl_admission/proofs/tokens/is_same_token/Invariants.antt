use Rattle.std.proofs.Common.{◌≡◌, take}
use Rattle.std.specs.Str.{bytes_eq}
use Rattle.wl_admission.proofs.tokens.is_same_token.Given as goal

-- whether the bytes so far are the same
abbrev pub invariant-loop-i : goal.invariant-loop-i
invariant-loop-i l = l.is_same ≡ bytes_eq (take l.i l.known) (take l.i l.given)
