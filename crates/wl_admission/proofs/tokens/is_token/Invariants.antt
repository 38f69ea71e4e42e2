use Rattle.std.proofs.Common.{◌≡◌, take, true}
use Rattle.std.specs.List.{list_all}
use Rattle.wl_admission.specs.Tokens.{is_token_byte}
use Rattle.wl_admission.proofs.tokens.is_token.Given as goal

-- the bytes so far may stand in a token
abbrev pub invariant-loop-byte : goal.invariant-loop-byte
invariant-loop-byte l = list_all is_token_byte (take l.byte-index l.text) ≡ true
