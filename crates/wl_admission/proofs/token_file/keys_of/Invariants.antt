use Rattle.std.proofs.Common.{◌≡◌, take, map, Some}
use Rattle.wl_admission.specs.Tokens.{origins_of}
use Rattle.wl_admission.proofs.token_file.keys_of.Given as goal

-- the words so far have these origins
abbrev pub invariant-loop-word : goal.invariant-loop-word
invariant-loop-word l = origins_of (map (λ w. w.now) (take l.word-index l.words)) ≡ Some l.keys.items
