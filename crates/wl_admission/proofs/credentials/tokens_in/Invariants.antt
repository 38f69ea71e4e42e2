use Rattle.std.proofs.Common.{◌≡◌, take, map}
use Rattle.std.specs.List.{filter_map}
use Rattle.wl_admission.specs.Handshakes.{bearer_of}
use Rattle.wl_admission.proofs.credentials.tokens_in.Given as goal

-- the tokens of the texts so far
abbrev pub invariant-loop-text : goal.invariant-loop-text
invariant-loop-text l = map (λ t. t.now) l.found.items ≡ filter_map (bearer_of l.carrier)
    (map (λ text. text.now) (take l.text-index l.texts))
