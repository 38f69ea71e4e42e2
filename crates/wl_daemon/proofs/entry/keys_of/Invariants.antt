use Rattle.std.proofs.Common.{◌≡◌, take, map, Some}
use Rattle.wl_admission.specs.Tokens.{origins_of}
use Rattle.wl_daemon.proofs.entry.keys_of.Given as goal

-- the texts so far have these origins
abbrev pub invariant-loop-text : goal.invariant-loop-text
invariant-loop-text l = origins_of (map (λ t. t.now) (take l.text-index l.texts)) ≡ Some l.keys.items
