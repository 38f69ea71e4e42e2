use Rattle.std.proofs.Common.{◌≡◌, ◌++◌, take, map}
use Rattle.std.specs.Str.{trim}
use Rattle.wl_admission.proofs.subprotocols.push_trimmed.Given as goal

-- the pieces so far were added
abbrev pub invariant-loop-piece : goal.invariant-loop-piece
invariant-loop-piece l = map (λ p. p.now) l.found.items ≡ map (λ p. p.now) l.fn.found.items
    ++ map (λ p. trim p.now) (take l.piece-index l.pieces)
