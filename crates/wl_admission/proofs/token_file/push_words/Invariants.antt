use Rattle.std.proofs.Common.{◌≡◌, ◌++◌, take, map, length}
use Rattle.std.specs.Prelude.{filter, nat_lt}
use Rattle.wl_admission.proofs.token_file.push_words.Given as goal

-- the pieces so far that are words were added
abbrev pub invariant-loop-piece : goal.invariant-loop-piece
invariant-loop-piece l = map (λ w. w.now) l.found.items ≡ map (λ w. w.now) l.fn.found.items
    ++ filter (λ w. nat_lt 0 (length w)) (map (λ p. p.now) (take l.piece-index l.pieces))
