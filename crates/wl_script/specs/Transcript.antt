-- What a run writes (own): the reply to each line, and LF.
use Rattle.std.specs.Prelude.{ℕ, List, [], ◌∷◌, ◌++◌}
use Rattle.wl_world.specs.World.{World, next, reply}

abbrev pub reply_line : World → List ℕ → List ℕ
reply_line world line = reply world line ++ 10 ∷ []

abbrev pub transcript : World → List (List ℕ) → List ℕ
transcript world [] = []
transcript world (line ∷ lines) = reply_line world line ++ transcript (next world line) lines

-- the world after the lines
abbrev pub after : World → List (List ℕ) → World
after world [] = world
after world (line ∷ lines) = after (next world line) lines
