-- What only the code of this crate says (own), beside `Requests`.
use Rattle.std.specs.Prelude.{ℕ, ◌≤◌, ◌<◌, ◌+◌, List, [], ◌∷◌}
use Rattle.wl_world.specs.declared.requests.Request.{Request}

-- each number is greater than the one before, from low on and below high
abbrev pub IsRising : ℕ → ℕ → List Request → Type 0
IsRising low high [] = Unit {0}
IsRising low high (request ∷ requests) = (low ≤ request.number) × (request.number < high)
    × IsRising (request.number + 1) high requests
