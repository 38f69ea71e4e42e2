-- What a map by number ends as, where a `&mut` to one of its values is returned. (own)
use Rattle.std.specs.Prelude.{◌≡◌, ℕ, Option}
use Rattle.std.specs.Borrow.{LendsSo, Fml, RattleType, MutBor}
use Rattle.wl_number_map.specs.NumberMap.{NumberMap, WritesThrough}
use Rattle.wl_number_map.specs.contracts.map.NumberMap.{the_row}

-- the number has the last value written through r; at `None` the map stays as it is
abbrev pub lends_value : (V : RattleType) → MutBor (NumberMap V.Denot) → ℕ → Option (MutBor V.Denot) → Fml
lends_value V m number r = LendsSo (the_row V) V m r (λ n value. WritesThrough number m.now value n) (λ n. n ≡ m.now)
