-- What only the code of this crate says (own), beside `Lines`.
use Rattle.std.specs.Prelude.{◌≡◌, ℕ, List, ◌++◌, Option}
use Rattle.std.specs.Io.KnownBytes.{Consumes}
use Rattle.wl_codec.specs.Lines.{HasNoLf}

-- these bytes of a line that had begun were given, and then those behind it
pub record GivesPart (old : Option (List ℕ)) (begun line behind : List ℕ) (new : Option (List ℕ)) : Type 0 where
  pub part : List ℕ
  pub no_lf : HasNoLf part
  pub added : line ≡ begun ++ part
  pub given : Consumes old new (part ++ behind)
