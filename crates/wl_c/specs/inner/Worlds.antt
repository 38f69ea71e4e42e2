-- What only the code of this crate says (own), beside `Worlds`.
use Rattle.std.specs.Prelude.{ℕ, List, ◌<◌, length, Result, Ok, Err}
use Rattle.wl_codec.specs.Lines.{HasNoLf}
use Rattle.wl_c.specs.declared.fault.Fault.{Fault}
use Rattle.wl_c.specs.declared.fault.Fault.TheVariants.{Memory, Spent, NoBooks, Null, TooLong, LineFeed}
use Rattle.wl_c.specs.Worlds.{IsLine}

-- what is found of a line before it is answered
abbrev pub MayBeAnswered : List ℕ → Result (Unit {0}) Fault → Type 0
MayBeAnswered line (Ok done) = IsLine line
MayBeAnswered line (Err TooLong) = 65536 < length line
MayBeAnswered line (Err LineFeed) = HasNoLf line → ⊥
MayBeAnswered line (Err Memory) = ⊥
MayBeAnswered line (Err Spent) = ⊥
MayBeAnswered line (Err NoBooks) = ⊥
MayBeAnswered line (Err Null) = ⊥
