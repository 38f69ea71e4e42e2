-- What the code holds at a key: its origin, and how many entries its core's journal has had, where it keeps one (own).
use Rattle.std.specs.Prelude.{ℕ, Option}
use Rattle.wl_world.specs.Origins.{Origin}

pub record Manager : Type 0 where
  pub origin : Origin
  pub entries : Option ℕ
