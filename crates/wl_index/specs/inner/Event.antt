-- What an event has done so far (own).
use Rattle.std.specs.Prelude.{ℕ, List}
use Rattle.wl_types.specs.declared.phases.Change.{Change}

-- the changes; the places of the queues that are still to be processed; how many more can be noted
pub record Happened : Type 0 where
  pub changes : List Change
  pub touched : List ℕ
  pub room : ℕ
