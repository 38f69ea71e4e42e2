-- A list whose live observations are a reported list (own).
use Rattle.std.specs.Prelude.{◌≡◌, List, Bool, true, All}
use Rattle.wl_session.specs.LastReported.{RequestPhase, IsByNumber, is_live}

-- by number; where ends leave at once, it has none
pub record IsKept (at_once : Bool) (list : List RequestPhase) : Type 0 where
  pub by_number : IsByNumber list
  pub live : at_once ≡ true → All (λ l. is_live l ≡ true) list
