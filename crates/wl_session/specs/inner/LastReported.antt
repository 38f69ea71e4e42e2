-- What only the code of this crate says (own), beside `LastReported`.
use Rattle.std.specs.Prelude.{◌≡◌, List, true, All}
use Rattle.wl_session.specs.LastReported.{IsByNumber, RequestPhase, is_live}

-- the requests whose end was not reported, by number
pub record IsReportedList (last_reported : List RequestPhase) : Type 0 where
  pub by_number : IsByNumber last_reported
  pub live : All (λ l. is_live l ≡ true) last_reported
