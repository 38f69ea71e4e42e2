-- A session, and what a reply makes of it (own).
use Rattle.std.specs.Prelude.{ℕ, List, [], Bool, true, false, Option, if◌then◌else◌}
use Rattle.wl_codec.specs.declared.reply.Notice.{Notice}
use Rattle.wl_codec.specs.declared.reply.Outcome.{Outcome}
use Rattle.wl_codec.specs.declared.reply.Outcome.TheVariants as outcome
use Rattle.wl_codec.specs.declared.reply.WireReply.{WireReply}
use Rattle.wl_session.specs.LastReported.{RequestPhase, due_notices, with_observed}

-- whether the agent is open, and what was last reported to it
pub record State : Type 0 where
  pub is_open : Bool
  pub last_reported : List RequestPhase

abbrev pub closed : State
closed = record { is_open = false; last_reported = [] }

-- whether the reply has notices
abbrev pub carries_notices : Outcome → Bool
carries_notices (outcome.Client c) = false
carries_notices (outcome.Signal n) = true
carries_notices (outcome.Request n) = true
carries_notices (outcome.Release a) = true
carries_notices (outcome.Abort a) = true
carries_notices (outcome.Active b) = true
carries_notices (outcome.Seen s) = true
carries_notices outcome.Polled = true
carries_notices outcome.Closed = false
carries_notices (outcome.Refused r) = true
carries_notices (outcome.Fault f) = false
carries_notices outcome.NotOpen = false
carries_notices outcome.AlreadyOpen = false
carries_notices outcome.BadUrl = false
carries_notices outcome.BadBucket = false

abbrev pub notices : List RequestPhase → Outcome → List RequestPhase → List Notice
notices last_reported o observed = if carries_notices o then due_notices o last_reported observed else []

abbrev pub reply : State → Option ℕ → Outcome → List RequestPhase → WireReply
reply s id o observed = record { id = id; notices = notices s.last_reported o observed; outcome = o }

-- An agent that opens or closes was told nothing.
abbrev pub last_reported_after : List RequestPhase → Outcome → List RequestPhase → List RequestPhase
last_reported_after last_reported (outcome.Client c) observed = []
last_reported_after last_reported outcome.Closed observed = []
last_reported_after last_reported o observed = if carries_notices o then with_observed last_reported observed
    else last_reported

abbrev pub opens : Bool → Outcome → Bool
opens was (outcome.Client c) = true
opens was outcome.Closed = false
opens was o = was

abbrev pub after : State → Outcome → List RequestPhase → State
after s o observed = record {
  is_open = opens s.is_open o;
  last_reported =
      last_reported_after s.last_reported o observed;
}
