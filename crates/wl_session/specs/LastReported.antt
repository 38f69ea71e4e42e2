-- What was last reported of requests, and which notices are due (own; Web Locks runs a callback and settles its
-- promise).
use Rattle.std.specs.Prelude.{◌≡◌, ◌⊎◌, ℕ, ◌+◌, ◌≤◌, List, [], ◌∷◌, ◌++◌, ◌==◌, nat_lt, Bool, true, false, not, map}
use Rattle.std.specs.Prelude.{filter, fold, Any, Option, Some, None, if◌then◌else◌}
use Rattle.std.specs.List.{list_any}
use Rattle.wl_types.specs.declared.phases.Phase.{Phase}
use Rattle.wl_types.specs.declared.phases.Phase.TheVariants.{Pending, Granted, Taken, Unavailable, Aborted, Released}
use Rattle.wl_types.specs.declared.phases.Phase.TheVariants.{Stolen}
use Rattle.wl_types.specs.Phases.{is_end, Reaches}
use Rattle.wl_codec.specs.declared.reply.Notice.{Notice}
use Rattle.wl_codec.specs.declared.reply.Outcome.{Outcome}
use Rattle.wl_codec.specs.declared.reply.Outcome.TheVariants as outcome

-- ---- lists of requests

-- a request and a phase of it
abbrev pub RequestPhase : Type 0
RequestPhase = ℕ × Phase

-- each number is at least the low one, and below the next
abbrev pub IsFrom : ℕ → List RequestPhase → Type 0
IsFrom low [] = Unit {0}
IsFrom low (l ∷ ls) = (low ≤ l.0) × IsFrom (l.0 + 1) ls

-- each number once, in order
abbrev pub IsByNumber : List RequestPhase → Type 0
IsByNumber ls = IsFrom 0 ls

abbrev pub is_live : RequestPhase → Bool
is_live l = not (is_end l.1)

abbrev pub before : ℕ → List RequestPhase → List RequestPhase
before n ls = filter (λ l. nat_lt l.0 n) ls

abbrev pub beyond : ℕ → List RequestPhase → List RequestPhase
beyond n ls = filter (λ l. nat_lt n l.0) ls

-- an observation stands at its number's place, over one that is there
abbrev pub put : List RequestPhase → RequestPhase → List RequestPhase
put ls l = before l.0 ls ++ l ∷ beyond l.0 ls

-- ---- what was last reported

-- the phase that the list says was told; nothing was reported of a request that waits
abbrev pub phase_in : List RequestPhase → ℕ → Phase
phase_in [] n = Pending
phase_in (l ∷ ls) n = if l.0 == n then l.1 else phase_in ls n

-- the phase that the list has of the request, if it is there
abbrev pub found_in : List RequestPhase → ℕ → Option Phase
found_in [] n = None
found_in (l ∷ ls) n = if l.0 == n then Some l.1 else found_in ls n

-- whether the reply is the answer to that request itself
abbrev pub is_new : Outcome → ℕ → Bool
is_new (outcome.Request m) n = m == n
is_new o n = false

-- A request that is answered now starts anew.
abbrev pub reported_phase : Outcome → List RequestPhase → ℕ → Phase
reported_phase o last_reported n = if is_new o n then Pending else phase_in last_reported n

-- What was found of a request fits what was last reported: it is of the reported list, or the one that the reply
-- answers, and moves, or none, lead from the phase last reported to the one found
pub record Fits (o : Outcome) (last_reported : List RequestPhase) (observation : RequestPhase) : Type 0 where
  pub known : (is_new o observation.0 ≡ true) ⊎ Any (λ l. l.0 ≡ observation.0) last_reported
  pub reached : Reaches (reported_phase o last_reported observation.0) observation.1

-- ---- what is reported

-- A grant is reported once it is taken, unless it was told before. Each end is reported but the agent's own release.
abbrev pub is_notice_due : Phase → Phase → Bool
is_notice_due last_reported Pending = false
is_notice_due last_reported Granted = false
is_notice_due Taken Taken = false
is_notice_due last_reported Taken = true
is_notice_due last_reported Unavailable = true
is_notice_due last_reported (Aborted reason) = true
is_notice_due last_reported Released = false
is_notice_due last_reported Stolen = true

abbrev pub notice : RequestPhase → Notice
notice l = record { request = l.0; phase = l.1 }

-- a notice of each observation that is due one
abbrev pub due_notices : Outcome → List RequestPhase → List RequestPhase → List Notice
due_notices o last_reported observed = map notice (filter (λ l. is_notice_due (reported_phase o last_reported l.0) l.1)
    observed)

-- What was found is reported, a request that no observation names stays as it is, and an end leaves.
abbrev pub with_observed : List RequestPhase → List RequestPhase → List RequestPhase
with_observed last_reported observed = filter is_live (fold put last_reported observed)

-- ---- observations that leave the released requests out

abbrev pub as_released : RequestPhase → RequestPhase
as_released l = (l.0, Released)

-- A request of the list that no observation names was released.
abbrev pub with_released : List RequestPhase → List RequestPhase → List RequestPhase
with_released last_reported observed = fold put (map as_released last_reported) observed

-- whether there is such a notice
abbrev pub has_due_notices : Outcome → List RequestPhase → List RequestPhase → Bool
has_due_notices o last_reported observed = list_any (λ l. is_notice_due (reported_phase o last_reported l.0) l.1)
    observed
