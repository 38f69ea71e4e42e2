-- What keeps requests in order of number.
use Rattle.std.proofs.Common.{◌≡◌, ℕ, ◌≤◌, ◌<◌, ◌+◌, List, [], ◌∷◌, ◌++◌, refl, sym, subst, Bool, true, false, map}
use Rattle.std.proofs.Common.{filter, arith}
use Rattle.std.specs.Prelude.{if◌then◌else◌, Option, Some, None, not}
use Rattle.wl_types.specs.declared.phases.Change.{Change}
use Rattle.wl_types.specs.declared.phases.Phase.{Phase}
use Rattle.std.specs.Prelude.{◌==◌}
use Rattle.std.specs.List.{flat_map}
use Rattle.wl_session.specs.LastReported.{IsFrom, RequestPhase}
use Rattle.wl_world.specs.declared.requests.Request.{Request}
use Rattle.wl_world.specs.Requests.{has_ended, observation_of, changed_requests, with_changes, after_collect}
use Rattle.wl_world.specs.Requests.{with_change, without_change}
use Rattle.wl_world.specs.inner.Requests.{IsRising}
use Rattle.wl_world.specs.Origins.{as_taken}

pub higher : (low high top : ℕ) (requests : List Request) → high ≤ top → IsRising low high requests
    → IsRising low top requests
higher low high top [] le r = tt
higher low high top (request ∷ requests) le (from, below, rest) =
    (from, omega arith, higher (request.number + 1) high top requests le rest)

pub lower : (floor low high : ℕ) (requests : List Request) → floor ≤ low → IsRising low high requests
    → IsRising floor high requests
lower floor low high [] le r = tt
lower floor low high (request ∷ requests) le (from, below, rest) = (omega arith, below, rest)

pub added : (low high top : ℕ) (requests : List Request) (request : Request) → low ≤ request.number
    → high ≤ request.number → request.number < top
    → IsRising low high requests → IsRising low top (requests ++ request ∷ [])
added low high top [] request from after below r = (from, below, tt)
added low high top (first ∷ requests) request from after below (first_from, first_below, rest) =
    (first_from, omega arith, added (first.number + 1) high top requests request (omega arith) after below rest)

pub filtered : (p : Request → Bool) (low high : ℕ) (requests : List Request) → IsRising low high requests
    → IsRising low high (filter p requests)
filtered p low high [] r = tt
filtered p low high (request ∷ requests) (from, below, rest) =
    go (p request) (filtered p (request.number + 1) high requests rest)
  where
    go : (c : Bool) → IsRising (request.number + 1) high (filter p requests)
        → IsRising low high (if c then request ∷ filter p requests else filter p requests)
    go true rest = (from, below, rest)
    go false rest = lower low (request.number + 1) high (filter p requests) (omega arith) rest

pub mapped : (f : Request → Request) → ((request : Request) → (f request).number ≡ request.number)
    → (low high : ℕ) (requests : List Request) → IsRising low high requests → IsRising low high (map f requests)
mapped f same low high [] r = tt
mapped f same low high (request ∷ requests) (from, below, rest) =
    subst (λ n. (low ≤ n) × (n < high) × IsRising (n + 1) high (map f requests)) (sym (same request))
    (from, below, mapped f same (request.number + 1) high requests rest)

-- what keeps numbers
same_numbers : (change : Change) (request : Request) → (with_change change request).number ≡ request.number
same_numbers change request = go (request.number == change.id)
  where
    go : (c : Bool) → (if c then record request { changed = Some change.phase } else request).number ≡ request.number
    go true = refl
    go false = refl

cleared : (agent : ℕ) (request : Request) → (without_change agent request).number ≡ request.number
cleared agent request = go (request.agent == agent)
  where
    go : (c : Bool) → (if c then record request { changed = None } else request).number ≡ request.number
    go true = refl
    go false = refl

pub with_changes_rising : (low high : ℕ) (changes : List Change) (requests : List Request) → IsRising low high requests
    → IsRising low high (with_changes changes requests)
with_changes_rising low high [] requests r = r
with_changes_rising low high (change ∷ changes) requests r =
    with_changes_rising low high changes (map (with_change change) requests)
    (mapped (with_change change) (same_numbers change) low high requests r)

pub collect_rising : (agent low high : ℕ) (requests : List Request) → IsRising low high requests
    → IsRising low high (after_collect agent requests)
collect_rising agent low high requests r =
    mapped (without_change agent) (cleared agent) low high _
    (filtered (λ request. not (has_ended agent request)) low high requests r)

-- the changed requests of an agent stand by number
from_lower : (floor low : ℕ) (observed : List RequestPhase) → floor ≤ low → IsFrom low observed → IsFrom floor observed
from_lower floor low [] le f = tt
from_lower floor low (observation ∷ observed) le (from, rest) = (omega arith, rest)

pub changed_rising : (agent low high : ℕ) (requests : List Request) → IsRising low high requests
    → IsFrom low (changed_requests agent requests)
changed_rising agent low high [] r = tt
changed_rising agent low high (request ∷ requests) (from, below, rest) =
    mine (request.agent == agent) (changed_rising agent (request.number + 1) high requests rest)
  where
    new : (changed : Option Phase) → IsFrom (request.number + 1) (changed_requests agent requests)
        → IsFrom low (observation_of request.number changed ++ changed_requests agent requests)
    new None f = from_lower low (request.number + 1) _ (omega arith) f
    new (Some phase) f = (from, f)

    mine : (c : Bool) → IsFrom (request.number + 1) (changed_requests agent requests)
        → IsFrom low (flat_map (λ request. observation_of request.number request.changed)
        (if c then request ∷ filter (λ request. request.agent == agent) requests
        else filter (λ request. request.agent == agent) requests))
    mine true f = new request.changed f
    mine false f = from_lower low (request.number + 1) _ (omega arith) f

pub taken_rising : (low : ℕ) (observed : List RequestPhase) → IsFrom low observed → IsFrom low (map as_taken observed)
taken_rising low [] f = tt
taken_rising low (observation ∷ observed) (from, rest) = (from, taken_rising (observation.0 + 1) observed rest)
