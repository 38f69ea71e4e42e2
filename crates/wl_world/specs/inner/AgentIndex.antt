-- How the requests of an origin are held: all by number, and an agent index that they are found by (own).
use Rattle.std.specs.Prelude.{◌≡◌, ◌⊎◌, ℕ, ◌==◌, List, [], Option, Some, None, IsSome, cond, if◌then◌else◌}
use Rattle.std.specs.List.{Contains, flat_map}
use Rattle.std.specs.List.Sorted.{IsStrictlySortedBy}
use Rattle.std.specs.Map.{keys_of, lookup}
use Rattle.std.specs.Option.{option_and_then}
use Rattle.std.specs.BTreeMap.{is_at}
use Rattle.std.specs.Ordering.{nat_cmp}
use Rattle.wl_types.specs.declared.phases.Phase.{Phase}
use Rattle.wl_codec.specs.declared.reply.Outcome.{Outcome}
use Rattle.wl_codec.specs.declared.reply.Outcome.TheVariants as outcome
use Rattle.wl_session.specs.LastReported.{RequestPhase}
use Rattle.wl_world.specs.declared.requests.Request.{Request}
use Rattle.wl_world.specs.declared.agent_index.AgentRequests.{AgentRequests}
use Rattle.wl_world.specs.Requests.{has_ended, observation_of, without_change}
use Rattle.wl_world.specs.inner.Requests.{IsRising}

-- what stands at a number, or at an agent
abbrev pub found : {X : Type 0} → ℕ → List (ℕ × X) → Option X
found number entries = lookup (is_at (nat_cmp number)) entries

-- a request of an agent that has come to this phase, which is a change
abbrev pub coming : ℕ → ℕ → Phase → Request
coming agent number phase = record { number = number; agent = agent; changed = Some phase }

-- the numbers of an agent; one that isn't there has none
abbrev pub own_of : Option AgentRequests → List ℕ
own_of None = []
own_of (Some agent_requests) = agent_requests.own.items

abbrev pub inbox_of : Option AgentRequests → List ℕ
inbox_of None = []
inbox_of (Some agent_requests) = agent_requests.inbox.items

-- Requests by number. The index has each under its agent, and in that agent's inbox if it changed.
pub record IsIndex (live : List (ℕ × Request)) (agent_index : List (ℕ × AgentRequests)) : Type 0 where
  pub ordered : IsStrictlySortedBy nat_cmp (keys_of live)
  pub numbers : (number : ℕ) (request : Request) → found number live ≡ Some request → request.number ≡ number
  pub own : (number : ℕ) (request : Request) → found number live ≡ Some request
      → Contains (own_of (found request.agent agent_index)) number
  pub inbox : (number : ℕ) (request : Request) (phase : Phase) → found number live ≡ Some request
      → request.changed ≡ Some phase → Contains (inbox_of (found request.agent agent_index)) number

-- another number came to an agent's list, which still has all that it had of live requests
pub record IsEnrolled (live : List (ℕ × Request)) (before after : Option AgentRequests) (number : ℕ) : Type 0 where
  pub own : (other : ℕ) → IsSome (found other live) → Contains (own_of before) other → Contains (own_of after) other
  pub inbox : (other : ℕ) → Contains (inbox_of before) other → Contains (inbox_of after) other
  pub owned : Contains (own_of after) number
  pub changed : Contains (inbox_of after) number

-- what a request came to, if it is the agent's
abbrev pub observed_of : ℕ → Option Request → List RequestPhase
observed_of agent None = []
observed_of agent (Some request) = if request.agent == agent then observation_of request.number request.changed else []

-- what is observed of an agent's requests at some numbers in order, which have all of these
pub record AreObserved (agent : ℕ) (live : List (ℕ × Request)) (numbers : List ℕ) (observed : List RequestPhase) : Type
    0 where
  pub sorted : List ℕ
  pub in_order : IsStrictlySortedBy nat_cmp sorted
  pub all : (number : ℕ) → Contains numbers number → Contains sorted number
  pub observed_are : observed ≡ flat_map (λ number. observed_of agent (found number live)) sorted

-- a request of the agent that was collected leaves if it has ended, and is unchanged then
abbrev pub collect_one : ℕ → Request → Option Request
collect_one agent request = if has_ended agent request then None else Some (without_change agent request)

-- a request of the agent leaves
abbrev pub close_one : ℕ → Request → Option Request
close_one agent request = if request.agent == agent then None else Some request

-- at one number f was done, and elsewhere nothing
abbrev pub IsEachAt : (Request → Option Request) → ℕ → List (ℕ × Request) → List (ℕ × Request) → Type 0
IsEachAt f number before after = (other : ℕ) → found other after
    ≡ cond (is_at (nat_cmp number) other) (option_and_then f (found other before)) (found other before)

-- f was done at each number
abbrev pub IsEach : (Request → Option Request) → List (ℕ × Request) → List (ℕ × Request) → Type 0
IsEach f before after = (number : ℕ) → found number after ≡ option_and_then f (found number before)

-- f does nothing but at these numbers
abbrev pub IsCovered : (Request → Option Request) → List (ℕ × Request) → List ℕ → Type 0
IsCovered f live numbers = (number : ℕ) → (option_and_then f (found number live) ≡ found number live)
    ⊎ Contains numbers number

-- a request that was accepted has a greater number than all
abbrev pub IsNewest : Outcome → List Request → Type 0
IsNewest (outcome.Request number) requests = IsRising 0 number requests
IsNewest _ requests = Unit {0}
