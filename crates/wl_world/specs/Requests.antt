-- The requests of a manager whose ends were not reported to their agents, each with what its agent is to learn of it
-- (own).
use Rattle.std.specs.Prelude.{ℕ, Bool, false, not, ◌&&◌, ◌==◌, ◌+◌, List, [], ◌∷◌, ◌++◌, map, filter, Option, Some}
use Rattle.std.specs.Prelude.{None, if◌then◌else◌}
use Rattle.std.specs.List.{fold, flat_map}
use Rattle.wl_types.specs.declared.phases.Phase.{Phase}
use Rattle.wl_types.specs.declared.phases.Phase.TheVariants.{Pending}
use Rattle.wl_types.specs.declared.phases.Change.{Change}
use Rattle.wl_types.specs.Phases.{is_end}
use Rattle.wl_codec.specs.declared.reply.Outcome.{Outcome}
use Rattle.wl_codec.specs.declared.reply.Outcome.TheVariants as outcome
use Rattle.wl_session.specs.LastReported.{RequestPhase}
use Rattle.wl_world.specs.declared.requests.Request.{Request}

-- a change comes to the request that it names
abbrev pub with_change : Change → Request → Request
with_change change request = if request.number == change.id then record request { changed = Some change.phase }
    else request

-- each change finds its request, one after another
abbrev pub with_changes : List Change → List Request → List Request
with_changes changes requests = fold (λ requests change. map (with_change change) requests) requests changes

-- a new request waits, which is a change
abbrev pub waiting : ℕ → ℕ → Request
waiting agent number = record { number = number; agent = agent; changed = Some Pending }

-- without those of an agent
abbrev pub without : ℕ → List Request → List Request
without agent requests = filter (λ request. not (request.agent == agent)) requests

-- what an answer makes of the list: a request that was accepted enters it, and an agent that closed has none
abbrev pub after_answer : ℕ → Outcome → List Request → List Request
after_answer agent (outcome.Client client) requests = requests
after_answer agent (outcome.Signal number) requests = requests
after_answer agent (outcome.Request number) requests = requests ++ waiting agent number ∷ []
after_answer agent (outcome.Release answer) requests = requests
after_answer agent (outcome.Abort answer) requests = requests
after_answer agent (outcome.Active active) requests = requests
after_answer agent (outcome.Seen snapshot) requests = requests
after_answer agent outcome.Polled requests = requests
after_answer agent outcome.Closed requests = without agent requests
after_answer agent (outcome.Refused refusal) requests = requests
after_answer agent (outcome.Fault fault) requests = requests
after_answer agent outcome.NotOpen requests = requests
after_answer agent outcome.AlreadyOpen requests = requests
after_answer agent outcome.BadUrl requests = requests
after_answer agent outcome.BadBucket requests = requests

-- what one request has come to, if it changed
abbrev pub observation_of : ℕ → Option Phase → List RequestPhase
observation_of number None = []
observation_of number (Some phase) = (number, phase) ∷ []

-- the changed requests of an agent, in order of number
abbrev pub changed_requests : ℕ → List Request → List RequestPhase
changed_requests agent requests = flat_map (λ request. observation_of request.number request.changed)
    (filter (λ request. request.agent == agent) requests)

abbrev pub is_over : Option Phase → Bool
is_over None = false
is_over (Some phase) = is_end phase

-- a request of the agent that has ended
abbrev pub has_ended : ℕ → Request → Bool
has_ended agent request = request.agent == agent && is_over request.changed

abbrev pub without_change : ℕ → Request → Request
without_change agent request = if request.agent == agent then record request { changed = None } else request

-- the agent's changed requests were collected: those that have ended leave, and none of the others is changed
abbrev pub after_collect : ℕ → List Request → List Request
after_collect agent requests = map (without_change agent) (filter (λ request. not (has_ended agent request)) requests)
