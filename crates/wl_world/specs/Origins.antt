-- The manager of one bucket of an origin, and what an agent's operation makes of it (own; the operations are Web
-- Locks').
use Rattle.std.specs.Prelude.{ℕ, List, [], Option, Some, None, if◌then◌else◌, Bool, true, false}
use Rattle.std.specs.List.{fold}
use Rattle.wl_types.specs.declared.phases.Numbers.{Numbers}
use Rattle.wl_types.specs.declared.words.Kind.{Kind}
use Rattle.wl_types.specs.declared.phases.Phase.{Phase}
use Rattle.wl_types.specs.declared.phases.Phase.TheVariants.{Pending, Granted, Taken, Unavailable, Aborted, Released}
use Rattle.wl_types.specs.declared.phases.Phase.TheVariants.{Stolen}
use Rattle.wl_machine.specs.State.{State, opening}
use Rattle.wl_machine.specs.Step as machine
use Rattle.wl_machine.specs.declared.command.Command.{Command}
use Rattle.wl_machine.specs.declared.command.Command.TheVariants as command
use Rattle.wl_machine.specs.declared.command.Reply.{Reply}
use Rattle.wl_machine.specs.declared.command.Reply.TheVariants as reply
use Rattle.wl_codec.specs.declared.message.Body.{Body}
use Rattle.wl_codec.specs.declared.message.Body.TheVariants as body
use Rattle.wl_codec.specs.declared.reply.Outcome.{Outcome}
use Rattle.wl_codec.specs.declared.reply.Outcome.TheVariants as outcome
use Rattle.wl_session.specs.LastReported.{RequestPhase}
use Rattle.wl_world.specs.declared.requests.Request.{Request}
use Rattle.wl_world.specs.Requests.{with_changes, after_answer, after_collect}

-- the machine's state, and the requests whose ends were not reported
pub record Origin : Type 0 where
  pub state : State
  pub requests : List Request

abbrev pub ones : Numbers
ones = record { agent = 1; request = 1; signal = 1 }

abbrev pub unused : Origin
unused = record { state = opening ones; requests = [] }

-- an origin after an operation, and what the operation answers
pub record Acted : Type 0 where
  pub origin : Origin
  pub outcome : Outcome

-- The machine answers Done to two operations.
abbrev pub done : Body → Outcome
done (body.Active active) = outcome.Active active
done _ = outcome.Closed

-- what is answered for the machine's reply
abbrev pub outcome_of : Body → Reply → Outcome
outcome_of b (reply.Agent number) = outcome.Client (Some number)
outcome_of b (reply.Signal number) = outcome.Signal number
outcome_of b (reply.Request number) = outcome.Request number
outcome_of b (reply.Took answer) = outcome.Polled
outcome_of b (reply.Released answer) = outcome.Release answer
outcome_of b (reply.Aborted answer) = outcome.Abort answer
outcome_of b reply.Done = done b
outcome_of b (reply.Seen snapshot) = outcome.Seen snapshot
outcome_of b (reply.Refused refusal) = outcome.Refused refusal

-- what the machine gave is noted
abbrev pub noting : Origin → ℕ → Body → machine.StepResult → Acted
noting o agent b gives = record {
  origin = record {
    state = gives.state;
    requests = with_changes gives.changes
        (after_answer agent (outcome_of b gives.reply) o.requests);
  };
  outcome = outcome_of b gives.reply;
}

-- the machine's step
unfoldable pub stepped : Origin → ℕ → Body → Command → Acted
stepped o agent b c = noting o agent b (machine.step o.state c)

-- A new agent. The machine numbers it, so 0 stands in for its number, and sees nothing of what it opened, so empty
-- texts stand in for that.
abbrev pub admitted : Origin → Kind → Acted
admitted o kind = stepped o 0 (body.Enter [] kind []) (command.Enter kind)

-- the command of an agent's operation; of an open agent's `enter`, and of `poll`, there is none
abbrev pub command_of : ℕ → Body → Option Command
command_of agent (body.Enter url kind bucket) = None
command_of agent body.Signal = Some (command.NewSignal agent)
command_of agent (body.Request ask) = Some (command.Request agent ask)
command_of agent (body.Release number) = Some (command.Release agent number)
command_of agent (body.Abort number reason) = Some (command.Abort agent number reason)
command_of agent (body.Active active) = Some (command.SetActive agent active)
command_of agent body.Query = Some (command.Query agent)
command_of agent body.Poll = None
command_of agent body.Close = Some (command.Terminate agent)

-- what is answered where there is no command
abbrev pub answer_of : Body → Outcome
answer_of body.Poll = outcome.Polled
answer_of _ = outcome.AlreadyOpen

-- what a command makes of an origin, if there is one
abbrev pub act_by : Option Command → Origin → ℕ → Body → Acted
act_by None o agent b = record { origin = o; outcome = answer_of b }
act_by (Some c) o agent b = stepped o agent b c

-- what an agent's operation makes of its origin
abbrev pub act : Origin → ℕ → Body → Acted
act o agent b = act_by (command_of agent b) o agent b

abbrev pub is_granted : Phase → Bool
is_granted Pending = false
is_granted Granted = true
is_granted Taken = false
is_granted Unavailable = false
is_granted (Aborted reason) = false
is_granted Released = false
is_granted Stolen = false

-- a lock that is granted is taken, as its agent is told of it now
abbrev pub take_observed : State → RequestPhase → State
take_observed s observation =
    if is_granted observation.1 then (machine.step s (command.Take observation.0)).state else s

abbrev pub as_taken : RequestPhase → RequestPhase
as_taken observation = (observation.0, (if is_granted observation.1 then Taken else observation.1))

-- The agent's changed requests are collected: each granted lock among them is taken, in order of number.
unfoldable pub origin_after_collect : ℕ → List RequestPhase → Origin → Origin
origin_after_collect agent changed o = record {
  state = fold take_observed o.state changed;
  requests = after_collect agent o.requests;
}
