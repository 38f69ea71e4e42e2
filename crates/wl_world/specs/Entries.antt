-- How many entries the lines of a script add to the journal of a manager (own): one for each command that the machine
-- accepted and that a journal keeps.
use Rattle.std.specs.Prelude.{ℕ, ◌+◌, List, [], ◌∷◌, Option, Some, None, if◌then◌else◌}
use Rattle.wl_origin.specs.declared.manager_key.ManagerKey.{ManagerKey}
use Rattle.wl_machine.specs.State.{State}
use Rattle.wl_machine.specs.Step as machine
use Rattle.wl_machine.specs.Recorded.{is_recorded}
use Rattle.wl_machine.specs.declared.command.Command.{Command}
use Rattle.wl_machine.specs.declared.command.Command.TheVariants as command
use Rattle.wl_codec.specs.declared.message.Body.{Body}
use Rattle.wl_codec.specs.declared.message.Body.TheVariants as body
use Rattle.wl_codec.specs.declared.message.Line.{Line}
use Rattle.wl_codec.specs.declared.message.Line.TheVariants.{Good, Bad}
use Rattle.wl_codec.specs.Reading.{line_reading}
use Rattle.wl_session.specs.LastReported.{RequestPhase}
use Rattle.wl_session.specs.Step as session
use Rattle.wl_world.specs.declared.label.Label.{Label}
use Rattle.wl_world.specs.declared.label.Label.TheVariants.{Agent, Opaque}
use Rattle.wl_world.specs.Requests.{changed_requests}
use Rattle.wl_world.specs.Origins.{Origin, Acted, act, command_of, is_granted, take_observed}
use Rattle.wl_world.specs.Labels.{Realm}
use Rattle.wl_world.specs.World.{World, next}
use Rattle.wl_world.specs.Isolation.{is_at}

-- a command has an entry where its reply is recorded; where there is no command there is none
abbrev pub command_entries : State → Option Command → ℕ
command_entries s None = 0
command_entries s (Some c) = if is_recorded (machine.step s c).reply then 1 else 0

-- the take of what an agent is told, if it is a grant
abbrev pub take_of : RequestPhase → Option Command
take_of observation = if is_granted observation.1 then Some (command.Take observation.0) else None

-- the takes of all that it is told, in order of number
abbrev pub take_entries : State → List RequestPhase → ℕ
take_entries s [] = 0
take_entries s (observation ∷ observed) =
    command_entries s (take_of observation) + take_entries (take_observed s observation) observed

-- a reply with notices tells an agent of its changed requests
abbrev pub reply_entries : ℕ → Acted → ℕ
reply_entries agent a =
    if session.carries_notices a.outcome
    then take_entries a.origin.state (changed_requests agent a.origin.requests)
    else 0

-- an agent's line: its operation, and then its reply
abbrev pub agent_entries : Origin → ℕ → Body → ℕ
agent_entries o agent b = command_entries o.state (command_of agent b) + reply_entries agent (act o agent b)

-- an unopened label's line: a new agent
abbrev pub new_agent_entries : Origin → Body → ℕ
new_agent_entries o (body.Enter url kind bucket) = command_entries o.state (Some (command.Enter kind))
new_agent_entries o b = 0

-- a line of a label, at its manager
abbrev pub label_entries : Origin → Option Label → Body → ℕ
label_entries o None b = new_agent_entries o b
label_entries o (Some (Agent key n s)) b = agent_entries o n b
label_entries o (Some (Opaque kind active)) b = 0

-- a line of a label, at the manager of a key
abbrev pub entries_at : ManagerKey → Realm → Option Label → Body → ℕ
entries_at k realm label b = if is_at k label b then label_entries (realm k) label b else 0

-- a line
abbrev pub line_entries : ManagerKey → World → Line → ℕ
line_entries k w (Bad id fault) = 0
line_entries k w (Good name message) = entries_at k w.realm (w.labels name) message.body

-- the lines of a script
abbrev pub script_entries : ManagerKey → World → List (List ℕ) → ℕ
script_entries k w [] = 0
script_entries k w (line ∷ lines) = line_entries k w (line_reading line) + script_entries k (next w line) lines
