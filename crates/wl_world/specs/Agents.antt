-- One line of an agent that is open (own).
use Rattle.std.specs.Prelude.{ℕ, List, [], Some, map, if◌then◌else◌}
use Rattle.wl_codec.specs.declared.message.Body.{Body}
use Rattle.wl_codec.specs.declared.reply.Outcome.{Outcome}
use Rattle.wl_codec.specs.declared.reply.WireReply.{WireReply}
use Rattle.wl_session.specs.Step as session
use Rattle.wl_session.specs.LastReported.{RequestPhase}
use Rattle.wl_world.specs.Requests.{changed_requests}
use Rattle.wl_world.specs.Origins.{Origin, act, origin_after_collect, as_taken}

-- what a line of an agent leaves, and what it is answered
pub record Served : Type 0 where
  pub origin : Origin
  pub session : session.State
  pub outcome : Outcome
  pub reply : WireReply

abbrev pub answering : Origin → session.State → ℕ → Outcome → List RequestPhase → Served
answering o s id outcome observed = record {
  origin = o;
  session = session.after s outcome observed;
  outcome = outcome;
  reply = session.reply s (Some id) outcome observed;
}

-- A reply with notices reports the agent's changed requests. Any other takes and reports nothing.
abbrev pub after_reply : Origin → ℕ → session.State → ℕ → Outcome → Served
after_reply o agent s id outcome =
    if session.carries_notices outcome
    then answering (origin_after_collect agent (changed_requests agent o.requests) o) s id outcome
    (map as_taken (changed_requests agent o.requests))
    else answering o s id outcome []

-- the operation, and then the reply
unfoldable pub serve_result : Origin → ℕ → session.State → ℕ → Body → Served
serve_result o agent s id b = after_reply (act o agent b).origin agent s id (act o agent b).outcome
