-- What is to be done for a message (own).
use Rattle.std.specs.Prelude.{Bool, true, false, Some}
use Rattle.wl_codec.specs.declared.message.Body.{Body}
use Rattle.wl_codec.specs.declared.message.Body.TheVariants as body
use Rattle.wl_codec.specs.declared.message.Reading.{Reading}
use Rattle.wl_codec.specs.declared.message.Reading.TheVariants.{Good, Bad}
use Rattle.wl_codec.specs.declared.reply.Outcome.TheVariants.{Fault, NotOpen, AlreadyOpen}
use Rattle.wl_session.specs.declared.plan.Action.{Action}
use Rattle.wl_session.specs.declared.plan.Action.TheVariants.{Act, Answer}
use Rattle.wl_session.specs.declared.plan.Plan.{Plan}

-- A session that is open can't be opened, and one that isn't can do nothing else.
abbrev pub action_for : Bool → Body → Action
action_for true (body.Enter url kind bucket) = Answer AlreadyOpen
action_for false (body.Enter url kind bucket) = Act (body.Enter url kind bucket)
action_for true b = Act b
action_for false b = Answer NotOpen

abbrev pub plan_for : Bool → Reading → Plan
plan_for is_open (Good m) = record { id = Some m.id; action = action_for is_open m.body }
plan_for is_open (Bad id fault) = record { id = id; action = Answer (Fault fault) }
