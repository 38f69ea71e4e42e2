-- What an agent behind a connection answers (own).
use Rattle.std.specs.Prelude.{◌≡◌, ◌≢◌, ℕ, List, true, None, All}
use Rattle.wl_types.specs.declared.phases.Phase.TheVariants.{Granted}
use Rattle.wl_types.specs.declared.refusal.Refusal.TheVariants as refusal
use Rattle.wl_codec.specs.Reading.{message_reading}
use Rattle.wl_codec.specs.Replies.{reply_text}
use Rattle.wl_codec.specs.declared.message.Body.{Body}
use Rattle.wl_codec.specs.declared.message.Body.TheVariants as body
use Rattle.wl_codec.specs.declared.reply.Outcome.{Outcome}
use Rattle.wl_codec.specs.declared.reply.Outcome.TheVariants as outcome
use Rattle.wl_session.specs.Planned.{plan_for}
use Rattle.wl_session.specs.Step.{State, reply, after}
use Rattle.wl_session.specs.LastReported.{RequestPhase, IsByNumber, Fits, has_due_notices}
use Rattle.wl_session.specs.declared.plan.Action.{Action}
use Rattle.wl_session.specs.declared.plan.Action.TheVariants.{Act, Answer}
use Rattle.wl_session.specs.declared.plan.Plan.{Plan}

-- an outcome of the operation itself, or a refusal that a reply can tell
abbrev pub IsOutcomeOf : Body → Outcome → Type 0
IsOutcomeOf b (outcome.Refused r) = r ≢ refusal.Memory
IsOutcomeOf (body.Enter url kind bucket) (outcome.Client number) = Unit {0}
IsOutcomeOf (body.Enter url kind bucket) outcome.BadUrl = Unit {0}
IsOutcomeOf (body.Enter url kind bucket) outcome.BadBucket = Unit {0}
IsOutcomeOf body.Signal (outcome.Signal number) = Unit {0}
IsOutcomeOf (body.Request ask) (outcome.Request number) = Unit {0}
IsOutcomeOf (body.Release number) (outcome.Release answer) = Unit {0}
IsOutcomeOf (body.Abort signal reason) (outcome.Abort answer) = Unit {0}
IsOutcomeOf (body.Active active) (outcome.Active now) = now ≡ active
IsOutcomeOf body.Query (outcome.Seen snapshot) = Unit {0}
IsOutcomeOf body.Poll outcome.Polled = Unit {0}
IsOutcomeOf body.Close outcome.Closed = Unit {0}
IsOutcomeOf b o = ⊥

-- what is planned as an answer is the outcome, and what is to be done has one of its own
abbrev pub IsOutcome : Action → Outcome → Type 0
IsOutcome (Answer planned) o = o ≡ planned
IsOutcome (Act b) o = IsOutcomeOf b o

abbrev pub plan_of : State → List ℕ → Plan
plan_of s message = plan_for s.is_open (message_reading message)

-- The text is the session's reply to the message, by its id, an outcome of its own, and what was found of the requests,
-- which fits what they were told of: grants were taken first.
pub record Answers (old : State) (message text : List ℕ) (new : State) : Type 0 where
  pub outcome : Outcome
  pub observed : List RequestPhase
  pub fits : IsOutcome (plan_of old message).action outcome
  pub by_number : IsByNumber observed
  pub fit : All (Fits outcome old.last_reported) observed
  pub taken : All (λ observation. observation.1 ≢ Granted) observed
  pub text_is : text ≡ reply_text (reply old (plan_of old message).id outcome observed)
  pub left : new ≡ after old outcome observed

-- The text is the reply to a poll that nobody sent, without an id, and of what was found of the requests, which fits
-- what they were told of, something is due a notice: grants were taken first.
pub record PushesText (old : State) (text : List ℕ) (new : State) : Type 0 where
  pub observed : List RequestPhase
  pub by_number : IsByNumber observed
  pub fit : All (Fits outcome.Polled old.last_reported) observed
  pub taken : All (λ observation. observation.1 ≢ Granted) observed
  pub has_due : has_due_notices outcome.Polled old.last_reported observed ≡ true
  pub text_is : text ≡ reply_text (reply old None outcome.Polled observed)
  pub left : new ≡ after old outcome.Polled observed
