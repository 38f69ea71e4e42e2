-- What a peer answers and what it tells, put together from what each of its steps says.
use Rattle.std.proofs.Common.{◌≡◌, subst}
use Rattle.std.specs.Prelude.{◌≢◌, ℕ, List, true, None, All}
use Rattle.wl_types.specs.declared.phases.Phase.TheVariants.{Granted}
use Rattle.wl_codec.specs.Reading.{message_reading}
use Rattle.wl_codec.specs.Replies.{reply_text}
use Rattle.wl_codec.specs.declared.message.Reading.{Reading}
use Rattle.wl_codec.specs.declared.reply.Outcome.{Outcome}
use Rattle.wl_codec.specs.declared.reply.Outcome.TheVariants.{Polled}
use Rattle.wl_session.specs.Planned.{plan_for}
use Rattle.wl_session.specs.Step.{State, reply, after}
use Rattle.wl_session.specs.LastReported.{RequestPhase, IsByNumber, Fits, has_due_notices}
use Rattle.wl_session.specs.declared.plan.Plan.{Plan}
use Rattle.wl_server.specs.Peers.{Answers, PushesText, IsOutcome, plan_of}

-- the plan for what was read is that of the message
planned : (old : State) (message : List ℕ) (reading : Reading) (plan : Plan) → reading ≡ message_reading message
    → plan ≡ plan_for old.is_open reading → plan ≡ plan_of old message
planned old message reading plan read is = subst (λ r. plan ≡ plan_for old.is_open r) read is

pub answers : (old : State) (message text : List ℕ) (new : State) (reading : Reading) (plan : Plan) (outcome : Outcome)
    (observed : List RequestPhase)
    → reading ≡ message_reading message → plan ≡ plan_for old.is_open reading → IsOutcome plan.action outcome
    → IsByNumber observed → All (Fits outcome old.last_reported) observed
    → All (λ observation. observation.1 ≢ Granted) observed
    → text ≡ reply_text (reply old plan.id outcome observed) → new ≡ after old outcome observed
    → Answers old message text new
answers old message text new reading plan outcome observed read is fits by_number fit taken text_is left = record {
  outcome = outcome;
  observed = observed;
  fits = subst (λ p. IsOutcome p.action outcome) (planned old message reading plan read is) fits;
  by_number = by_number;
  fit = fit;
  taken = taken;
  text_is = subst (λ p. text ≡ reply_text (reply old p.id outcome observed)) (planned old message reading plan read is)
      text_is;
  left = left;
}

pub pushes : (old : State) (text : List ℕ) (new : State) (observed : List RequestPhase)
    → IsByNumber observed → All (Fits Polled old.last_reported) observed
    → All (λ observation. observation.1 ≢ Granted) observed → has_due_notices Polled old.last_reported observed ≡ true
    → text ≡ reply_text (reply old None Polled observed) → new ≡ after old Polled observed → PushesText old text new
pushes old text new observed by_number fit taken has_due text_is left = record {
  observed = observed;
  by_number = by_number;
  fit = fit;
  taken = taken;
  has_due = has_due;
  text_is = text_is;
  left = left;
}
