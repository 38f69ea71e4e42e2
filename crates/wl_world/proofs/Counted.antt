-- The machine numbers its requests upwards, so an operation keeps the requests in order.
use Rattle.std.proofs.Common.{◌≡◌, ℕ, ◌≤◌, ◌<◌, List, [], ◌∷◌, refl, ap, sym, subst, ◌∙◌, Bool, true, false, Option}
use Rattle.std.proofs.Common.{Some, None, not, arith}
use Rattle.std.specs.Prelude.{if◌then◌else◌, ◌==◌, ◌&&◌, is_some}
use Rattle.std.specs.List.{fold, list_any}
use Rattle.wl_types.specs.declared.refusal.Refusal.{Refusal}
use Rattle.wl_types.specs.declared.words.Kind.{Kind}
use Rattle.wl_types.specs.declared.phases.Change.{Change}
use Rattle.wl_types.specs.declared.phases.Numbers.{Numbers}
use Rattle.wl_machine.specs.State.{State}
use Rattle.wl_machine.specs.Step as machine
use Rattle.wl_machine.specs.Refusals.{refusal, reason_in}
use Rattle.wl_machine.specs.declared.command.Command.{Command}
use Rattle.wl_machine.specs.declared.command.Command.TheVariants as command
use Rattle.wl_machine.specs.declared.command.Reply.{Reply}
use Rattle.wl_machine.specs.declared.command.Reply.TheVariants as reply
use Rattle.wl_codec.specs.declared.message.Body.{Body}
use Rattle.wl_codec.specs.declared.message.Body.TheVariants as body
use Rattle.wl_codec.specs.declared.reply.Outcome.{Outcome}
use Rattle.wl_session.specs.LastReported.{RequestPhase}
use Rattle.wl_world.specs.declared.requests.Request.{Request}
use Rattle.wl_types.specs.declared.answers.TakeAnswer.TheVariants as took
use Rattle.std.proofs.Common.{map}
use Rattle.wl_world.specs.Requests.{after_answer, after_collect}
use Rattle.wl_world.specs.inner.Requests.{IsRising}
use Rattle.wl_world.specs.Origins.{Origin, Acted, act, admitted, is_granted, outcome_of, stepped}
use Rattle.wl_world.specs.Origins.{take_observed}
use Rattle.wl_world.specs.inner.Views.{act_result_of}
use Rattle.wl_world.proofs.Rising.{added, filtered, higher, with_changes_rising, collect_rising}

-- a new request has a number from low on, and the next is above it
abbrev Counted : ℕ → ℕ → Reply → Type 0
Counted low high (reply.Request n) = (low ≤ n) × (n < high)
Counted low high (reply.Agent n) = low ≤ high
Counted low high (reply.Signal n) = low ≤ high
Counted low high (reply.Took a) = low ≤ high
Counted low high (reply.Released a) = low ≤ high
Counted low high (reply.Aborted a) = low ≤ high
Counted low high reply.Done = low ≤ high
Counted low high (reply.Seen s) = low ≤ high
Counted low high (reply.Refused r) = low ≤ high

abbrev IsCounted : State → machine.StepResult → Type 0
IsCounted s out = Counted s.next.request out.state.next.request out.reply

either : (s : State) (c : Bool) (a b : machine.StepResult) → IsCounted s a → IsCounted s b
    → IsCounted s (if c then a else b)
either s true a b x y = x
either s false a b x y = y

accepted_counted : (s : State) (c : Command) → IsCounted s (machine.accepted s c)
accepted_counted s (command.Enter kind) = omega arith
accepted_counted s (command.SetActive agent active) = omega arith
accepted_counted s (command.NewSignal agent) = omega arith
accepted_counted s (command.Request agent ask) =
    either s ask.steal _ _ (omega arith, omega arith) (either s
    (ask.if_available && not (machine.available s (machine.new_request s agent ask))) _ _ (omega arith, omega arith)
    (omega arith, omega arith))
accepted_counted s (command.Take id) = either s (list_any (machine.is_untaken id) s.held) _ _ (omega arith)
    (omega arith)
accepted_counted s (command.Release agent id) = either s (list_any (machine.is_lock_of agent id) s.held) _ _
    (omega arith) (omega arith)
accepted_counted s (command.Abort agent signal reason) = either s (is_some (reason_in s.signals agent signal)) _ _
    (omega arith) (omega arith)
accepted_counted s (command.Terminate agent) = omega arith
accepted_counted s (command.Query agent) = omega arith

step_counted : (s : State) (c : Command) → IsCounted s (machine.step s c)
step_counted s c = go (refusal s c)
  where
    go : (r : Option Refusal) → IsCounted s (machine.unless_refused r s c)
    go None = accepted_counted s c
    go (Some r) = omega arith

-- a request that was accepted is newer than those that were there
pub newest : (s new : State) (c : Command) (n : ℕ) (changes : List Change)
    → machine.Gives s c new (reply.Request n) changes
    → (requests : List Request) → IsRising 0 s.next.request requests → IsRising 0 n requests
newest s new c n changes gives requests r =
    let counted : IsCounted s (record { state = new; reply = reply.Request n; changes = changes }) =
    subst (IsCounted s) gives (step_counted s c) in
    higher 0 s.next.request n requests counted.0 r

done_rising : (b : Body) (agent low high : ℕ) (requests : List Request) → low ≤ high → IsRising 0 low requests
    → IsRising 0 high (after_answer agent (outcome_of b reply.Done) requests)
done_rising (body.Enter url kind bucket) agent low high requests le r =
    higher 0 low high _ le (filtered (λ request. not (request.agent == agent)) 0 low requests r)
done_rising body.Signal agent low high requests le r = higher 0 low high _ le
    (filtered (λ request. not (request.agent == agent)) 0 low requests r)
done_rising (body.Request ask) agent low high requests le r =
    higher 0 low high _ le (filtered (λ request. not (request.agent == agent)) 0 low requests r)
done_rising (body.Release n) agent low high requests le r =
    higher 0 low high _ le (filtered (λ request. not (request.agent == agent)) 0 low requests r)
done_rising (body.Abort n reason) agent low high requests le r =
    higher 0 low high _ le (filtered (λ request. not (request.agent == agent)) 0 low requests r)
done_rising (body.Active active) agent low high requests le r = higher 0 low high requests le r
done_rising body.Query agent low high requests le r = higher 0 low high _ le
    (filtered (λ request. not (request.agent == agent)) 0 low requests r)
done_rising body.Poll agent low high requests le r = higher 0 low high _ le
    (filtered (λ request. not (request.agent == agent)) 0 low requests r)
done_rising body.Close agent low high requests le r = higher 0 low high _ le
    (filtered (λ request. not (request.agent == agent)) 0 low requests r)

listed_rising : (answer : Reply) (b : Body) (agent low high : ℕ) (requests : List Request) → Counted low high answer
    → IsRising 0 low requests → IsRising 0 high (after_answer agent (outcome_of b answer) requests)
listed_rising (reply.Request n) b agent low high requests (from, below) r =
    added 0 low high requests _ (omega arith) from below r
listed_rising (reply.Agent n) b agent low high requests le r = higher 0 low high requests le r
listed_rising (reply.Signal n) b agent low high requests le r = higher 0 low high requests le r
listed_rising (reply.Took a) b agent low high requests le r = higher 0 low high requests le r
listed_rising (reply.Released a) b agent low high requests le r = higher 0 low high requests le r
listed_rising (reply.Aborted a) b agent low high requests le r = higher 0 low high requests le r
listed_rising reply.Done b agent low high requests le r = done_rising b agent low high requests le r
listed_rising (reply.Seen s) b agent low high requests le r = higher 0 low high requests le r
listed_rising (reply.Refused x) b agent low high requests le r = higher 0 low high requests le r

-- an origin whose requests are in order
abbrev pub InOrder : Origin → Type 0
InOrder o = IsRising 0 o.state.next.request o.requests

stepped_in_order : (o : Origin) (agent : ℕ) (b : Body) (c : Command) → InOrder o → InOrder (stepped o agent b c).origin
stepped_in_order o agent b c r =
    unfold stepped in with_changes_rising 0 (machine.step o.state c).state.next.request
    (machine.step o.state c).changes (after_answer agent (outcome_of b (machine.step o.state c).reply)
    o.requests)
    (listed_rising (machine.step o.state c).reply b agent o.state.next.request
    (machine.step o.state c).state.next.request o.requests (step_counted o.state c) r)

act_in_order : (o : Origin) (agent : ℕ) (b : Body) → InOrder o → InOrder (act o agent b).origin
act_in_order o agent (body.Enter url kind bucket) r = r
act_in_order o agent body.Signal r = stepped_in_order o agent body.Signal _ r
act_in_order o agent (body.Request ask) r = stepped_in_order o agent (body.Request ask) _ r
act_in_order o agent (body.Release n) r = stepped_in_order o agent (body.Release n) _ r
act_in_order o agent (body.Abort n reason) r = stepped_in_order o agent (body.Abort n reason) _ r
act_in_order o agent (body.Active active) r = stepped_in_order o agent (body.Active active) _ r
act_in_order o agent body.Query r = stepped_in_order o agent body.Query _ r
act_in_order o agent body.Poll r = r
act_in_order o agent body.Close r = stepped_in_order o agent body.Close _ r

-- what was done keeps the order
pub acted_in_order : (old new : Origin) (agent : ℕ) (b : Body) (o : Outcome) → act_result_of new o ≡ act old agent b
    → InOrder old → InOrder new
acted_in_order old new agent b o is r = subst (λ (x : Acted). InOrder x.origin) (sym is) (act_in_order old agent b r)

pub opened_in_order : (old new : Origin) (kind : Kind) (o : Outcome) → act_result_of new o ≡ admitted old kind
    → InOrder old → InOrder new
opened_in_order old new kind o is r = subst (λ (x : Acted). InOrder x.origin) (sym is)
    (stepped_in_order old 0 (body.Enter [] kind []) (command.Enter kind) r)

-- a take numbers nothing
take_next : (s : State) (observation : RequestPhase) → (take_observed s observation).next ≡ s.next
take_next s observation = granted (is_granted observation.1)
  where
    untaken : (c : Bool) → (if c then machine.no_changes
        (record s { held = map (machine.with_taken observation.0) s.held }) (reply.Took took.Taken)
        else machine.no_changes s (reply.Took took.NotGranted)).state.next ≡ s.next
    untaken true = refl
    untaken false = refl

    granted : (c : Bool) → (if c then (machine.step s (command.Take observation.0)).state else s).next ≡ s.next
    granted true = untaken (list_any (machine.is_untaken observation.0) s.held)
    granted false = refl

takes_next : (s : State) (observed : List RequestPhase) → (fold take_observed s observed).next ≡ s.next
takes_next s [] = refl
takes_next s (observation ∷ observed) = takes_next (take_observed s observation) observed
    ∙ take_next s observation

pub collect_in_order : (agent : ℕ) (s t : State) (observed : List RequestPhase) (old new : List Request)
    → t ≡ fold take_observed s observed → new ≡ after_collect agent old
    → IsRising 0 s.next.request old → IsRising 0 t.next.request new
collect_in_order agent s t observed old new is mark r =
    subst (λ (n : Numbers). IsRising 0 n.request new) (sym (ap (λ (s : State). s.next) is
    ∙ takes_next s observed))
    (subst (IsRising 0 s.next.request) (sym mark) (collect_rising agent 0 s.next.request old r))
