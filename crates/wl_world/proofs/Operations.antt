-- What an operation gives, from what the machine gave.
use Rattle.std.proofs.Common.{◌≡◌, refl, ap, sym, subst, ◌∙◌, Option, Some, None, List, [], ℕ}
use Rattle.wl_types.specs.Refusals.{refused_or_memory}
use Rattle.wl_types.specs.declared.refusal.Refusal.{Refusal}
use Rattle.wl_types.specs.declared.refusal.Refusal.TheVariants.{Memory}
use Rattle.wl_types.specs.declared.words.Kind.{Kind}
use Rattle.wl_types.specs.declared.phases.Change.{Change}
use Rattle.wl_machine.specs.State.{State}
use Rattle.wl_machine.specs.Step as machine
use Rattle.wl_machine.specs.Refusals.{refusal}
use Rattle.wl_machine.specs.declared.command.Command.{Command}
use Rattle.wl_machine.specs.declared.command.Command.TheVariants as command
use Rattle.wl_machine.specs.declared.command.Reply.{Reply}
use Rattle.wl_machine.specs.declared.command.Reply.TheVariants as reply
use Rattle.wl_codec.specs.declared.message.Body.{Body}
use Rattle.wl_codec.specs.declared.message.Body.TheVariants as body
use Rattle.wl_codec.specs.declared.reply.Outcome.{Outcome}
use Rattle.wl_codec.specs.declared.reply.Outcome.TheVariants as outcome
use Rattle.wl_world.specs.declared.requests.Request.{Request}
use Rattle.wl_world.specs.Requests.{with_changes, after_answer}
use Rattle.wl_world.specs.Origins.{Acted, Origin, act, admitted, stepped, noting, outcome_of}
use Rattle.wl_world.specs.inner.Views.{IsRefused, Operates, AnswersRefusal, act_result, act_result_of, origin}
use Rattle.std.specs.Prelude.{Result, Ok, Err, IfOk, IsErrAnd}
use Rattle.wl_types.specs.declared.infos.Snapshot.{Snapshot}
use Rattle.wl_types.specs.declared.memory.Memory as memory

-- what was accepted, where the outcome is that of the machine's reply
pub accepted : (old : State) (agent : ℕ) (b : Body) (c : Command) (new : State) (answer : Reply) (changes : List Change)
    → machine.Gives old c new answer changes → (requests : List Request)
    → act_result new (with_changes changes (after_answer agent (outcome_of b answer) requests))
    (outcome_of b answer) ≡ stepped (origin old requests) agent b c
accepted old agent b c new answer changes gives requests = unfold stepped in ap (noting (origin old requests) agent b)
    (sym gives)

-- what was refused
pub refused : (old : State) (agent : ℕ) (b : Body) (c : Command) (new : State) (r : Refusal)
    → r ≡ refused_or_memory (refusal old c) → new ≡ old
    → IsRefused (λ requests. stepped (origin old requests) agent b c) old new r
refused old agent b c new r first same = record {
  same = same;
  done = λ not_memory requests. unfold stepped in ap (λ s. act_result s requests (outcome.Refused r))
      same
      ∙ ap (noting (origin old requests) agent b) (sym (by_refusal not_memory (refusal old c) first));
}
  where
    by_refusal : (r ≡ Memory → ⊥) → (found : Option Refusal) → r ≡ refused_or_memory found
        → machine.unless_refused found old c ≡ machine.no_changes old (reply.Refused r)
    by_refusal not_memory (Some other) e = ap (λ r. machine.no_changes old (reply.Refused r)) (sym e)
    by_refusal not_memory None e = absurd (not_memory e)

-- a refusal that is handed on
pub handed_on : (old new : State) (agent : ℕ) (b : Body) (changes : List Change) (result : Result Outcome Refusal)
    (r : Refusal)
    → IsErrAnd result (λ e. e ≡ r) → IsRefused (λ requests. act (origin old requests) agent b) old new r
    → Operates old agent b new changes result
handed_on old new agent b changes (Ok o) r is refusal = absurd is
handed_on old new agent b changes (Err e) r is refusal = subst
    (IsRefused (λ requests. act (origin old requests) agent b) old new) (sym is) refusal

-- the outcome of what was refused
pub refusal_is : (acts : List Request → Acted) (old new : State) (r : Refusal) (result : Result Outcome memory.Memory)
    (requests : List Request)
    → IsRefused acts old new r → AnswersRefusal r result → IfOk result (λ o. act_result new requests o ≡ acts requests)
refusal_is acts old new r (Err e) requests refusal told = tt
refusal_is acts old new r (Ok o) requests refusal told = ap (act_result new requests) told.is
    ∙ refusal.done told.not_memory requests

pub or_memory : (found : Option Refusal) (r : Refusal) → found ≡ Some r → r ≡ refused_or_memory found
or_memory found r e = sym (ap refused_or_memory e)

-- the outcome of what was done, with the requests that its changes found
pub done_is : (acts : List Request → Acted) (new : State) (changes : List Change) (agent : ℕ) (o : Outcome)
    (was requests : List Request)
    → ((requests : List Request) → act_result new (with_changes changes (after_answer agent o requests)) o
    ≡ acts requests) → requests ≡ with_changes changes (after_answer agent o was)
    → act_result new requests o ≡ acts was
done_is acts new changes agent o was requests done is = ap (λ requests. act_result new requests o) is ∙ done was

-- a query changes nothing
pub queried : (old : State) (agent : ℕ) (seen : Snapshot)
    → machine.Gives old (command.Query agent) old (reply.Seen seen) [] → (requests : List Request)
    → act_result old requests (outcome.Seen seen)
    ≡ stepped (origin old requests) agent body.Query (command.Query agent)
queried old agent seen gives = accepted old agent body.Query (command.Query agent) old (reply.Seen seen) [] gives

-- an agent that enters changes no request
pub label_of : (old : State) (kind : Kind) (new : State) (agent : ℕ)
    (changes : List Change)
    → machine.Gives old (command.Enter kind) new (reply.Agent agent) changes → (requests : List Request)
    → act_result new requests (outcome.Client (Some agent))
    ≡ admitted (origin old requests) kind
label_of old kind new agent changes gives requests =
    ap (λ changes. act_result new (with_changes changes requests) (outcome.Client (Some agent)))
    (sym (by_refusal (refusal old (command.Enter kind))) ∙ ap (λ (o : machine.StepResult). o.changes) gives)
    ∙ accepted old 0 (body.Enter [] kind []) (command.Enter kind) new (reply.Agent agent) changes gives requests
  where
    by_refusal : (found : Option Refusal) → (machine.unless_refused found old (command.Enter kind)).changes ≡ []
    by_refusal (Some r) = refl
    by_refusal None = refl

-- the manager that was left
pub origin_in : (result : Result Outcome memory.Memory) (origin : Origin) (a : Acted)
    → IfOk result (λ o. act_result_of origin o ≡ a) → IfOk result (λ o. origin ≡ a.origin)
origin_in (Ok o) origin a is = ap (λ (x : Acted). x.origin) is
origin_in (Err e) origin a is = tt
