-- What the code's values stand for (own).
use Rattle.wl_world.specs.declared.requests.Request.{Request}
use Rattle.std.specs.Prelude.{◌≡◌, ℕ, List, [], Option, Result, Ok, Err}
use Rattle.wl_types.specs.declared.phases.Change.{Change}
use Rattle.wl_types.specs.declared.refusal.Refusal.{Refusal}
use Rattle.wl_types.specs.declared.refusal.Refusal.TheVariants.{Memory}
use Rattle.wl_types.specs.declared.memory.Memory as memory
use Rattle.wl_codec.specs.declared.message.Body.{Body}
use Rattle.wl_codec.specs.declared.reply.Outcome.{Outcome}
use Rattle.wl_codec.specs.declared.reply.Outcome.TheVariants as outcome
use Rattle.wl_machine.specs.State.{State}
use Rattle.wl_machine.specs.declared.command.Command.{Command}
use Rattle.wl_world.specs.Origins.{Origin, Acted, act}
use Rattle.wl_world.specs.Requests.{with_changes, after_answer}
use Rattle.wl_world.specs.Journals.{with_more}
use Rattle.wl_world.specs.Entries.{command_entries}

abbrev pub origin : State → List Request → Origin
origin state requests = record { state = state; requests = requests }

-- an origin of these parts, and an outcome
abbrev pub act_result : State → List Request → Outcome → Acted
act_result state requests outcome = record { origin = origin state requests; outcome = outcome }

abbrev pub act_result_of : Origin → Outcome → Acted
act_result_of o outcome = record { origin = o; outcome = outcome }

-- what an operation with this outcome changed: what has no command, a query and a refusal change nothing
abbrev pub fresh : Outcome → List Change → List Change
fresh (outcome.Seen snapshot) changes = []
fresh outcome.Polled changes = []
fresh outcome.AlreadyOpen changes = []
fresh o changes = changes

-- a refusal changes nothing, and is the outcome where it isn't for want of memory
pub record IsRefused (acts : List Request → Acted) (old new : State) (r : Refusal) : Type 0 where
  pub same : new ≡ old
  pub done : (r ≡ Memory → ⊥) → (requests : List Request) → act_result new requests (outcome.Refused r) ≡ acts requests

-- what a core's call for an operation is, whatever requests there are
abbrev pub Operates : State → ℕ → Body → State → List Change → Result Outcome Refusal → Type 0
Operates old agent b new changes (Ok o) = (requests : List Request)
    → act_result new (with_changes (fresh o changes) (after_answer agent o requests)) o
    ≡ act (origin old requests) agent b
Operates old agent b new changes (Err r) = IsRefused (λ requests. act (origin old requests) agent b) old new r

-- a command has its entry, if any; one that was refused for want of memory has none
abbrev pub Records : State → Option Command → Option ℕ → Option ℕ → Result Outcome Refusal → Type 0
Records state c old new (Ok o) = new ≡ with_more (command_entries state c) old
Records state c old new (Err r) = (r ≡ Memory → ⊥) → new ≡ with_more (command_entries state c) old

-- a refusal other than for want of memory is the outcome
pub record IsRefusalOf (r : Refusal) (o : Outcome) : Type 0 where
  pub is : o ≡ outcome.Refused r
  pub not_memory : r ≡ Memory → ⊥

abbrev pub AnswersRefusal : Refusal → Result Outcome memory.Memory → Type 0
AnswersRefusal r (Ok o) = IsRefusalOf r o
AnswersRefusal r (Err e) = Unit {0}
