-- How many entries a journal has had, from what the core says of each call.
use Rattle.std.proofs.Common.{◌≡◌, ◌+◌, ℕ, refl, ap, sym, subst, ◌∙◌, Option, Some, None, List, [], Bool, true, false}
use Rattle.std.proofs.Common.{arith}
use Rattle.std.specs.Prelude.{Result, Ok, Err, OnOk, IsErrAnd, if◌then◌else◌}
use Rattle.wl_types.specs.Refusals.{refused_or_memory}
use Rattle.wl_types.specs.declared.refusal.Refusal.{Refusal}
use Rattle.wl_types.specs.declared.refusal.Refusal.TheVariants.{Memory}
use Rattle.wl_types.specs.declared.phases.Change.{Change}
use Rattle.wl_types.specs.declared.memory.Memory as memory
use Rattle.wl_types.specs.declared.infos.Snapshot.{Snapshot}
use Rattle.wl_machine.specs.State.{State}
use Rattle.wl_machine.specs.Step as machine
use Rattle.wl_machine.specs.Recorded.{is_recorded, with_entry}
use Rattle.wl_machine.specs.Refusals.{refusal}
use Rattle.wl_machine.specs.declared.command.Command.{Command}
use Rattle.wl_machine.specs.declared.command.Reply.{Reply}
use Rattle.wl_machine.specs.declared.command.Reply.TheVariants as reply
use Rattle.wl_codec.specs.declared.reply.Outcome.{Outcome}
use Rattle.wl_session.specs.LastReported.{RequestPhase}
use Rattle.wl_world.specs.Entries.{command_entries, take_entries}
use Rattle.wl_world.specs.Journals.{with_more}
use Rattle.wl_world.specs.inner.Views.{AnswersRefusal, Records}

pub no_more : (count : Option ℕ) → count ≡ with_more 0 count
no_more None = refl
no_more (Some n) = ap Some (omega arith)

pub more_twice : (m n : ℕ) (count : Option ℕ) → with_more n (with_more m count) ≡ with_more (m + n) count
more_twice m n None = refl
more_twice m n (Some count) = ap Some (omega arith)

recorded_or_not : (c : Bool) (answer : Reply) (count : Option ℕ) → is_recorded answer ≡ c
    → with_entry answer count ≡ with_more (if c then 1 else 0) count
recorded_or_not c answer None e = refl
recorded_or_not true answer (Some n) e = ap (λ recorded. Some (if recorded then n + 1 else n)) e
recorded_or_not false answer (Some n) e = ap (λ recorded. Some (if recorded then n + 1 else n)) e
    ∙ ap Some (omega arith)

-- a command that the machine accepted
pub entry : (s : State) (c : Command) (new : State) (answer : Reply) (changes : List Change) (before after : Option ℕ)
    → machine.Gives s c new answer changes → after ≡ with_entry answer before
    → after ≡ with_more (command_entries s (Some c)) before
entry s c new answer changes before after gives is =
    is ∙ recorded_or_not (is_recorded answer) answer before refl
    ∙ ap (λ (gave : machine.StepResult). with_more (if is_recorded gave.reply then 1 else 0) before) (sym gives)

-- one that it refused
pub no_entry : (s : State) (c : Command) (r : Refusal) (before after : Option ℕ) → r ≡ refused_or_memory (refusal s c)
    → after ≡ before
    → (r ≡ Memory → ⊥) → after ≡ with_more (command_entries s (Some c)) before
no_entry s c r before after first same not_memory = same ∙ by_refusal (refusal s c) first
  where
    by_refusal : (found : Option Refusal) → r ≡ refused_or_memory found
        → before ≡ with_more (if is_recorded (machine.unless_refused found s c).reply then 1 else 0) before
    by_refusal (Some other) e = no_more before
    by_refusal None e = absurd (not_memory e)

-- a query
pub query_entry : (s : State) (c : Command) (seen : Snapshot) (count : Option ℕ)
    → machine.Gives s c s (reply.Seen seen) [] → count ≡ with_more (command_entries s (Some c)) count
query_entry s c seen count gives = entry s c s (reply.Seen seen) [] count count gives (unrecorded count)
  where
    unrecorded : (count : Option ℕ) → count ≡ with_entry (reply.Seen seen) count
    unrecorded None = refl
    unrecorded (Some n) = refl

-- a refusal that is handed on
pub entry_handed_on : (s : State) (c : Option Command) (before after : Option ℕ) (result : Result Outcome Refusal)
    (r : Refusal)
    → IsErrAnd result (λ e. e ≡ r) → ((r ≡ Memory → ⊥) → after ≡ with_more (command_entries s c) before)
    → Records s c before after result
entry_handed_on s c before after (Ok o) r is none = absurd is
entry_handed_on s c before after (Err e) r is none = subst (λ r. (r ≡ Memory → ⊥)
    → after ≡ with_more (command_entries s c) before) (sym is) none

-- .. and is answered, where it isn't for want of memory
pub if_answered : (r : Refusal) (result : Result Outcome memory.Memory) (P : Type 0) → AnswersRefusal r result
    → ((r ≡ Memory → ⊥) → P) → OnOk result P
if_answered r (Ok o) P answers p = p answers.not_memory
if_answered r (Err e) P answers p = tt

-- nothing is left to be taken
pub none_left : (s : State) (rest : List RequestPhase) (count : Option ℕ) → rest ≡ []
    → count ≡ with_more (take_entries s rest) count
none_left s rest count none = no_more count ∙ sym (ap (λ rest. with_more (take_entries s rest) count) none)
