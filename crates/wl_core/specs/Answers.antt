-- What a core answers to one command, and to a list of them (own).
use Rattle.std.specs.Prelude.{◌≡◌, Bool, true, false, List, None, if◌then◌else◌}
use Rattle.wl_types.specs.declared.refusal.Refusal.{Refusal}
use Rattle.wl_types.specs.declared.refusal.Refusal.TheVariants as refusals
use Rattle.wl_types.specs.declared.phases.Change.{Change}
use Rattle.wl_machine.specs.declared.command.Command.{Command}
use Rattle.wl_machine.specs.declared.command.Command.TheVariants.{Query}
use Rattle.wl_machine.specs.declared.command.Reply.{Reply}
use Rattle.wl_machine.specs.declared.command.Reply.TheVariants.{Refused}
use Rattle.wl_machine.specs.State.{State, Content}
use Rattle.wl_machine.specs.Refusals.{refusal}
use Rattle.wl_machine.specs.Step.{StepResult, step, no_changes}

abbrev pub is_memory_refusal : Refusal → Bool
is_memory_refusal refusals.Memory = true
is_memory_refusal _ = false

-- a core as contracts see it
abbrev pub content_of : {C : Type 0} → (C → State) → (C → List Change) → C → Content
content_of state recent core = record { state = state core; recent = recent core }

-- whether the reply says that memory was refused
abbrev pub is_memory : Reply → Bool
is_memory (Refused refusal) = is_memory_refusal refusal
is_memory _ = false

-- what is done: nothing where memory was refused, else the machine's step
abbrev pub step_result : Reply → State → Command → StepResult
step_result reply s command = if is_memory reply then no_changes s reply else step s command

-- the changes that a core tells after a command: a query leaves those of the call before
abbrev pub recent_after : Command → List Change → List Change → List Change
recent_after (Query agent) before changes = before
recent_after command before changes = changes

-- from the old content the command gives this reply and the new content; memory is refused only where the machine
-- refuses nothing
pub record Answers (old : Content) (command : Command) (new : Content) (reply : Reply) : Type 0 where
  pub reply_is : reply ≡ (step_result reply old.state command).reply
  pub state_is : new.state ≡ (step_result reply old.state command).state
  pub recent_is : new.recent ≡ recent_after command old.recent (step_result reply old.state command).changes
  pub last : is_memory reply ≡ true → refusal old.state command ≡ None
