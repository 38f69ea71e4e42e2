-- What every command keeps holds after a run.
use Rattle.std.proofs.Common.{Bool, true, false, cond, List, [], ◌∷◌}
use Rattle.std.specs.Prelude.{Option, Some, None}
use Rattle.wl_types.specs.declared.refusal.Refusal.{Refusal}
use Rattle.wl_machine.specs.declared.command.Command.{Command}
use Rattle.wl_machine.specs.State.{State}
use Rattle.wl_machine.specs.Refusals.{refusal}
use Rattle.wl_machine.specs.Step.{StepResult, step, accepted, unless_refused, state_after}

after_step : (P : State → Type 0) → ((s : State) (command : Command) → P s → P (accepted s command).state)
    → (s : State) (command : Command) (o : Option Refusal) → P s → P (unless_refused o s command).state
after_step P keeps s command None good = keeps s command good
after_step P keeps s command (Some refusal) good = good

pub after_run : (P : State → Type 0) → ((s : State) (command : Command) → P s → P (accepted s command).state)
    → (commands : List Command) (s : State) → P s → P (state_after commands s)
after_run P keeps [] s good = good
after_run P keeps (command ∷ commands) s good = after_run P keeps commands (step s command).state
    (after_step P keeps s command (refusal s command) good)

-- of two outcomes
pub either : (P : State → Type 0) (b : Bool) (x y : StepResult) → P x.state → P y.state → P (cond b x y).state
either P true x y one two = one
either P false x y one two = two
