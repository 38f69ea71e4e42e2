-- What agents' calls record, and how they may be refused (own).
use Rattle.std.specs.Prelude.{◌≡◌, ◌⊎◌, ℕ, Bool, true, false, Some}
use Rattle.wl_types.specs.declared.refusal.Refusal.{Refusal}
use Rattle.wl_types.specs.declared.refusal.Refusal.TheVariants.{Memory}
use Rattle.wl_machine.specs.State.{State}
use Rattle.wl_machine.specs.Refusals.{refusal}
use Rattle.wl_machine.specs.declared.command.Command.{Command}
use Rattle.wl_types.specs.declared.answers.ReleaseAnswer.{ReleaseAnswer}
use Rattle.wl_types.specs.declared.answers.ReleaseAnswer.TheVariants.{Released, NotHeld}
use Rattle.wl_types.specs.declared.answers.AbortAnswer.{AbortAnswer}
use Rattle.wl_types.specs.declared.answers.AbortAnswer.TheVariants.{Done, AlreadyAborted}

abbrev pub is_released : ReleaseAnswer → Bool
is_released Released = true
is_released NotHeld = false

-- the entries of an abort, beside those of the takes that it found
abbrev pub entries_of_abort : AbortAnswer → ℕ
entries_of_abort Done = 1
entries_of_abort AlreadyAborted = 0

-- in some state the machine refuses the command so, or memory was refused
abbrev pub MayRefuse : Command → Refusal → Type 0
MayRefuse command r = (r ≡ Memory) ⊎ ((s : State) × (refusal s command ≡ Some r))
