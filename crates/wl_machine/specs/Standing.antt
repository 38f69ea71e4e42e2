-- What holds of every state that commands lead to (own). The statements at the end are laws: each is the contract of a
-- public function.
use Rattle.std.specs.Prelude.{◌≡◌, ◌≤◌, ◌==◌, ℕ, Bool, true, false, not, ◌&&◌, ◌||◌, List, [], ◌∷◌, filter, is_some}
use Rattle.std.specs.Prelude.{Option, Some, None}
use Rattle.std.specs.List.{list_any}
use Rattle.wl_types.specs.declared.words.Reason.{Reason}
use Rattle.wl_types.specs.declared.phases.Phase.TheVariants.{Granted, Aborted}
use Rattle.wl_types.specs.declared.phases.Numbers.{Numbers}
use Rattle.wl_machine.specs.declared.command.Command.{Command}
use Rattle.wl_machine.specs.State.{State, opening}
use Rattle.wl_machine.specs.Refusals.{has_agent, has_signal, reason_in, live_count}
use Rattle.wl_machine.specs.Step.{step, abort_step, untaken_numbers}
use Rattle.wl_machine.specs.Laws.{phases_of}
use Rattle.wl_machine.specs.OneMove.{IsNumbered, MovesOnce, is_plain_move, phases_in}

-- whether an abort of the agent's signal would end what is of it. What is of no signal no abort could end
abbrev pub is_abortable_signal : State → ℕ → Option ℕ → Bool
is_abortable_signal s agent None = true
is_abortable_signal s agent (Some signal) = has_agent s agent && has_signal s agent signal
    && not (is_some (reason_in s.signals agent signal))

-- numbers are apart; no more requests are live than are let in; and no aborted signal is left with a request that waits
-- or with a lock that was not taken
pub record IsStanding (s : State) : Type 0 where
  pub numbered : IsNumbered s
  pub few : live_count s ≤ 65536
  pub waiting : filter (λ request. not (is_abortable_signal s request.agent request.signal)) s.pending ≡ []
  pub holding : filter (λ lock. not (lock.taken || is_abortable_signal s lock.agent lock.signal)) s.held ≡ []

-- whether a number is among some
abbrev pub is_in : ℕ → List ℕ → Bool
is_in id numbers = list_any (λ number. number == id) numbers

-- what an abort of a signal without a reason does to the request of a number: the locks that an abort ends are granted,
-- and it ends them; the others it moves as other commands do
pub record AbortsIt (s : State) (agent signal : ℕ) (reason : Reason) (id : ℕ) : Type 0 where
  pub untaken : is_in id (untaken_numbers s agent signal) ≡ true
      → (phases_in s id ≡ Granted ∷ []) × (phases_of id (abort_step s agent signal reason).changes
      ≡ Aborted reason ∷ []) × (phases_in (abort_step s agent signal reason).state id ≡ [])
  pub others : is_in id (untaken_numbers s agent signal) ≡ false
      → MovesOnce is_plain_move (phases_in s id) (phases_of id (abort_step s agent signal reason).changes)
      (phases_in (abort_step s agent signal reason).state id)

abbrev pub AbortEndsUntaken : Type 0
AbortEndsUntaken = (s : State) (agent signal : ℕ) (reason : Reason) (id : ℕ) → IsNumbered s
    → is_some (reason_in s.signals agent signal) ≡ false → AbortsIt s agent signal reason id

-- a state without agents and requests stands, and so does what any command makes of one that stands
abbrev pub OpeningStands : Type 0
OpeningStands = (next : Numbers) → IsStanding (opening next)

abbrev pub StandsAfterEach : Type 0
StandsAfterEach = (s : State) (command : Command) → IsStanding s → IsStanding (step s command).state

-- where an abort of the signal would end nothing, no lock of it is untaken
abbrev pub AbortedHaveNone : Type 0
AbortedHaveNone = (s : State) (agent signal : ℕ) → IsStanding s → is_abortable_signal s agent (Some signal) ≡ false
    → untaken_numbers s agent signal ≡ []
