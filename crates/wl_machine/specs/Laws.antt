-- Laws of the machine, as statements (own; what restates a section of Web Locks says so). Each is the contract of a
-- public function of the same name.
use Rattle.std.specs.Prelude.{◌≡◌, ◌<◌, ◌≤◌, ◌↔◌, ℕ, Bool, true, false, not, ◌&&◌, ◌==◌, List, [], ◌∷◌, ◌++◌, length}
use Rattle.std.specs.Prelude.{map, filter, if◌then◌else◌}
use Rattle.std.specs.List.{list_any, AllPairs}
use Rattle.wl_types.specs.declared.phases.Numbers.{Numbers}
use Rattle.wl_types.specs.declared.phases.Phase.{Phase}
use Rattle.wl_types.specs.declared.phases.Phase.TheVariants.{Pending}
use Rattle.wl_types.specs.declared.phases.Phase.TheVariants as phase
use Rattle.wl_types.specs.declared.phases.Change.{Change}
use Rattle.wl_types.specs.Phases.{is_move, is_end}
use Rattle.wl_machine.specs.declared.rows.HeldRow.{HeldRow}
use Rattle.wl_machine.specs.declared.rows.PendingRow.{PendingRow}
use Rattle.wl_machine.specs.declared.command.Command.{Command}
use Rattle.wl_machine.specs.declared.command.Command.TheVariants.{Take, Abort}
use Rattle.wl_machine.specs.declared.command.Reply.{Reply}
use Rattle.wl_machine.specs.declared.command.Reply.TheVariants.{Took}
use Rattle.wl_types.specs.declared.answers.TakeAnswer.TheVariants.{Taken}
use Rattle.wl_machine.specs.State.{State, opening}
use Rattle.wl_machine.specs.Grants.{is_exclusive, any_exclusive, is_empty, grants, locks, queue, granted_lock}
use Rattle.wl_machine.specs.Same.{same_state}
use Rattle.wl_machine.specs.Step.{StepResult, step, state_after, is_signal}

-- standard, "grantable": whether a request at the front of its queue may be granted beside these locks of its name
abbrev pub is_grantable : List HeldRow → PendingRow → Bool
is_grantable held request = if is_exclusive request.mode then is_empty held else not (any_exclusive held)

-- standard, "process the lock request queue": one request at a time, from the front
abbrev pub granted_in_turn : List HeldRow → List PendingRow → List PendingRow
granted_in_turn held [] = []
granted_in_turn held (request ∷ requests) =
    if is_grantable held request then request ∷ granted_in_turn (held ++ granted_lock request ∷ []) requests else []

-- one by one, just the granted prefix is granted
abbrev pub GrantsInTurn : Type 0
GrantsInTurn = (held : List HeldRow) (requests : List PendingRow) → granted_in_turn held requests ≡ grants held requests

-- in a reachable state nothing is left to grant
abbrev pub NothingLeftToGrant : Type 0
NothingLeftToGrant = (next : Numbers) (commands : List Command) (name : List ℕ) →
    let s = state_after commands (opening next) in grants (locks name s.held) (queue name s.pending) ≡ []

-- in a reachable state an exclusive lock is the only lock of its name
abbrev pub ExclusiveIsAlone : Type 0
ExclusiveIsAlone = (next : Numbers) (commands : List Command) (name : List ℕ) →
    let s = state_after commands (opening next) in any_exclusive (locks name s.held) ≡ true
    → length (locks name s.held) ≡ 1

-- in a reachable state, of two requests that wait the later has the greater number: a steal is granted in its own step
abbrev pub WaitingNumbersRise : Type 0
WaitingNumbersRise = (next : Numbers) (commands : List Command) →
    AllPairs (λ earlier later. earlier.number < later.number) (state_after commands (opening next)).pending

-- the changes of a run, in order; a take counts as a change
abbrev pub take_changes : Command → Reply → List Change
take_changes (Take id) (Took Taken) = record { id = id; phase = phase.Taken } ∷ []
take_changes command reply = []

abbrev pub all_changes : Command → StepResult → List Change
all_changes command step_result = step_result.changes ++ take_changes command step_result.reply

abbrev pub history : List Command → State → List Change
history [] s = []
history (command ∷ commands) s = let step_result = step s command
    in all_changes command step_result ++ history commands step_result.state

-- the phases that a request comes to
abbrev pub phases_of : ℕ → List Change → List Phase
phases_of id changes = map (λ change. change.phase) (filter (λ change. change.id == id) changes)

-- whether each phase follows from the one before by a move
abbrev pub are_moves : Phase → List Phase → Bool
are_moves from [] = true
are_moves from (to ∷ rest) = is_move from to && are_moves to rest

-- what a run from an opening state brings to a request are moves from Pending
abbrev pub HistoriesAreMoves : Type 0
HistoriesAreMoves = (next : Numbers) (commands : List Command) (id : ℕ) →
    are_moves Pending (phases_of id (history commands (opening next))) ≡ true

-- so a request has at most one end
abbrev pub OneEndAtMost : Type 0
OneEndAtMost = (next : Numbers) (commands : List Command) (id : ℕ) →
    length (filter is_end (phases_of id (history commands (opening next)))) ≤ 1

-- a lock, its taken flag false if its number is among those put aside
abbrev pub without_flag : (ℕ → Bool) → HeldRow → HeldRow
without_flag aside lock = record lock { taken = lock.taken && not (aside lock.number) }

-- a state and an outcome without the flags of the locks put aside
abbrev pub without_flags : (ℕ → Bool) → State → State
without_flags aside s = record s { held = map (without_flag aside) s.held }

abbrev pub step_result_without_flags : (ℕ → Bool) → StepResult → StepResult
step_result_without_flags aside step_result = record step_result { state = without_flags aside step_result.state }

-- whether the command asks for the flag of a lock put aside: it takes the lock, or aborts its signal
abbrev pub asks_for_flag : (ℕ → Bool) → State → Command → Bool
asks_for_flag aside s (Take id) = aside id
asks_for_flag aside s (Abort agent signal reason) =
    list_any (λ lock. aside lock.number && lock.agent == agent && is_signal signal lock.signal) s.held
asks_for_flag aside s command = false

-- states that differ only in the flags of some locks give equal replies and changes, and states that differ only in
-- those flags, for every command that does not ask for such a flag
abbrev pub FlagsPlayNoPart : Type 0
FlagsPlayNoPart = (aside : ℕ → Bool) (s t : State) (command : Command) →
    without_flags aside s ≡ without_flags aside t → asks_for_flag aside s command ≡ false →
    step_result_without_flags aside (step s command) ≡ step_result_without_flags aside (step t command)

-- states compare as the same just where they are equal
abbrev pub SameIsEqual : Type 0
SameIsEqual = (s t : State) → (same_state s t ≡ true) ↔ (s ≡ t)
