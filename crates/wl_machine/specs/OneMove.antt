-- The phases of requests in a state, and how one command moves them (own). The statements at the end are laws: each is
-- the contract of a public function.
use Rattle.std.specs.Prelude.{◌≡◌, ◌⊎◌, ◌≤◌, ◌==◌, ◌++◌, ℕ, Bool, true, false, List, [], ◌∷◌, length, map, filter}
use Rattle.std.specs.Prelude.{if◌then◌else◌}
use Rattle.wl_types.specs.Phases.{is_end, is_move}
use Rattle.wl_types.specs.declared.phases.Phase.{Phase}
use Rattle.wl_types.specs.declared.phases.Phase.TheVariants.{Pending, Granted, Taken, Aborted}
use Rattle.wl_machine.specs.declared.rows.HeldRow.{HeldRow}
use Rattle.wl_machine.specs.declared.rows.PendingRow.{PendingRow}
use Rattle.wl_machine.specs.declared.command.Command.{Command}
use Rattle.wl_machine.specs.declared.command.Command.TheVariants.{Request, Take, Abort}
use Rattle.wl_machine.specs.State.{State}
use Rattle.wl_machine.specs.Step.{step, accepted}
use Rattle.wl_machine.specs.Laws.{phases_of}

abbrev pub lock_phase : HeldRow → Phase
lock_phase lock = if lock.taken then Taken else Granted

-- the phases of the locks of this number
abbrev pub held_phases : ℕ → List HeldRow → List Phase
held_phases id held = map lock_phase (filter (λ lock. lock.number == id) held)

-- the phases of the requests of this number that wait
abbrev pub pending_phases : ℕ → List PendingRow → List Phase
pending_phases id pending = map (λ request. Pending) (filter (λ request. request.number == id) pending)

-- the phases of the locks and requests of this number
abbrev pub phases_in : State → ℕ → List Phase
phases_in s id = held_phases id s.held ++ pending_phases id s.pending

-- what a phase leaves in the state: nothing where it is an end
abbrev pub live : Phase → List Phase
live phase = if is_end phase then [] else phase ∷ []

-- a request stays as it is, or makes one move that the table has
abbrev pub MovesOnce : (Phase → Phase → Bool) → List Phase → List Phase → List Phase → Type 0
MovesOnce table before changes after =
    ((changes ≡ []) × (after ≡ before)) ⊎ ((from to : Phase) × (before ≡ from ∷ []) × (changes ≡ to ∷ [])
    × (table from to ≡ true) × (after ≡ live to))

-- each number is that of one request at most, and below the next one
pub record IsNumbered (s : State) : Type 0 where
  pub one : (id : ℕ) → length (phases_in s id) ≤ 1
  pub below : (id : ℕ) → s.next.request ≤ id → phases_in s id ≡ []

-- the moves of commands that neither take nor abort: none to Taken, and to Aborted from Pending alone
abbrev pub is_plain_move : Phase → Phase → Bool
is_plain_move Granted (Aborted reason) = false
is_plain_move from Taken = false
is_plain_move from to = is_move from to

-- the moves that a command may make
abbrev pub table_of : Command → Phase → Phase → Bool
table_of (Abort agent signal reason) = is_move
table_of command = is_plain_move

-- the request that a command adds, pending
abbrev pub added_phases : State → Command → ℕ → List Phase
added_phases s (Request agent ask) id = if s.next.request == id then Pending ∷ [] else []
added_phases s command id = []

abbrev pub is_take : Command → Bool
is_take (Take id) = true
is_take command = false

abbrev pub taken_from : Phase → Phase
taken_from Granted = Taken
taken_from phase = phase

-- a command that nothing refuses, but a take, moves each request once at most
abbrev pub RequestsMoveOnce : Type 0
RequestsMoveOnce = (s : State) (command : Command) (id : ℕ) → IsNumbered s → is_take command ≡ false
    → MovesOnce (table_of command) (phases_in s id ++ added_phases s command id)
    (phases_of id (accepted s command).changes) (phases_in (accepted s command).state id)

-- numbers stay apart, and below the next one
abbrev pub NumbersStayApart : Type 0
NumbersStayApart = (s : State) (command : Command) → IsNumbered s → IsNumbered (step s command).state

-- a take makes its request's granted lock a taken one, and no other
abbrev pub TakeTakesOne : Type 0
TakeTakesOne = (s : State) (taken id : ℕ) → phases_in (step s (Take taken)).state id
    ≡ (if id == taken then map taken_from (phases_in s id) else phases_in s id)
