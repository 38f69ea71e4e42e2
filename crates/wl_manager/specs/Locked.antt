-- What lies under a manager's lock, as contracts see it, and what holds of it whenever the lock is free (own).
use Rattle.std.specs.Prelude.{◌≡◌, ℕ, ◌+◌, ◌^◌, ◌≤◌, Bool, true, List, [], ◌∷◌, ◌++◌, length, filter}
use Rattle.wl_types.specs.Phases.{is_end}
use Rattle.wl_types.specs.declared.phases.Phase.{Phase}
use Rattle.wl_types.specs.declared.phases.Change.{Change}
use Rattle.wl_machine.specs.declared.command.Command.{Command}
use Rattle.wl_machine.specs.declared.command.Reply.{Reply}
use Rattle.wl_machine.specs.State.{State, opening}
use Rattle.wl_machine.specs.Step.{Gives}
use Rattle.wl_machine.specs.Laws.{phases_of}
use Rattle.wl_machine.specs.OneMove.{phases_in}
use Rattle.wl_machine.specs.Standing.{IsStanding}
use Rattle.wl_core.specs.Realm.{all_ones}
use Rattle.wl_journal.specs.Books.{Book, Appends}
use Rattle.wl_journal.specs.History.{IsLegal, state_of, recorded}
use Rattle.wl_journal.specs.declared.entry.Entry.{Entry}
use Rattle.wl_manager.specs.Keepers.{Kept, phases_at, cells_at}

-- the journal; the keepers; the number that the next request gets; how many agents opened, and how many Leavings were
-- handed in; the total of the ledger, and the parts and the amount of the share that others are split from
pub record Inner : Type 0 where
  pub book : Book
  pub kept : Kept
  pub next : ℕ
  pub opened : ℕ
  pub handed : ℕ
  pub total : ℕ
  pub parts : ℕ
  pub amount : ℕ

-- the state that a manager begins with
abbrev pub first : State
first = opening all_ones

-- with those that were cut before, entries that a journal has from this base on are a legal history from the opening
-- state
pub record WasCut (base : State) (entries : List Entry) : Type 0 where
  pub cut : List Entry
  pub legal : IsLegal first (cut ++ entries)
  pub leads : base ≡ state_of first cut

-- What was cut of a journal: a legal history from the opening state to the journal's base, and all that was recorded
-- before. Where all entries are kept, nothing
pub record IsCut (keeps_all : Bool) (book : Book) : Type 0 where
  pub cut : List Entry
  pub legal : IsLegal first cut
  pub leads : book.base ≡ state_of first cut
  pub count : book.total ≡ length cut + length book.entries
  pub none : keeps_all ≡ true → cut ≡ []

-- the ends that changes give the request of this number
abbrev pub ends_in : ℕ → List Change → List Phase
ends_in id changes = filter is_end (phases_of id changes)

-- Whenever the lock is free: the journal has all entries since the opening state, but those that were cut (that its
-- entries are legal from its base and lead to the state is in the book's own type). Requests are numbered from 1. The
-- keepers are those of the live requests, each at its request's phase, and those of the requests that the last changes
-- ended, each at that end; there are no others. Where shares are counted, the total of the ledger is the journal's, and
-- each agent that opened has one part of the whole, until its Leaving is handed in
pub record IsKept (counts keeps_all : Bool) (all : ℕ) (l : Inner) : Type 0 where
  pub journal : IsCut keeps_all l.book
  pub standing : IsStanding l.book.state
  pub numbers : l.next ≡ l.book.state.next.request
  pub from_one : (1 ≤ l.next) × (phases_in l.book.state 0 ≡ [])
  pub agents : l.book.state.next.agent ≡ l.opened + 1
  pub published : (id : ℕ) → phases_at id l.kept ≡ phases_in l.book.state id ++ ends_in id l.book.recent
  pub fresh : (id : ℕ) → l.book.state.next.request ≤ id → phases_of id l.book.recent ≡ []
  pub counted : counts ≡ true → l.total ≡ l.book.total
  pub shared : counts ≡ true → l.parts + l.opened ≡ all + l.handed
  pub enough : counts ≡ true → 2 ^ 53 ≤ all

-- the keeper of each request that was live is of its cell
abbrev pub KeepsCells : Inner → Inner → Type 0
KeepsCells old new = (id : ℕ) (phase : Phase) → phases_in old.book.state id ≡ phase ∷ []
    → cells_at id new.kept ≡ cells_at id old.kept

-- the machine's step and answer, just its own entry, and no live request's cell exchanged
pub record Does (old new : Inner) (command : Command) (answer : Reply) : Type 0 where
  pub gives : Gives old.book.state command new.book.state answer new.book.recent
  pub appends : Appends old.book new.book (recorded command answer)
  pub cells : KeepsCells old new

-- nothing done
pub record Stays (old new : Inner) : Type 0 where
  pub state : new.book.state ≡ old.book.state
  pub appends : Appends old.book new.book []
  pub next : new.next ≡ old.next
  pub opened : new.opened ≡ old.opened
  pub handed : new.handed ≡ old.handed
  pub cells : KeepsCells old new
