-- Legal histories (own): which entries the machine could have written, and where they lead.
use Rattle.std.specs.Prelude.{◌≡◌, ℕ, ◌+◌, ◌<◌, List, [], ◌∷◌, length, map, take, if◌then◌else◌}
use Rattle.wl_machine.specs.declared.command.Command.{Command}
use Rattle.wl_machine.specs.declared.command.Reply.{Reply}
use Rattle.wl_machine.specs.Recorded.{is_recorded}
use Rattle.wl_machine.specs.State.{State}
use Rattle.wl_machine.specs.Step.{replies_of, state_after}
use Rattle.wl_journal.specs.declared.entry.Entry.{Entry}
use Rattle.wl_journal.specs.declared.auditing.AuditFault.{AuditFault}
use Rattle.wl_journal.specs.declared.auditing.AuditFault.TheVariants.{Illegal, Memory}

abbrev pub commands_of : List Entry → List Command
commands_of entries = map (λ entry. entry.command) entries

-- replayed from the base, each entry's reply is the machine's
abbrev pub IsLegal : State → List Entry → Type 0
IsLegal base entries = map (λ entry. entry.reply) entries ≡ replies_of (commands_of entries) base

-- the state that the entries lead to
abbrev pub state_of : State → List Entry → State
state_of base entries = state_after (commands_of entries) base

-- what a book adds for a command and its reply
abbrev pub recorded : Command → Reply → List Entry
recorded asked answer = if is_recorded answer then record { command = asked; reply = answer } ∷ [] else []

-- the entries before this place are legal, and with the one at this place they are not
pub record IsFirstIllegal (base : State) (entries : List Entry) (place : ℕ) : Type 0 where
  pub within : place < length entries
  pub before : IsLegal base (take place entries)
  pub there : IsLegal base (take (place + 1) entries) → ⊥

-- what a fault of an audit says of the entries
abbrev pub Explains : State → List Entry → AuditFault → Type 0
Explains base entries (Illegal place) = IsFirstIllegal base entries place
Explains base entries Memory = Unit {0}
