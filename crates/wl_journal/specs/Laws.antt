-- Laws of histories, as statements. Each is in the contract of a public function (own).
use Rattle.std.specs.Prelude.{◌≡◌, ℕ, List}
use Rattle.wl_machine.specs.State.{State}
use Rattle.wl_journal.specs.declared.entry.Entry.{Entry}
use Rattle.wl_journal.specs.History.{IsLegal, IsFirstIllegal}

-- a history with a first illegal entry is not legal
abbrev pub FirstIllegalIsIllegal : Type 0
FirstIllegalIsIllegal = (base : State) (entries : List Entry) (place : ℕ) → IsFirstIllegal base entries place
    → IsLegal base entries → ⊥

-- a history has one first illegal entry at most
abbrev pub FirstIllegalIsOne : Type 0
FirstIllegalIsOne = (base : State) (entries : List Entry) (one other : ℕ) → IsFirstIllegal base entries one
    → IsFirstIllegal base entries other → one ≡ other
