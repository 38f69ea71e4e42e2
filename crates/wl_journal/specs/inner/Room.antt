-- The entries that may still come without a growth: a book keeps room for them (own).
use Rattle.std.specs.Prelude.{ℕ, ◌+◌, ◌*◌, length, is_some, if◌then◌else◌}
use Rattle.std.specs.List.{sum_by}
use Rattle.wl_machine.specs.declared.rows.HeldRow.{HeldRow}
use Rattle.wl_machine.specs.declared.rows.SignalRow.{SignalRow}
use Rattle.wl_machine.specs.State.{State}

-- a lock may still be released, and taken before that if it is not
abbrev pub lock_entries : HeldRow → ℕ
lock_entries lock = if lock.taken then 1 else 2

-- a signal may still be aborted
abbrev pub signal_entries : SignalRow → ℕ
signal_entries row = if is_some row.reason then 0 else 1

-- a Take and a Release for each live request, an Abort for each unaborted signal, a Terminate for each agent
abbrev pub entries_owed : State → ℕ
entries_owed s = length s.agents + sum_by signal_entries s.signals + sum_by lock_entries s.held + 2 * length s.pending
