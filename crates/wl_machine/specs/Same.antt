-- When rows, and when states, compare as the same (own): just where they are equal, as a law says.
use Rattle.std.specs.Prelude.{Bool, true, false, ◌==◌}
use Rattle.std.specs.Str.{bytes_eq}
use Rattle.std.specs.Option.{option_eq}
use Rattle.std.specs.Cmp.Lexicographic.{pointwise}
use Rattle.std.specs.Ordering.{on, eq_of_both}
use Rattle.std.proofs.Math.Bool.{beq}
use Rattle.wl_types.specs.declared.words.Reason.{Reason}
use Rattle.wl_types.specs.declared.phases.Numbers.{Numbers}
use Rattle.wl_types.specs.declared.words.Reason.TheVariants.{AbortError, TimeoutError, Code}
use Rattle.wl_machine.specs.declared.rows.AgentRow.{AgentRow}
use Rattle.wl_machine.specs.declared.rows.SignalRow.{SignalRow}
use Rattle.wl_machine.specs.declared.rows.HeldRow.{HeldRow}
use Rattle.wl_machine.specs.declared.rows.PendingRow.{PendingRow}
use Rattle.wl_machine.specs.State.{State}
use Rattle.wl_machine.specs.Grants.{is_exclusive}
use Rattle.wl_machine.specs.Refusals.{is_window}

-- one word, or one code
abbrev pub same_reason : Reason → Reason → Bool
same_reason AbortError AbortError = true
same_reason TimeoutError TimeoutError = true
same_reason (Code one) (Code other) = one == other
same_reason one other = false

abbrev pub same_agent : AgentRow → AgentRow → Bool
same_agent = eq_of_both (on (λ row. row.number) ◌==◌) (eq_of_both (on (λ row. is_window row.kind) beq)
    (on (λ row. row.active) beq))

abbrev pub same_signal : SignalRow → SignalRow → Bool
same_signal = eq_of_both (on (λ row. row.agent) ◌==◌) (eq_of_both (on (λ row. row.number) ◌==◌)
    (on (λ row. row.reason) (option_eq same_reason)))

abbrev pub same_request : PendingRow → PendingRow → Bool
same_request =
    eq_of_both (on (λ row. row.number) ◌==◌) (eq_of_both (on (λ row. row.agent) ◌==◌)
    (eq_of_both (on (λ row. row.name) bytes_eq)
    (eq_of_both (on (λ row. is_exclusive row.mode) beq) (on (λ row. row.signal) (option_eq ◌==◌)))))

abbrev pub same_lock : HeldRow → HeldRow → Bool
same_lock =
    eq_of_both (on (λ row. row.number) ◌==◌) (eq_of_both (on (λ row. row.agent) ◌==◌)
    (eq_of_both (on (λ row. row.name) bytes_eq)
    (eq_of_both (on (λ row. is_exclusive row.mode) beq) (eq_of_both (on (λ row. row.signal) (option_eq ◌==◌))
    (on (λ row. row.taken) beq)))))

abbrev pub same_numbers : Numbers → Numbers → Bool
same_numbers = eq_of_both (on (λ next. next.agent) ◌==◌) (eq_of_both (on (λ next. next.request) ◌==◌)
    (on (λ next. next.signal) ◌==◌))

abbrev pub same_state : State → State → Bool
same_state =
    eq_of_both (on (λ s. s.agents) (pointwise same_agent)) (eq_of_both (on (λ s. s.signals) (pointwise same_signal))
    (eq_of_both (on (λ s. s.names) (pointwise bytes_eq))
    (eq_of_both (on (λ s. s.held) (pointwise same_lock)) (eq_of_both (on (λ s. s.pending) (pointwise same_request))
    (on (λ s. s.next) same_numbers)))))
