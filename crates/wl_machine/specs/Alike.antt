-- Comparing as the same is an equivalence (own): proofs alone, which `==` owes.
use Rattle.std.specs.Prelude.{◌≡◌, true}
use Rattle.std.specs.Cmp.{IsEquivalence, bool_eq_equiv}
use Rattle.std.specs.Cmp.Lexicographic.{options_equiv}
use Rattle.std.proofs.Common.{refl}
use Rattle.std.proofs.lemmas.Bool.{false≢true}
use Rattle.std.proofs.lemmas.Cmp.{and_equiv, on_equiv, lists_equiv, nat_eq_equiv, nat_list_eq_equiv}
use Rattle.wl_types.specs.declared.words.Reason.{Reason}
use Rattle.wl_types.specs.declared.words.Reason.TheVariants.{AbortError, TimeoutError, Code}
use Rattle.wl_machine.specs.Grants.{is_exclusive}
use Rattle.wl_machine.specs.Refusals.{is_window}
use Rattle.wl_machine.specs.Same.{same_reason, same_agent, same_signal, same_request, same_lock, same_numbers}
use Rattle.wl_machine.specs.Same.{same_state}

reason_itself : (reason : Reason) → same_reason reason reason ≡ true
reason_itself AbortError = refl
reason_itself TimeoutError = refl
reason_itself (Code code) = nat_eq_equiv.refl code

reason_symm : (one other : Reason) → same_reason one other ≡ same_reason other one
reason_symm AbortError AbortError = refl
reason_symm AbortError TimeoutError = refl
reason_symm AbortError (Code other) = refl
reason_symm TimeoutError AbortError = refl
reason_symm TimeoutError TimeoutError = refl
reason_symm TimeoutError (Code other) = refl
reason_symm (Code one) AbortError = refl
reason_symm (Code one) TimeoutError = refl
reason_symm (Code one) (Code other) = nat_eq_equiv.symm one other

reason_congr : (one other third : Reason) → same_reason one other ≡ true
    → same_reason one third ≡ same_reason other third
reason_congr AbortError AbortError third same = refl
reason_congr TimeoutError TimeoutError third same = refl
reason_congr (Code one) (Code other) AbortError same = refl
reason_congr (Code one) (Code other) TimeoutError same = refl
reason_congr (Code one) (Code other) (Code third) same = nat_eq_equiv.congr one other third same
reason_congr one other third same = absurd (false≢true same)

pub same_reason_equiv : IsEquivalence same_reason
same_reason_equiv = record { refl = reason_itself; symm = reason_symm; congr = reason_congr }

pub same_agent_equiv : IsEquivalence same_agent
same_agent_equiv = and_equiv (on_equiv (λ row. row.number) nat_eq_equiv)
    (and_equiv (on_equiv (λ row. is_window row.kind) bool_eq_equiv) (on_equiv (λ row. row.active) bool_eq_equiv))

pub same_signal_equiv : IsEquivalence same_signal
same_signal_equiv = and_equiv (on_equiv (λ row. row.agent) nat_eq_equiv)
    (and_equiv (on_equiv (λ row. row.number) nat_eq_equiv) (on_equiv (λ row. row.reason)
    (options_equiv same_reason_equiv)))

pub same_request_equiv : IsEquivalence same_request
same_request_equiv =
    and_equiv (on_equiv (λ row. row.number) nat_eq_equiv) (and_equiv (on_equiv (λ row. row.agent) nat_eq_equiv)
    (and_equiv (on_equiv (λ row. row.name) nat_list_eq_equiv)
    (and_equiv (on_equiv (λ row. is_exclusive row.mode) bool_eq_equiv)
    (on_equiv (λ row. row.signal) (options_equiv nat_eq_equiv)))))

pub same_lock_equiv : IsEquivalence same_lock
same_lock_equiv =
    and_equiv (on_equiv (λ row. row.number) nat_eq_equiv) (and_equiv (on_equiv (λ row. row.agent) nat_eq_equiv)
    (and_equiv (on_equiv (λ row. row.name) nat_list_eq_equiv)
    (and_equiv (on_equiv (λ row. is_exclusive row.mode) bool_eq_equiv)
    (and_equiv (on_equiv (λ row. row.signal) (options_equiv nat_eq_equiv))
    (on_equiv (λ row. row.taken) bool_eq_equiv)))))

pub same_numbers_equiv : IsEquivalence same_numbers
same_numbers_equiv = and_equiv (on_equiv (λ next. next.agent) nat_eq_equiv)
    (and_equiv (on_equiv (λ next. next.request) nat_eq_equiv) (on_equiv (λ next. next.signal) nat_eq_equiv))

pub same_state_equiv : IsEquivalence same_state
same_state_equiv =
    and_equiv (on_equiv (λ s. s.agents) (lists_equiv same_agent_equiv))
    (and_equiv (on_equiv (λ s. s.signals) (lists_equiv same_signal_equiv))
    (and_equiv (on_equiv (λ s. s.names) (lists_equiv nat_list_eq_equiv))
    (and_equiv (on_equiv (λ s. s.held) (lists_equiv same_lock_equiv))
    (and_equiv (on_equiv (λ s. s.pending) (lists_equiv same_request_equiv))
    (on_equiv (λ s. s.next) same_numbers_equiv)))))
