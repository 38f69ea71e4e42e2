-- Beginnings of a legal history are legal.
use Rattle.std.proofs.Common.{◌≡◌, ℕ, zero, suc, ◌+◌, ◌≤◌, ◌<◌, List, [], ◌∷◌, take, refl, ap, arith}
use Rattle.wl_machine.specs.State.{State}
use Rattle.wl_machine.specs.Step.{step}
use Rattle.wl_journal.specs.declared.entry.Entry.{Entry}
use Rattle.wl_journal.specs.History.{IsLegal, IsFirstIllegal}
use Rattle.wl_journal.specs.Laws.{FirstIllegalIsIllegal, FirstIllegalIsOne}

first_is : (base : State) (entry : Entry) (entries : List Entry) → IsLegal base (entry ∷ entries)
    → entry.reply ≡ (step base entry.command).reply
first_is base entry entries legal = cc

rest_is : (base : State) (entry : Entry) (entries : List Entry) → IsLegal base (entry ∷ entries)
    → IsLegal (step base entry.command).state entries
rest_is base entry entries legal = cc

with_first : (base : State) (entry : Entry) (entries : List Entry) → entry.reply ≡ (step base entry.command).reply
    → IsLegal (step base entry.command).state entries → IsLegal base (entry ∷ entries)
with_first base entry entries first rest = λ i. first i ∷ rest i

legal_take : (base : State) (entries : List Entry) (n : ℕ) → IsLegal base entries → IsLegal base (take n entries)
legal_take base entries zero legal = refl
legal_take base [] (suc n) legal = refl
legal_take base (entry ∷ entries) (suc n) legal = with_first base entry (take n entries)
    (first_is base entry entries legal) (legal_take (step base entry.command).state entries n
    (rest_is base entry entries legal))

pub legal_less : (base : State) (entries : List Entry) (m n : ℕ) → m ≤ n → IsLegal base (take n entries)
    → IsLegal base (take m entries)
legal_less base entries zero n less legal = refl
legal_less base entries (suc m) zero less legal = absurd (omega arith)
legal_less base [] (suc m) (suc n) less legal = refl
legal_less base (entry ∷ entries) (suc m) (suc n) less legal =
    with_first base entry (take m entries) (first_is base entry (take n entries) legal)
    (legal_less (step base entry.command).state entries m n (omega (arith, less))
    (rest_is base entry (take n entries) legal))

pub is_illegal : FirstIllegalIsIllegal
is_illegal base entries place first legal = first.there (legal_take base entries (place + 1) legal)

not_before : (base : State) (entries : List Entry) (one other : ℕ) → IsFirstIllegal base entries one
    → IsFirstIllegal base entries other → one < other → ⊥
not_before base entries one other first second before = first.there
    (legal_less base entries (one + 1) other (omega (arith, before)) second.before)

neither_less : (m n : ℕ) → (m < n → ⊥) → (n < m → ⊥) → m ≡ n
neither_less zero zero low high = refl
neither_less zero (suc n) low high = absurd (low (omega arith))
neither_less (suc m) zero low high = absurd (high (omega arith))
neither_less (suc m) (suc n) low high = ap suc (neither_less m n (λ less. low (omega (arith, less)))
    (λ less. high (omega (arith, less))))

pub is_one : FirstIllegalIsOne
is_one base entries one other first second = neither_less one other (not_before base entries one other first second)
    (not_before base entries other one second first)
