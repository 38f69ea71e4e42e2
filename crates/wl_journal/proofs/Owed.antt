-- What processing, taking and aborting leave owed.
use Rattle.std.proofs.Common.{◌≡◌, ℕ, zero, suc, ◌+◌, ◌*◌, ◌≤◌, Bool, true, false, cond, List, [], ◌∷◌, ◌++◌, length}
use Rattle.std.proofs.Common.{map, refl, arith, ◌∙◌}
use Rattle.std.specs.Prelude.{not, ◌&&◌, ◌==◌, is_some, Some}
use Rattle.std.specs.List.{sum_by, list_any}
use Rattle.std.specs.Str.{bytes_eq}
use Rattle.std.proofs.lemmas.List.Sums.{sum_by-cons, sum_by-append}
use Rattle.wl_types.specs.declared.words.Reason.{Reason}
use Rattle.wl_types.specs.declared.phases.Change.{Change}
use Rattle.wl_machine.specs.declared.command.Reply.{Reply}
use Rattle.wl_machine.specs.declared.rows.HeldRow.{HeldRow}
use Rattle.wl_machine.specs.declared.rows.PendingRow.{PendingRow}
use Rattle.wl_machine.specs.declared.rows.SignalRow.{SignalRow}
use Rattle.wl_machine.specs.State.{State}
use Rattle.wl_machine.specs.Refusals.{reason_in}
use Rattle.wl_machine.specs.Grants.{Lists, lists_of, grants, queue, locks, without_first, granted_lock, process_queue}
use Rattle.wl_machine.specs.Grants.{process_queues}
use Rattle.wl_machine.specs.Step.{after_processing, with_taken, is_untaken, with_reason}
use Rattle.wl_machine.proofs.Fronts.{first_requests, first_granted}
use Rattle.wl_journal.specs.inner.Room.{lock_entries, signal_entries, entries_owed}

abbrev lists_owed : Lists → ℕ
lists_owed lists = sum_by lock_entries lists.held + 2 * length lists.pending

-- the first requests of a name and the others are all
length-split : (name : List ℕ) (count : ℕ) (xs : List PendingRow)
    → length (first_requests name count xs) + length (without_first name count xs) ≡ length xs
length-split name zero xs = omega arith
length-split name (suc count) [] = refl
length-split name (suc count) (x ∷ xs) =
    elim (bytes_eq x.name name) as (λ b. length (cond b (x ∷ first_requests name count xs)
    (first_requests name (suc count) xs)) + length (cond b (without_first name count xs)
    (x ∷ without_first name (suc count) xs)) ≡ length (x ∷ xs)) [
      | true ↦ (let rest = length-split name count xs in omega (arith, rest))
      | false ↦
          (let rest = length-split name (suc count) xs in omega (arith, rest))
    ]

granted_sum : (xs : List PendingRow) → sum_by lock_entries (map granted_lock xs) ≡ 2 * length xs
granted_sum [] = refl
granted_sum (x ∷ xs) = let rest = granted_sum xs in rw (sum_by-cons lock_entries (granted_lock x) (map granted_lock xs))
    (omega (arith, rest))

owed_of_name : (name : List ℕ) (h : List HeldRow) (p : List PendingRow) (g : List PendingRow)
    → first_requests name (length g) p ≡ g
    → sum_by lock_entries (h ++ map granted_lock g) + 2 * length (without_first name (length g) p)
    ≡ sum_by lock_entries h + 2 * length p
owed_of_name name h p g first =
    let split = length-split name (length g) p in
    let counted : length g + length (without_first name (length g) p) ≡ length p = rw first at split in
    let moved = granted_sum g in
    rw (sum_by-append lock_entries h (map granted_lock g)) (omega (arith, counted, moved))

process_queue_owes : (lists : Lists) (name : List ℕ) → lists_owed (process_queue lists name) ≡ lists_owed lists
process_queue_owes lists name = owed_of_name name lists.held lists.pending
    (grants (locks name lists.held) (queue name lists.pending))
    (first_granted name (locks name lists.held) lists.pending)

process_queues_owe : (names : List (List ℕ)) (lists : Lists)
    → lists_owed (process_queues lists names) ≡ lists_owed lists
process_queues_owe [] lists = refl
process_queues_owe (name ∷ names) lists = process_queues_owe names (process_queue lists name)
    ∙ process_queue_owes lists name

-- processing owes no more and no less
pub processed_owes : (mid : State) (ends : List Change) (reply : Reply)
    → entries_owed (after_processing mid ends reply).state ≡ entries_owed mid
processed_owes mid ends reply = let lists = process_queues_owe mid.names (lists_of mid.held mid.pending ends)
    in omega (arith, lists)

-- a lock that is taken gives its Take up
pub taken-le : (id : ℕ) (lock : HeldRow) → lock_entries (with_taken id lock) ≤ lock_entries lock
taken-le id lock = at_flags (lock.number == id) lock.taken refl refl
  where
    at_flags : (n t : Bool) → (lock.number == id) ≡ n → lock.taken ≡ t
        → lock_entries (with_taken id lock) ≤ lock_entries lock
    at_flags true true number taken = rw (number, taken) (omega arith)
    at_flags true false number taken = rw (number, taken) (omega arith)
    at_flags false true number taken = rw (number, taken) (omega arith)
    at_flags false false number taken = rw (number, taken) (omega arith)

pub taken-less : (id : ℕ) (lock : HeldRow) → is_untaken id lock ≡ true
    → 1 + lock_entries (with_taken id lock) ≤ lock_entries lock
taken-less id lock untaken = at_flags (lock.number == id) lock.taken refl refl
  where
    at_flags : (n t : Bool) → (lock.number == id) ≡ n → lock.taken ≡ t
        → 1 + lock_entries (with_taken id lock) ≤ lock_entries lock
    at_flags true true number taken = absurd (let no : false ≡ true = rw (number, taken) at untaken in cc)
    at_flags true false number taken = rw (number, taken) (omega arith)
    at_flags false t number taken = absurd (let no : false ≡ true = rw number at untaken in cc)

pub lock-least : (lock : HeldRow) → 1 ≤ lock_entries lock
lock-least lock = elim lock.taken as (λ b. 1 ≤ cond b 1 2) [ true ↦ omega arith | false ↦ omega arith ]

pub signal-le : (agent signal : ℕ) (reason : Reason) (row : SignalRow)
    → signal_entries (with_reason agent signal reason row) ≤ signal_entries row
signal-le agent signal reason row =
    elim (row.agent == agent && row.number == signal) as (λ b. signal_entries
    (cond b (record row { reason = Some reason }) row) ≤ signal_entries row)
    [ true ↦ omega arith | false ↦ omega arith ]

-- the agent's signal of this number, and unaborted
abbrev pub is_unaborted : ℕ → ℕ → SignalRow → Bool
is_unaborted agent signal row = (row.agent == agent && row.number == signal) && not (is_some row.reason)

pub signal-less : (agent signal : ℕ) (reason : Reason) (row : SignalRow) → is_unaborted agent signal row ≡ true
    → 1 + signal_entries (with_reason agent signal reason row) ≤ signal_entries row
signal-less agent signal reason row unaborted = at_flags (row.agent == agent && row.number == signal)
    (is_some row.reason) refl refl
  where
    at_flags : (b r : Bool) → (row.agent == agent && row.number == signal) ≡ b → is_some row.reason ≡ r
        → 1 + signal_entries (with_reason agent signal reason row) ≤ signal_entries row
    at_flags true true named aborted = absurd (let no : false ≡ true = rw (named, aborted) at unaborted in cc)
    at_flags true false named aborted = rw (named, aborted) (omega arith)
    at_flags false r named aborted = absurd (let no : false ≡ true = rw named at unaborted in cc)

-- where a signal is known and has no reason, it stands in a row that is unaborted
pub unaborted_row : (agent signal : ℕ) (rows : List SignalRow)
    → list_any (λ row. row.agent == agent && row.number == signal) rows ≡ true
    → is_some (reason_in rows agent signal) ≡ false
    → list_any (is_unaborted agent signal) rows ≡ true
unaborted_row agent signal [] known none = absurd (cc)
unaborted_row agent signal (row ∷ rows) known none = at_row (row.agent == agent && row.number == signal) refl
    (unaborted_row agent signal rows)
  where
    at_row : (b : Bool) → (row.agent == agent && row.number == signal) ≡ b
        → (list_any (λ other. other.agent == agent && other.number == signal) rows ≡ true
        → is_some (reason_in rows agent signal) ≡ false → list_any (is_unaborted agent signal) rows ≡ true)
        → list_any (is_unaborted agent signal) (row ∷ rows) ≡ true
    at_row true is rest = let here : is_some row.reason ≡ false = rw is at none in rw (is, here) refl
    at_row false is rest = rw is (rest (rw is at known) (rw is at none))
