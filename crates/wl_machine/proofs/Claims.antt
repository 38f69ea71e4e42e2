-- Lists of requests and locks that all pass a test, and what processing the queues keeps of them.
use Rattle.std.proofs.Common.{◌≡◌, ℕ, zero, suc, ◌+◌, ◌≤◌, Bool, true, false, cond, List, [], ◌∷◌, ◌++◌, length, map}
use Rattle.std.proofs.Common.{refl, arith, subst, length-append}
use Rattle.std.proofs.lemmas.List.{length-map}
use Rattle.std.specs.Prelude.{not, ◌||◌, filter, Option}
use Rattle.std.specs.Str.{bytes_eq}
use Rattle.wl_machine.specs.declared.rows.HeldRow.{HeldRow}
use Rattle.wl_machine.specs.declared.rows.PendingRow.{PendingRow}
use Rattle.wl_machine.specs.Grants.{grants, without_first, granted_lock, locks, queue, Lists, process_queue}
use Rattle.wl_machine.specs.Grants.{process_queues}
use Rattle.wl_machine.proofs.Fronts.{first_requests, first_granted}

abbrev pub Test : Type 0
Test = ℕ → Option ℕ → Bool

-- each request that waits passes the test with its agent and its signal, and so does each lock that was not taken
abbrev pub Wait : Test → List PendingRow → Type 0
Wait test [] = Unit {0}
Wait test (request ∷ requests) = (test request.agent request.signal ≡ true) × Wait test requests

abbrev pub Hold : Test → List HeldRow → Type 0
Hold test [] = Unit {0}
Hold test (lock ∷ locks) = ((lock.taken || test lock.agent lock.signal) ≡ true) × Hold test locks

pub wait_none : (test : Test) (xs : List PendingRow) → Wait test xs
    → filter (λ request. not (test request.agent request.signal)) xs ≡ []
wait_none test [] all = refl
wait_none test (x ∷ xs) all = rw all.0 (wait_none test xs all.1)

pub wait_all : (test : Test) (xs : List PendingRow) → filter (λ request. not (test request.agent request.signal)) xs
    ≡ [] → Wait test xs
wait_all test [] none = tt
wait_all test (x ∷ xs) none = at_test (test x.agent x.signal) refl (wait_all test xs)
  where
    at_test : (b : Bool) → test x.agent x.signal ≡ b → (filter (λ request. not (test request.agent request.signal)) xs
        ≡ [] → Wait test xs) → Wait test (x ∷ xs)
    at_test true is rest = (is, rest (rw is at none))
    at_test false is rest = absurd (let wrong : x ∷ filter (λ request. not (test request.agent request.signal)) xs
        ≡ [] = rw is at none in cc)

pub hold_none : (test : Test) (xs : List HeldRow) → Hold test xs
    → filter (λ lock. not (lock.taken || test lock.agent lock.signal)) xs ≡ []
hold_none test [] all = refl
hold_none test (x ∷ xs) all = rw all.0 (hold_none test xs all.1)

pub hold_all : (test : Test) (xs : List HeldRow) → filter (λ lock. not (lock.taken || test lock.agent lock.signal)) xs
    ≡ [] → Hold test xs
hold_all test [] none = tt
hold_all test (x ∷ xs) none = at_test (x.taken || test x.agent x.signal) refl (hold_all test xs)
  where
    at_test : (b : Bool) → (x.taken || test x.agent x.signal) ≡ b
        → (filter (λ lock. not (lock.taken || test lock.agent lock.signal)) xs ≡ [] → Hold test xs) → Hold test (x ∷ xs)
    at_test true is rest = (is, rest (rw is at none))
    at_test false is rest = absurd (let wrong : x ∷ filter (λ lock. not (lock.taken || test lock.agent lock.signal)) xs
        ≡ [] = rw is at none in cc)

-- what is left of a list that passes passes another test, where what is left out need not
pub wait_left : (one two : Test) (p : PendingRow → Bool) (xs : List PendingRow)
    → ((r : PendingRow) → p r ≡ true → one r.agent r.signal ≡ true → two r.agent r.signal ≡ true) → Wait one xs
    → Wait two (filter p xs)
wait_left one two p [] more all = tt
wait_left one two p (x ∷ xs) more all = at_test (p x) refl (wait_left one two p xs more all.1)
  where
    at_test : (b : Bool) → p x ≡ b → Wait two (filter p xs) → Wait two (cond b (x ∷ filter p xs) (filter p xs))
    at_test true is rest = (more x is all.0, rest)
    at_test false is rest = rest

pub hold_left : (one two : Test) (p : HeldRow → Bool) (xs : List HeldRow)
    → ((l : HeldRow) → p l ≡ true → l.taken ≡ false → one l.agent l.signal ≡ true → two l.agent l.signal ≡ true)
    → Hold one xs → Hold two (filter p xs)
hold_left one two p [] more all = tt
hold_left one two p (x ∷ xs) more all = at_test (p x) refl (hold_left one two p xs more all.1)
  where
    passes : p x ≡ true → (t : Bool) → x.taken ≡ t → (t || one x.agent x.signal) ≡ true
        → (t || two x.agent x.signal) ≡ true
    passes is true flag was = refl
    passes is false flag was = more x is flag was

    at_test : (b : Bool) → p x ≡ b → Hold two (filter p xs) → Hold two (cond b (x ∷ filter p xs) (filter p xs))
    at_test true is rest = (passes is x.taken refl all.0, rest)
    at_test false is rest = rest

pub wait_as : (one two : Test) (xs : List PendingRow) → ((agent : ℕ) (signal : Option ℕ) → one agent signal ≡ true
    → two agent signal ≡ true) → Wait one xs → Wait two xs
wait_as one two [] more all = tt
wait_as one two (x ∷ xs) more all = (more x.agent x.signal all.0, wait_as one two xs more all.1)

pub hold_as : (one two : Test) (xs : List HeldRow) → ((agent : ℕ) (signal : Option ℕ) → one agent signal ≡ true
    → two agent signal ≡ true) → Hold one xs → Hold two xs
hold_as one two [] more all = tt
hold_as one two (x ∷ xs) more all = (passes x.taken all.0, hold_as one two xs more all.1)
  where
    passes : (t : Bool) → (t || one x.agent x.signal) ≡ true → (t || two x.agent x.signal) ≡ true
    passes true was = refl
    passes false was = more x.agent x.signal was

hold_append : (test : Test) (xs ys : List HeldRow) → Hold test xs → Hold test ys → Hold test (xs ++ ys)
hold_append test [] ys one two = two
hold_append test (x ∷ xs) ys one two = (one.0, hold_append test xs ys one.1 two)

pub wait_append : (test : Test) (xs ys : List PendingRow) → Wait test xs → Wait test ys → Wait test (xs ++ ys)
wait_append test [] ys one two = two
wait_append test (x ∷ xs) ys one two = (one.0, wait_append test xs ys one.1 two)

wait_first : (test : Test) (name : List ℕ) (count : ℕ) (xs : List PendingRow) → Wait test xs
    → Wait test (first_requests name count xs)
wait_first test name zero xs all = tt
wait_first test name (suc count) [] all = tt
wait_first test name (suc count) (x ∷ xs) all =
    elim (bytes_eq x.name name) as (λ b. Wait test (cond b (x ∷ first_requests name count xs)
    (first_requests name (suc count) xs)))
    [ true ↦ (all.0, wait_first test name count xs all.1) | false ↦ wait_first test name (suc count) xs all.1 ]

wait_without : (test : Test) (name : List ℕ) (count : ℕ) (xs : List PendingRow) → Wait test xs
    → Wait test (without_first name count xs)
wait_without test name zero xs all = all
wait_without test name (suc count) [] all = all
wait_without test name (suc count) (x ∷ xs) all =
    elim (bytes_eq x.name name) as (λ b. Wait test (cond b (without_first name count xs)
    (x ∷ without_first name (suc count) xs)))
    [ true ↦ wait_without test name count xs all.1 | false ↦ (all.0, wait_without test name (suc count) xs all.1) ]

hold_granted : (test : Test) (xs : List PendingRow) → Wait test xs → Hold test (map granted_lock xs)
hold_granted test [] all = tt
hold_granted test (x ∷ xs) all = (all.0, hold_granted test xs all.1)

parts_are_all : (name : List ℕ) (count : ℕ) (xs : List PendingRow)
    → length (first_requests name count xs) + length (without_first name count xs) ≡ length xs
parts_are_all name zero xs = omega arith
parts_are_all name (suc count) [] = refl
parts_are_all name (suc count) (x ∷ xs) =
    elim (bytes_eq x.name name) as (λ b. length (cond b (x ∷ first_requests name count xs)
    (first_requests name (suc count) xs)) + length (cond b (without_first name count xs)
    (x ∷ without_first name (suc count) xs)) ≡ length (x ∷ xs)) [
      | true ↦ (let rest = parts_are_all name count xs in omega (arith, rest))
      | false ↦ (let rest = parts_are_all name (suc count) xs in omega (arith, rest))
    ]

-- what lists keep while queues are processed
pub record Keeps (test : Test) (most : ℕ) (lists : Lists) : Type 0 where
  pub few : length lists.held + length lists.pending ≤ most
  pub waiting : Wait test lists.pending
  pub holding : Hold test lists.held

process_keeps : (test : Test) (most : ℕ) (lists : Lists) (name : List ℕ) → Keeps test most lists
    → Keeps test most (process_queue lists name)
process_keeps test most lists name all =
    let granted = grants (locks name lists.held) (queue name lists.pending) in
    let first : first_requests name (length granted) lists.pending
    ≡ granted = first_granted name (locks name lists.held) lists.pending in
    let sum : length granted + length (without_first name (length granted) lists.pending)
    ≡ length lists.pending = rw first at (parts_are_all name (length granted) lists.pending) in
    let grown = length-append lists.held (map granted_lock granted) in
    let mapped : length (map granted_lock granted) ≡ length granted = length-map granted granted_lock in
    let few = all.few in
    record {
      few = omega (arith, sum, grown, mapped, few);
      waiting = wait_without test name (length granted) lists.pending all.waiting;
      holding = hold_append test lists.held (map granted_lock granted) all.holding
          (hold_granted test granted (subst (Wait test) first
          (wait_first test name (length granted) lists.pending all.waiting)));
    }

pub processes_keep : (names : List (List ℕ)) (test : Test) (most : ℕ) (lists : Lists) → Keeps test most lists
    → Keeps test most (process_queues lists names)
processes_keep [] test most lists all = all
processes_keep (name ∷ names) test most lists all = processes_keep names test most (process_queue lists name)
    (process_keeps test most lists name all)
