-- What holds of every state that commands lead to.
use Rattle.std.proofs.Common.{◌≡◌, ℕ, suc, ◌≤◌, ◌<◌, Bool, true, false, cond, List, [], ◌∷◌, ◌++◌, length, map, refl}
use Rattle.std.proofs.Common.{sym, ◌∙◌, ◌==◌, arith, subst, length-append}
use Rattle.std.proofs.lemmas.Bool.{eqb-true}
use Rattle.std.proofs.lemmas.List.{length-map}
use Rattle.std.proofs.lemmas.List.Folds.{list_any-append}
use Rattle.std.specs.Prelude.{not, ◌&&◌, ◌||◌, filter, is_some, nat_le, Option, Some, None}
use Rattle.std.specs.List.{list_any}
use Rattle.std.specs.Str.{bytes_eq}
use Rattle.wl_types.specs.Refusals.{refuse_if, first_refusal}
use Rattle.wl_types.specs.declared.words.Reason.{Reason}
use Rattle.wl_types.specs.declared.phases.Change.{Change}
use Rattle.wl_types.specs.declared.phases.Phase.TheVariants.{Stolen, Released}
use Rattle.wl_types.specs.declared.refusal.Refusal.{Refusal}
use Rattle.wl_types.specs.declared.refusal.Refusal.TheVariants.{NoSuchSignal, NoSuchAgent, TooManyRequests}
use Rattle.wl_types.specs.declared.ask.Ask.{Ask}
use Rattle.wl_machine.specs.declared.rows.AgentRow.{AgentRow}
use Rattle.wl_machine.specs.declared.rows.SignalRow.{SignalRow}
use Rattle.wl_machine.specs.declared.rows.HeldRow.{HeldRow}
use Rattle.wl_machine.specs.declared.command.Command.{Command}
use Rattle.wl_machine.specs.declared.command.Command.TheVariants.{Enter, SetActive, NewSignal, Request, Take, Release}
use Rattle.wl_machine.specs.declared.command.Command.TheVariants.{Abort, Terminate, Query}
use Rattle.wl_machine.specs.declared.command.Reply.{Reply}
use Rattle.wl_machine.specs.declared.command.Reply.TheVariants as reply
use Rattle.wl_machine.specs.State.{State}
use Rattle.wl_machine.specs.Grants.{locks, lists_of}
use Rattle.wl_machine.specs.Refusals.{refusal, has_agent, has_signal, reason_in, live_count, request_refusals}
use Rattle.wl_machine.specs.Refusals.{unknown_signal, aborted_signal, aborted_refusal}
use Rattle.wl_machine.specs.Step.{StepResult, after_processing, accepted, step, unless_refused, is_untaken, with_taken}
use Rattle.wl_machine.specs.Step.{is_lock_of, is_signal, is_waiting_on, is_abortable, with_reason, with_active}
use Rattle.wl_machine.specs.Step.{new_request, available, request_step, steal_locks, enqueue, stealing_request}
use Rattle.wl_machine.specs.Step.{plain_request, unavailable, without_lock, with_aborted, without_agent, lock_ends}
use Rattle.wl_machine.specs.Step.{abort_ends, terminate_ends}
use Rattle.wl_machine.specs.Standing.{is_abortable_signal, IsStanding, OpeningStands, StandsAfterEach, AbortedHaveNone}
use Rattle.wl_machine.proofs.Claims.{Hold, Keeps, wait_none, wait_all, hold_none, hold_all, wait_left, hold_left}
use Rattle.wl_machine.proofs.Claims.{wait_as, hold_as, wait_append, processes_keep}
use Rattle.wl_machine.proofs.Lists.{any_map, any_same, and_first, and_second}
use Rattle.wl_machine.proofs.OneMove.{accepted_numbered}
use Rattle.wl_machine.proofs.Runs.{either}

-- a state without its numbers
abbrev Firm : State → Type 0
Firm s = Keeps (is_abortable_signal s) 65536 (lists_of s.held s.pending [])

firm_processed : (s : State) (ends : List Change) (answer : Reply) → Firm s
    → Firm (after_processing s ends answer).state
firm_processed s ends answer firm =
    let end = processes_keep s.names (is_abortable_signal s) 65536 (lists_of s.held s.pending ends)
    (record { few = firm.few; waiting = firm.waiting; holding = firm.holding }) in
    record { few = end.few; waiting = end.waiting; holding = end.holding }

fewer : {X : Type 0} (p : X → Bool) (xs : List X) → length (filter p xs) ≤ length xs
fewer p [] = omega arith
fewer p (x ∷ xs) = elim (p x) as (λ b. length (cond b (x ∷ filter p xs) (filter p xs)) ≤ suc (length xs))
    [ true ↦ (let rest = fewer p xs in omega (arith, rest)) | false ↦ (let rest = fewer p xs in omega (arith, rest)) ]

-- the three tests of an abortable signal
all_three : (a b c d e f : Bool) → (a ≡ true → d ≡ true) → (b ≡ true → e ≡ true) → (c ≡ true → f ≡ true)
    → (a && b && c) ≡ true → (d && e && f) ≡ true
all_three true true true d e f one two three is = rw (one refl, two refl, three refl) refl
all_three true true false d e f one two three is = absurd (cc)
all_three true false c d e f one two three is = absurd (cc)
all_three false b c d e f one two three is = absurd (cc)

same_signals : (s t : State) → ((agent : ℕ) → has_agent s agent ≡ true → has_agent t agent ≡ true)
    → ((agent signal : ℕ) → has_signal s agent signal ≡ true → has_signal t agent signal ≡ true)
    → ((agent signal : ℕ) → not (is_some (reason_in s.signals agent signal)) ≡ true
    → not (is_some (reason_in t.signals agent signal)) ≡ true)
    → (agent : ℕ) (signal : Option ℕ) → is_abortable_signal s agent signal ≡ true
    → is_abortable_signal t agent signal ≡ true
same_signals s t agents signals reasons agent None is = refl
same_signals s t agents signals reasons agent (Some signal) is =
    all_three _ _ _ _ _ _ (agents agent) (signals agent signal) (reasons agent signal) is

more_any : {X : Type 0} (p : X → Bool) (xs ys : List X) → list_any p xs ≡ true → list_any p (xs ++ ys) ≡ true
more_any p xs ys is = list_any-append p xs ys ∙ rw is refl

firm_as : (s t : State) → t.held ≡ s.held → t.pending ≡ s.pending
    → ((agent : ℕ) (signal : Option ℕ) → is_abortable_signal s agent signal ≡ true
    → is_abortable_signal t agent signal ≡ true) → Firm s → Firm t
firm_as s t held pending more firm = record {
  few = rw (held, pending) firm.few;
  waiting = rw pending (wait_as (is_abortable_signal s) (is_abortable_signal t) s.pending more firm.waiting);
  holding = rw held (hold_as (is_abortable_signal s) (is_abortable_signal t) s.held more firm.holding);
}

-- a new signal has no reason
signal_added : (xs : List SignalRow) (row : SignalRow) (agent signal : ℕ) → row.reason ≡ None
    → not (is_some (reason_in xs agent signal)) ≡ true → not (is_some (reason_in (xs ++ row ∷ []) agent signal)) ≡ true
signal_added [] row agent signal fresh is = elim (row.agent == agent && row.number == signal) as
    (λ b. not (is_some (cond b row.reason None)) ≡ true) [ true ↦ rw fresh refl | false ↦ refl ]
signal_added (x ∷ xs) row agent signal fresh is = at_test (x.agent == agent && x.number == signal)
    (signal_added xs row agent signal fresh) is
  where
    at_test : (b : Bool) → (not (is_some (reason_in xs agent signal)) ≡ true
        → not (is_some (reason_in (xs ++ row ∷ []) agent signal)) ≡ true)
        → not (is_some (cond b x.reason (reason_in xs agent signal))) ≡ true
        → not (is_some (cond b x.reason (reason_in (xs ++ row ∷ []) agent signal))) ≡ true
    at_test true rest is = is
    at_test false rest is = rest is

-- an agent made active or not keeps its number
same_number : (agent other : ℕ) (active : Bool) (row : AgentRow)
    → ((with_active agent active row).number == other) ≡ (row.number == other)
same_number agent other active row = elim (row.number == agent) as
    (λ b. ((cond b (record row { active = active }) row).number == other) ≡ (row.number == other))
    [ true ↦ refl | false ↦ refl ]

firm_active : (s : State) (agent : ℕ) (active : Bool) → Firm s
    → Firm (record s { agents = map (with_active agent active) s.agents })
firm_active s agent active firm =
    firm_as s (record s { agents = map (with_active agent active) s.agents }) refl refl
    (same_signals s (record s { agents = map (with_active agent active) s.agents })
    (λ other is. any_map (λ (row : AgentRow). row.number == other) (with_active agent active) s.agents
    ∙ any_same (λ (row : AgentRow). (with_active agent active row).number == other) (λ row. row.number == other)
    s.agents (same_number agent other active) ∙ is)
    (λ a k is. is) (λ a k is. is)) firm

-- a request that is let in: fewer are live than may be, and its signal, where it has one, may be aborted
record LetIn (s : State) (agent : ℕ) (ask : Ask) : Type 0 where
  few : live_count s < 65536
  signal : is_abortable_signal s agent ask.signal ≡ true

abbrev NoneIn : List (Option Refusal) → Type 0
NoneIn [] = Unit {0}
NoneIn (o ∷ os) = (o ≡ None) × NoneIn os

none_each : (os : List (Option Refusal)) → first_refusal os ≡ None → NoneIn os
none_each [] is = tt
none_each (None ∷ os) is = (refl, none_each os is)
none_each (Some r ∷ os) is = absurd (cc)

not_refused : (b : Bool) (r : Refusal) → refuse_if b r ≡ None → b ≡ false
not_refused true r is = absurd (cc)
not_refused false r is = refl

let_in : (s : State) (agent : ℕ) (ask : Ask) → refusal s (Request agent ask) ≡ None → LetIn s agent ask
let_in s agent ask none =
    let each : NoneIn (request_refusals s agent ask) = none_each (request_refusals s agent ask) none in
    let full : nat_le 65536 (live_count s) ≡ false = not_refused (nat_le 65536 (live_count s)) TooManyRequests
    each.1.1.1.1.1.1.0 in
    record {
      few = room (live_count s) full;
      signal = at_signal ask.signal
          (not_not (has_agent s agent) (not_refused (not (has_agent s agent)) NoSuchAgent each.0)) each.1.1.1.0
          each.1.1.1.1.0;
    }
  where
    room : (n : ℕ) → nat_le 65536 n ≡ false → n < 65536
    room n is = grind arith

    not_not : (b : Bool) → not b ≡ false → b ≡ true
    not_not true is = refl
    not_not false is = absurd (cc)

    no_reason : (o : Option Reason) → aborted_refusal o ≡ None → not (is_some o) ≡ true
    no_reason None is = refl
    no_reason (Some reason) is = absurd (cc)

    at_signal : (signal : Option ℕ) → has_agent s agent ≡ true → unknown_signal s agent signal ≡ None
        → aborted_signal s agent signal ≡ None → is_abortable_signal s agent signal ≡ true
    at_signal None known there unaborted = refl
    at_signal (Some k) known there unaborted = rw (
      known,
      not_not (has_signal s agent k)
          (not_refused _ NoSuchSignal there),
    ) (no_reason (reason_in s.signals agent k) unaborted)

firm_request : (s : State) (agent : ℕ) (ask : Ask) → LetIn s agent ask → Firm s → Firm (request_step s agent ask).state
firm_request s agent ask is_accepted firm =
    let request = new_request s agent ask in
    let few = is_accepted.few in
    let more = length-append s.pending (request ∷ []) in
    let left = fewer (λ lock. not (bytes_eq lock.name request.name)) s.held in
    either Firm ask.steal (stealing_request s request) (cond (ask.if_available && not (available s request))
    (unavailable s request) (plain_request s request))
    (firm_processed (steal_locks s request) (lock_ends Stolen (locks request.name s.held)) reply.Done (record {
      few = omega (arith, few, left);
      waiting = (is_accepted.signal, firm.waiting);
      holding = hold_left (is_abortable_signal s) (is_abortable_signal s)
          (λ lock. not (bytes_eq lock.name request.name)) s.held (λ l p t is. is) firm.holding;
    }))
    (either Firm (ask.if_available && not (available s request)) (unavailable s request) (plain_request s request)
    (record { few = firm.few; waiting = firm.waiting; holding = firm.holding })
    (firm_processed (enqueue s request) [] reply.Done (record {
      few = omega (arith, few, more);
      waiting = wait_append (is_abortable_signal s) s.pending (request ∷ []) firm.waiting (is_accepted.signal, tt);
      holding = firm.holding;
    })))

firm_take : (s : State) (id : ℕ) → Firm s → Firm (accepted s (Take id)).state
firm_take s id firm = either Firm (list_any (is_untaken id) s.held) _ _
    (record {
      few = rw (length-map s.held (with_taken id)) firm.few;
      waiting = firm.waiting;
      holding = taken s.held firm.holding;
    }) firm
  where
    taken : (xs : List HeldRow) → Hold (is_abortable_signal s) xs
        → Hold (is_abortable_signal s) (map (with_taken id) xs)
    taken [] all = tt
    taken (x ∷ xs) all = (still x.taken (x.number == id) (is_abortable_signal s x.agent x.signal) all.0, taken xs all.1)
      where
        still : (t n o : Bool) → (t || o) ≡ true → ((t || n) || o) ≡ true
        still true n o is = refl
        still false true o is = refl
        still false false o is = is

firm_release : (s : State) (agent id : ℕ) → Firm s → Firm (accepted s (Release agent id)).state
firm_release s agent id firm =
    let left = fewer (λ lock. not (is_lock_of agent id lock)) s.held in
    let few = firm.few in
    either Firm (list_any (is_lock_of agent id) s.held) _ _
    (firm_processed (without_lock s agent id) (lock_ends Released (filter (is_lock_of agent id) s.held)) reply.Done
    (record {
      few = omega (arith, few, left);
      waiting = firm.waiting;
      holding = hold_left (is_abortable_signal s) (is_abortable_signal s) (λ lock. not (is_lock_of agent id lock))
          s.held (λ l p t is. is) firm.holding;
    })) firm

untrue : (b : Bool) → not b ≡ true → b ≡ false
untrue true is = absurd (cc)
untrue false is = refl

-- two that are equal to a third
same_pair : (a b c d e f : ℕ) → (a == c && b == d) ≡ true → (a == e && b == f) ≡ true → (e == c && f == d) ≡ true
same_pair a b c d e f one two =
    let first : a ≡ e = eqb-true a e (and_first (a == e) (b == f) two) in
    let second : b ≡ f = eqb-true b f (and_second (a == e) (b == f) two) in
    rw (← first, ← second) one

-- an abort leaves the reasons of other signals
reason_other : (xs : List SignalRow) (agent signal : ℕ) (reason : Reason) (other k : ℕ)
    → (other == agent && k == signal) ≡ false → reason_in (map (with_reason agent signal reason) xs) other k
    ≡ reason_in xs other k
reason_other [] agent signal reason other k apart = refl
reason_other (x ∷ xs) agent signal reason other k apart = at_tests (x.agent == agent && x.number == signal) refl
    (x.agent == other && x.number == k) refl (reason_other xs agent signal reason other k apart)
  where
    at_tests : (b : Bool) → (x.agent == agent && x.number == signal) ≡ b → (c : Bool)
        → (x.agent == other && x.number == k) ≡ c → reason_in (map (with_reason agent signal reason) xs) other k
        ≡ reason_in xs other k
        → reason_in (map (with_reason agent signal reason) (x ∷ xs)) other k ≡ reason_in (x ∷ xs) other k
    at_tests true one true two rest = absurd (let no : true
        ≡ false = sym (same_pair x.agent x.number agent signal other k one two) ∙ apart in cc)
    at_tests true one false two rest = rw one (rw (two, rest) refl)
    at_tests false one true two rest = rw one (rw (two, rest) refl)
    at_tests false one false two rest = rw one (rw (two, rest) refl)

same_signal_row : (agent signal : ℕ) (reason : Reason) (other k : ℕ) (row : SignalRow)
    → ((with_reason agent signal reason row).agent == other && (with_reason agent signal reason row).number == k)
    ≡ (row.agent == other && row.number == k)
same_signal_row agent signal reason other k row =
    elim (row.agent == agent && row.number == signal) as (λ b.
    ((cond b (record row { reason = Some reason }) row).agent == other
    && (cond b (record row { reason = Some reason }) row).number == k) ≡ (row.agent == other && row.number == k))
    [ true ↦ refl | false ↦ refl ]

other_signal : (s : State) (agent signal : ℕ) (reason : Reason) (other : ℕ) (k : Option ℕ)
    → (other == agent && is_signal signal k) ≡ false → is_abortable_signal s other k ≡ true
    → is_abortable_signal (with_aborted s agent signal reason) other k ≡ true
other_signal s agent signal reason other None apart is = refl
other_signal s agent signal reason other (Some k) apart is =
    all_three _ _ _ _ _ _ (λ known. known)
    (λ there. any_map (λ (row : SignalRow). row.agent == other && row.number == k) (with_reason agent signal reason)
    s.signals
    ∙ any_same (λ (row : SignalRow). (with_reason agent signal reason row).agent == other
    && (with_reason agent signal reason row).number == k) (λ row. row.agent == other && row.number == k) s.signals
    (same_signal_row agent signal reason other k) ∙ there)
    (λ free. rw (reason_other s.signals agent signal reason other k apart) free) is

firm_abort : (s : State) (agent signal : ℕ) (reason : Reason) → Firm s
    → Firm (accepted s (Abort agent signal reason)).state
firm_abort s agent signal reason firm =
    let t = with_aborted s agent signal reason in
    let waits = fewer (λ request. not (is_waiting_on agent signal request)) s.pending in
    let holds = fewer (λ lock. not (is_abortable agent signal lock)) s.held in
    let few = firm.few in
    either Firm (is_some (reason_in s.signals agent signal)) _ _ firm
    (firm_processed t (abort_ends s agent signal reason) reply.Done (record {
      few = omega (arith, few, waits, holds);
      waiting = wait_left (is_abortable_signal s) (is_abortable_signal t)
          (λ request. not (is_waiting_on agent signal request)) s.pending
          (λ r p is. other_signal s agent signal reason r.agent r.signal (untrue (is_waiting_on agent signal r) p) is)
          firm.waiting;
      holding = hold_left (is_abortable_signal s) (is_abortable_signal t) (λ lock. not (is_abortable agent signal lock))
          s.held
          (λ l p untaken is. other_signal s agent signal reason l.agent l.signal
          (and_true (l.agent == agent && is_signal signal l.signal)
          (rw untaken at (untrue (is_abortable agent signal l) p))) is) firm.holding;
    }))
  where
    and_true : (b : Bool) → (b && true) ≡ false → b ≡ false
    and_true true is = absurd (cc)
    and_true false is = refl

any_kept : {X : Type 0} (p q : X → Bool) (xs : List X) → ((x : X) → p x ≡ true → q x ≡ true) → list_any p xs ≡ true
    → list_any p (filter q xs) ≡ true
any_kept p q [] more is = is
any_kept {X} p q (x ∷ xs) more is = at_tests (p x) refl (q x) refl (any_kept p q xs more)
  where
    at_tests : (b : Bool) → p x ≡ b → (c : Bool) → q x ≡ c → (list_any p xs ≡ true → list_any p (filter q xs) ≡ true)
        → list_any p (cond c (x ∷ filter q xs) (filter q xs)) ≡ true
    at_tests true one true two rest = rw one refl
    at_tests true one false two rest = absurd (let no : true ≡ false = sym (more x one) ∙ two in cc)
    at_tests false one true two rest = rw one (rest (rw one at is))
    at_tests false one false two rest = rest (rw one at is)

-- a termination leaves the signals of other agents
reason_kept : (xs : List SignalRow) (agent other k : ℕ) → (other == agent) ≡ false
    → reason_in (filter (λ row. not (row.agent == agent)) xs) other k ≡ reason_in xs other k
reason_kept [] agent other k apart = refl
reason_kept (x ∷ xs) agent other k apart = at_tests (x.agent == agent) refl (x.agent == other && x.number == k) refl
    (reason_kept xs agent other k apart)
  where
    at_tests : (b : Bool) → (x.agent == agent) ≡ b → (c : Bool) → (x.agent == other && x.number == k) ≡ c
        → reason_in (filter (λ row. not (row.agent == agent)) xs) other k ≡ reason_in xs other k
        → reason_in (filter (λ row. not (row.agent == agent)) (x ∷ xs)) other k ≡ reason_in (x ∷ xs) other k
    at_tests true one true two rest =
        absurd (let same : x.agent ≡ other = eqb-true x.agent other (and_first (x.agent == other) (x.number == k) two)
        in
        let no : true ≡ false = sym (rw same at one) ∙ apart in cc)
    at_tests true one false two rest = rw (one, two) rest
    at_tests false one true two rest = rw one (rw two refl)
    at_tests false one false two rest = rw one (rw two rest)

other_agent : (s : State) (agent other : ℕ) (k : Option ℕ) → (other == agent) ≡ false
    → is_abortable_signal s other k ≡ true → is_abortable_signal (without_agent s agent) other k ≡ true
other_agent s agent other None apart is = refl
other_agent s agent other (Some k) apart is =
    all_three _ _ _ _ _ _
    (any_kept (λ (row : AgentRow). row.number == other) (λ row. not (row.number == agent)) s.agents
    (λ row p. let same : row.number ≡ other = eqb-true row.number other p in rw (same, apart) refl))
    (any_kept (λ (row : SignalRow). row.agent == other && row.number == k) (λ row. not (row.agent == agent)) s.signals
    (λ row p. let same : row.agent ≡ other = eqb-true row.agent other
    (and_first (row.agent == other) (row.number == k) p) in rw (same, apart) refl))
    (λ free. rw (reason_kept s.signals agent other k apart) free) is

firm_terminate : (s : State) (agent : ℕ) → Firm s → Firm (accepted s (Terminate agent)).state
firm_terminate s agent firm =
    let t = without_agent s agent in
    let waits = fewer (λ request. not (request.agent == agent)) s.pending in
    let holds = fewer (λ lock. not (lock.agent == agent)) s.held in
    let few = firm.few in
    firm_processed t (terminate_ends s agent) reply.Done (record {
      few = omega (arith, few, waits, holds);
      waiting = wait_left (is_abortable_signal s) (is_abortable_signal t) (λ request. not (request.agent == agent))
          s.pending (λ r p is. other_agent s agent r.agent r.signal (untrue (r.agent == agent) p) is) firm.waiting;
      holding = hold_left (is_abortable_signal s) (is_abortable_signal t) (λ lock. not (lock.agent == agent)) s.held
          (λ l p untaken is. other_agent s agent l.agent l.signal (untrue (l.agent == agent) p) is) firm.holding;
    })

firm_accepted : (s : State) (command : Command) → refusal s command ≡ None → Firm s → Firm (accepted s command).state
firm_accepted s (Enter kind) none firm =
    firm_as s (accepted s (Enter kind)).state refl refl (same_signals s (accepted s (Enter kind)).state
    (λ agent is. more_any (λ (row : AgentRow). row.number == agent) s.agents _ is) (λ a k is. is) (λ a k is. is)) firm
firm_accepted s (SetActive agent active) none firm = firm_active s agent active firm
firm_accepted s (NewSignal agent) none firm =
    firm_as s (accepted s (NewSignal agent)).state refl refl
    (same_signals s (accepted s (NewSignal agent)).state (λ a is. is)
    (λ a k is. more_any (λ (row : SignalRow). row.agent == a && row.number == k) s.signals _ is)
    (λ a k is. signal_added s.signals (record { agent = agent; number = s.next.signal; reason = None }) a k refl is))
    firm
firm_accepted s (Request agent ask) none firm = firm_request s agent ask (let_in s agent ask none) firm
firm_accepted s (Take id) none firm = firm_take s id firm
firm_accepted s (Release agent id) none firm = firm_release s agent id firm
firm_accepted s (Abort agent signal reason) none firm = firm_abort s agent signal reason firm
firm_accepted s (Terminate agent) none firm = firm_terminate s agent firm
firm_accepted s (Query agent) none firm = firm

pub stands_after_each : StandsAfterEach
stands_after_each s command standing = at_refusal (refusal s command) refl
  where
    firm : Firm s
    firm = record {
      few = standing.few;
      waiting = wait_all (is_abortable_signal s) s.pending standing.waiting;
      holding = hold_all (is_abortable_signal s) s.held standing.holding;
    }

    at_refusal : (o : Option Refusal) → refusal s command ≡ o → IsStanding (unless_refused o s command).state
    at_refusal (Some r) is = standing
    at_refusal None is =
        let t = (accepted s command).state in
        let after = firm_accepted s command is firm in
        record {
          numbered = accepted_numbered s command standing.numbered;
          few = after.few;
          waiting = wait_none (is_abortable_signal t) t.pending after.waiting;
          holding = hold_none (is_abortable_signal t) t.held after.holding;
        }

pub opening_stands : OpeningStands
opening_stands next = record {
  numbered = record { one = λ id. omega arith; below = λ id low. refl };
  few = omega arith;
  waiting = refl;
  holding = refl;
}

pub aborted_have_none : AbortedHaveNone
aborted_have_none s agent signal standing closed = none_in s.held
    (hold_all (is_abortable_signal s) s.held standing.holding)
  where
    none_in : (xs : List HeldRow) → Hold (is_abortable_signal s) xs
        → map (λ lock. lock.number) (filter (is_abortable agent signal) xs) ≡ []
    none_in [] all = refl
    none_in (x ∷ xs) all = at_test (is_abortable agent signal x) refl (none_in xs all.1)
      where
        absurd_here : (k : Option ℕ) → (x.agent == agent && is_signal signal k) ≡ true
            → is_abortable_signal s x.agent k ≡ true → ⊥
        absurd_here None own is = absurd (let no : (x.agent == agent && false) ≡ true = own
            in and_false (x.agent == agent) no)
          where
            and_false : (b : Bool) → (b && false) ≡ true → ⊥
            and_false true is = absurd (cc)
            and_false false is = absurd (cc)
        absurd_here (Some k) own is =
            let one : x.agent ≡ agent = eqb-true x.agent agent (and_first (x.agent == agent) (k == signal) own) in
            let two : k ≡ signal = eqb-true k signal (and_second (x.agent == agent) (k == signal) own) in
            let no : is_abortable_signal s agent (Some signal) ≡ true = rw (← one, ← two) is in
            absurd (let bad : true ≡ false = sym no ∙ closed in cc)

        at_test : (b : Bool) → is_abortable agent signal x ≡ b
            → map (λ lock. lock.number) (filter (is_abortable agent signal) xs) ≡ []
            → map (λ lock. lock.number) (cond b (x ∷ filter (is_abortable agent signal) xs)
            (filter (is_abortable agent signal) xs)) ≡ []
        at_test false is rest = rest
        at_test true is rest = absurd (absurd_here x.signal
            (and_first (x.agent == agent && is_signal signal x.signal) (not x.taken) is)
            (untaken x.taken (and_second (x.agent == agent && is_signal signal x.signal) (not x.taken) is) all.0))
          where
            untaken : (t : Bool) → not t ≡ true → (t || is_abortable_signal s x.agent x.signal) ≡ true
                → is_abortable_signal s x.agent x.signal ≡ true
            untaken true free was = absurd (cc)
            untaken false free was = was

pub standing_by_step : (s : State) (command : Command) (new : State) (answer : Reply) (changes : List Change)
    → step s command ≡ record { state = new; reply = answer; changes = changes } → IsStanding s → IsStanding new
standing_by_step s command new answer changes gives standing =
    subst (λ (o : StepResult). IsStanding o.state) gives (stands_after_each s command standing)
