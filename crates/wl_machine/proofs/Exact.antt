-- Rows, and states, that are the same are equal.
use Rattle.std.proofs.Common.{◌≡◌, ℕ, Bool, true, false, List, [], ◌∷◌, refl, ap, ◌==◌}
use Rattle.std.proofs.lemmas.Bool.{eqb-true}
use Rattle.std.proofs.lemmas.Slice.Eq.{bytes_eq-Decides}
use Rattle.std.proofs.Math.Bool.{beq}
use Rattle.std.specs.Prelude.{◌&&◌, Option, Some, None}
use Rattle.std.specs.Option.{option_eq}
use Rattle.std.specs.Str.{bytes_eq}
use Rattle.std.specs.Cmp.Lexicographic.{pointwise}
use Rattle.wl_types.specs.declared.words.Mode.{Mode}
use Rattle.wl_types.specs.declared.words.Mode.TheVariants.{Exclusive, Shared}
use Rattle.wl_types.specs.declared.words.Kind.{Kind}
use Rattle.wl_types.specs.declared.words.Kind.TheVariants.{Window, Worker}
use Rattle.wl_types.specs.declared.words.Reason.{Reason}
use Rattle.wl_types.specs.declared.words.Reason.TheVariants.{AbortError, TimeoutError, Code}
use Rattle.wl_types.specs.declared.phases.Numbers.{Numbers}
use Rattle.wl_machine.specs.declared.rows.AgentRow.{AgentRow}
use Rattle.wl_machine.specs.declared.rows.SignalRow.{SignalRow}
use Rattle.wl_machine.specs.declared.rows.HeldRow.{HeldRow}
use Rattle.wl_machine.specs.declared.rows.PendingRow.{PendingRow}
use Rattle.wl_machine.specs.State.{State}
use Rattle.wl_machine.specs.Grants.{is_exclusive}
use Rattle.wl_machine.specs.Refusals.{is_window}
use Rattle.wl_machine.specs.Same.{same_reason, same_agent, same_signal, same_lock, same_request, same_numbers}
use Rattle.wl_machine.specs.Same.{same_state}
use Rattle.wl_machine.specs.Laws.{SameIsEqual}
use Rattle.wl_machine.specs.Alike.{same_state_equiv}
use Rattle.wl_machine.proofs.Lists.{and_first, and_second}

both : (a b : Bool) → (a && b) ≡ true → (a ≡ true) × (b ≡ true)
both a b is = (and_first a b is, and_second a b is)

pointwise_exact : {X : Type 0} (same : X → X → Bool) → ((a b : X) → same a b ≡ true → a ≡ b) → (xs ys : List X)
    → pointwise same xs ys ≡ true → xs ≡ ys
pointwise_exact same exact [] [] is = refl
pointwise_exact same exact [] (y ∷ ys) is = absurd (cc (is))
pointwise_exact same exact (x ∷ xs) [] is = absurd (cc (is))
pointwise_exact same exact (x ∷ xs) (y ∷ ys) is =
    let parts = both (same x y) (pointwise same xs ys) is in
    let first : x ≡ y = exact x y parts.0 in
    let rest : xs ≡ ys = pointwise_exact same exact xs ys parts.1 in
    rw (first, rest) refl

option_exact : {X : Type 0} (same : X → X → Bool) → ((a b : X) → same a b ≡ true → a ≡ b) → (one other : Option X)
    → option_eq same one other ≡ true → one ≡ other
option_exact same exact None None is = refl
option_exact same exact None (Some y) is = absurd (cc (is))
option_exact same exact (Some x) None is = absurd (cc (is))
option_exact {X} same exact (Some x) (Some y) is = ap (λ (v : X). Some v) (exact x y is)

number_exact : (a b : ℕ) → (a == b) ≡ true → a ≡ b
number_exact a b is = eqb-true a b is

text_exact : (a b : List ℕ) → bytes_eq a b ≡ true → a ≡ b
text_exact a b is = (bytes_eq-Decides a b).0 is

bool_exact : (a b : Bool) → beq a b ≡ true → a ≡ b
bool_exact true true is = refl
bool_exact false false is = refl
bool_exact true false is = absurd (cc (is))
bool_exact false true is = absurd (cc (is))

mode_exact : (a b : Mode) → beq (is_exclusive a) (is_exclusive b) ≡ true → a ≡ b
mode_exact Exclusive Exclusive is = refl
mode_exact Shared Shared is = refl
mode_exact Exclusive Shared is = absurd (cc (is))
mode_exact Shared Exclusive is = absurd (cc (is))

kind_exact : (a b : Kind) → beq (is_window a) (is_window b) ≡ true → a ≡ b
kind_exact Window Window is = refl
kind_exact Worker Worker is = refl
kind_exact Window Worker is = absurd (cc (is))
kind_exact Worker Window is = absurd (cc (is))

reason_exact : (a b : Reason) → same_reason a b ≡ true → a ≡ b
reason_exact AbortError AbortError is = refl
reason_exact TimeoutError TimeoutError is = refl
reason_exact (Code a) (Code b) is = ap (λ (code : ℕ). Code code) (number_exact a b is)
reason_exact a b is = absurd (cc (is))

abbrev agent_row_of : ℕ → Kind → Bool → AgentRow
agent_row_of the_number the_kind the_active = record { number = the_number; kind = the_kind; active = the_active }

agent_exact : (a b : AgentRow) → same_agent a b ≡ true → a ≡ b
agent_exact a b is =
    let one = both (a.number == b.number) _ is in
    let two = both (beq (is_window a.kind) (is_window b.kind)) _ one.1 in
    let number : a.number ≡ b.number = number_exact a.number b.number one.0 in
    let kind : a.kind ≡ b.kind = kind_exact a.kind b.kind two.0 in
    let active : a.active ≡ b.active = bool_exact a.active b.active two.1 in
    let equal : agent_row_of a.number a.kind a.active ≡ agent_row_of b.number b.kind b.active =
    rw (number, kind, active) refl in
    equal

abbrev signal_row_of : ℕ → ℕ → Option Reason → SignalRow
signal_row_of the_agent the_number the_reason = record { agent = the_agent; number = the_number; reason = the_reason }

signal_exact : (a b : SignalRow) → same_signal a b ≡ true → a ≡ b
signal_exact a b is =
    let one = both (a.agent == b.agent) _ is in
    let two = both (a.number == b.number) _ one.1 in
    let agent : a.agent ≡ b.agent = number_exact a.agent b.agent one.0 in
    let number : a.number ≡ b.number = number_exact a.number b.number two.0 in
    let reason : a.reason ≡ b.reason = option_exact same_reason reason_exact a.reason b.reason two.1 in
    let equal : signal_row_of a.agent a.number a.reason ≡ signal_row_of b.agent b.number b.reason =
    rw (agent, number, reason) refl in
    equal

abbrev pending_row_of : ℕ → ℕ → List ℕ → Mode → Option ℕ → PendingRow
pending_row_of the_number the_agent the_name the_mode the_signal =
    record { number = the_number; agent = the_agent; name = the_name; mode = the_mode; signal = the_signal }

request_exact : (a b : PendingRow) → same_request a b ≡ true → a ≡ b
request_exact a b is =
    let one = both (a.number == b.number) _ is in
    let two = both (a.agent == b.agent) _ one.1 in
    let three = both (bytes_eq a.name b.name) _ two.1 in
    let four = both (beq (is_exclusive a.mode) (is_exclusive b.mode)) _ three.1 in
    let number : a.number ≡ b.number = number_exact a.number b.number one.0 in
    let agent : a.agent ≡ b.agent = number_exact a.agent b.agent two.0 in
    let name : a.name ≡ b.name = text_exact a.name b.name three.0 in
    let mode : a.mode ≡ b.mode = mode_exact a.mode b.mode four.0 in
    let signal : a.signal ≡ b.signal = option_exact ◌==◌ number_exact a.signal b.signal four.1 in
    let equal : pending_row_of a.number a.agent a.name a.mode a.signal
    ≡ pending_row_of b.number b.agent b.name b.mode b.signal = rw (number, agent, name, mode, signal) refl in
    equal

abbrev held_row_of : ℕ → ℕ → List ℕ → Mode → Option ℕ → Bool → HeldRow
held_row_of the_number the_agent the_name the_mode the_signal the_taken =
    record {
      number = the_number;
      agent = the_agent;
      name = the_name;
      mode = the_mode;
      signal = the_signal;
      taken = the_taken;
    }

lock_exact : (a b : HeldRow) → same_lock a b ≡ true → a ≡ b
lock_exact a b is =
    let one = both (a.number == b.number) _ is in
    let two = both (a.agent == b.agent) _ one.1 in
    let three = both (bytes_eq a.name b.name) _ two.1 in
    let four = both (beq (is_exclusive a.mode) (is_exclusive b.mode)) _ three.1 in
    let five = both (option_eq ◌==◌ a.signal b.signal) _ four.1 in
    let number : a.number ≡ b.number = number_exact a.number b.number one.0 in
    let agent : a.agent ≡ b.agent = number_exact a.agent b.agent two.0 in
    let name : a.name ≡ b.name = text_exact a.name b.name three.0 in
    let mode : a.mode ≡ b.mode = mode_exact a.mode b.mode four.0 in
    let signal : a.signal ≡ b.signal = option_exact ◌==◌ number_exact a.signal b.signal five.0 in
    let taken : a.taken ≡ b.taken = bool_exact a.taken b.taken five.1 in
    let equal : held_row_of a.number a.agent a.name a.mode a.signal a.taken
    ≡ held_row_of b.number b.agent b.name b.mode b.signal b.taken = rw (number, agent, name, mode, signal, taken) refl
    in
    equal

abbrev numbers_of : ℕ → ℕ → ℕ → Numbers
numbers_of the_agent the_request the_signal = record { agent = the_agent; request = the_request; signal = the_signal }

numbers_exact : (a b : Numbers) → same_numbers a b ≡ true → a ≡ b
numbers_exact a b is =
    let one = both (a.agent == b.agent) _ is in
    let two = both (a.request == b.request) _ one.1 in
    let agent : a.agent ≡ b.agent = number_exact a.agent b.agent one.0 in
    let request : a.request ≡ b.request = number_exact a.request b.request two.0 in
    let signal : a.signal ≡ b.signal = number_exact a.signal b.signal two.1 in
    let equal : numbers_of a.agent a.request a.signal ≡ numbers_of b.agent b.request b.signal =
    rw (agent, request, signal) refl in
    equal

abbrev state_of : List AgentRow → List SignalRow → List (List ℕ) → List HeldRow → List PendingRow → Numbers → State
state_of the_agents the_signals the_names the_held the_pending the_next =
    record {
      agents = the_agents;
      signals = the_signals;
      names = the_names;
      held = the_held;
      pending = the_pending;
      next = the_next;
    }

exact : (s t : State) → same_state s t ≡ true → s ≡ t
exact s t is =
    let one = both (pointwise same_agent s.agents t.agents) _ is in
    let two = both (pointwise same_signal s.signals t.signals) _ one.1 in
    let three = both (pointwise bytes_eq s.names t.names) _ two.1 in
    let four = both (pointwise same_lock s.held t.held) _ three.1 in
    let five = both (pointwise same_request s.pending t.pending) _ four.1 in
    let agents : s.agents ≡ t.agents = pointwise_exact same_agent agent_exact s.agents t.agents one.0 in
    let signals : s.signals ≡ t.signals = pointwise_exact same_signal signal_exact s.signals t.signals two.0 in
    let names : s.names ≡ t.names = pointwise_exact bytes_eq text_exact s.names t.names three.0 in
    let held : s.held ≡ t.held = pointwise_exact same_lock lock_exact s.held t.held four.0 in
    let pending : s.pending ≡ t.pending = pointwise_exact same_request request_exact s.pending t.pending five.0 in
    let next : s.next ≡ t.next = numbers_exact s.next t.next five.1 in
    let equal : state_of s.agents s.signals s.names s.held s.pending s.next
    ≡ state_of t.agents t.signals t.names t.held t.pending t.next =
    rw (agents, signals, names, held, pending, next) refl in
    equal

pub same_is_equal : SameIsEqual
same_is_equal s t = (exact s t, λ equal. rw equal (same_state_equiv.refl t))
