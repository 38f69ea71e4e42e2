-- Agents and signals by number: what a look-up, a write or one more means for the machine's lists.
use Rattle.std.proofs.Common.{◌≡◌, ℕ, suc, ◌+◌, ◌<◌, ◌==◌, Bool, true, false, cond, List, [], ◌∷◌, ◌++◌, length, map}
use Rattle.std.proofs.Common.{refl, ap, subst, sym, ◌∙◌, arith, append-nil}
use Rattle.std.specs.Prelude.{not, ◌&&◌, ◌||◌, Option, Some, None, is_some}
use Rattle.std.specs.Option.{IsSome}
use Rattle.std.specs.List.{list_any, AllByRecursion}
use Rattle.std.specs.List.Sorted.{IsStrictlySortedBy}
use Rattle.std.specs.Map.{keys_of, lookup, set_value}
use Rattle.std.specs.BTreeMap.{is_at, insert_entry}
use Rattle.std.specs.Ordering.{nat_cmp}
use Rattle.std.proofs.lemmas.Bool.Decides.{nat_tests}
use Rattle.std.proofs.lemmas.Map.Keys.{sorted_head, sorted_tail}
use Rattle.std.proofs.lemmas.Map.{keys-set_value}
use Rattle.std.proofs.lemmas.Map.Made.{is_some-lookup}
use Rattle.std.proofs.lemmas.List.{map-append}
use Rattle.std.proofs.lemmas.List.Elements.{filter-append}
use Rattle.wl_types.specs.declared.words.Reason.{Reason}
use Rattle.wl_types.specs.declared.words.Kind.{Kind}
use Rattle.wl_machine.specs.declared.rows.AgentRow.{AgentRow}
use Rattle.wl_machine.specs.declared.rows.SignalRow.{SignalRow}
use Rattle.wl_machine.specs.Refusals.{is_window, reason_in, signals_of}
use Rattle.wl_machine.specs.Step.{with_active}
use Rattle.wl_machine.proofs.Lists.{any_both, any_map, any_same}
use Rattle.wl_index.specs.declared.agent.Agent.{Agent}
use Rattle.wl_index.specs.declared.agent.Signal.{Signal}
use Rattle.wl_index.specs.inner.AgentRows.{agent_row, signal_row, made_by, IsAgentIndex, at_some, reason_at}
use Rattle.wl_index.proofs.Lists.{all_append, all_front, all_back, all_weaker}
use Rattle.wl_number_map.proofs.Keyed.{Found, found, entry_last, same_number, number_same, above_apart}

-- ---- a look-up

any_apart : {X : Type 0} (q : X → Bool) (id : ℕ) (es : List (ℕ × X))
    → AllByRecursion (λ (e : ℕ × X). (e.0 == id) ≡ false) es → list_any (λ (e : ℕ × X). (e.0 == id) && q e.1) es ≡ false
any_apart q id [] apart = refl
any_apart q id (e ∷ es) apart = rw apart.0 (any_apart q id es apart.1)

-- a test of the entry of a number
pub any_at : {X : Type 0} (q : X → Bool) (id : ℕ) (es : List (ℕ × X)) → IsStrictlySortedBy nat_cmp (keys_of es)
    → list_any (λ (e : ℕ × X). (e.0 == id) && q e.1) es ≡ at_some q (lookup (is_at (nat_cmp id)) es)
any_at q id [] sorted = refl
any_at {X} q id (e ∷ es) sorted = by (e.0 == id) refl (any_at q id es (sorted_tail nat_cmp e.0 (keys_of es) sorted))
  where
    or_false : (b : Bool) → (b || false) ≡ b
    or_false true = refl
    or_false false = refl

    by : (b : Bool) → (e.0 == id) ≡ b → list_any (λ (x : ℕ × X). (x.0 == id) && q x.1) es
        ≡ at_some q (lookup (is_at (nat_cmp id)) es)
        → (((e.0 == id) && q e.1) || list_any (λ (x : ℕ × X). (x.0 == id) && q x.1) es)
        ≡ at_some q (cond (is_at (nat_cmp id) e.0) (Some e.1) (lookup (is_at (nat_cmp id)) es))
    by true h rest = rw (
      same_number id e.0,
      h,
      any_apart q id es
          (above_apart id e.0 es h (sorted_head nat_cmp e.0 (keys_of es) sorted)),
    ) (or_false (q e.1))
    by false h rest = rw (same_number id e.0, h) rest

any_like : {X : Type 0} (p q : X → Bool) → ((x : X) → p x ≡ q x) → (l : List X) → list_any p l ≡ list_any q l
any_like p q same [] = refl
any_like p q same (x ∷ l) = rw (same x, any_like p q same l) refl

and_true : (b : Bool) → (b && true) ≡ b
and_true true = refl
and_true false = refl

and_swap : (a b : Bool) → (a && b) ≡ (b && a)
and_swap true true = refl
and_swap true false = refl
and_swap false true = refl
and_swap false false = refl

there : {X : Type 0} (o : Option X) → at_some (λ x. true) o ≡ is_some o
there None = refl
there (Some x) = refl

pub agent_there : (agent : ℕ) (es : List (ℕ × Agent)) → IsStrictlySortedBy nat_cmp (keys_of es)
    → list_any (λ row. row.number == agent) (map agent_row es) ≡ is_some (lookup (is_at (nat_cmp agent)) es)
agent_there agent es sorted =
    any_map (λ (row : AgentRow). row.number == agent) agent_row es
    ∙ any_like (λ (e : ℕ × Agent). e.0 == agent) (λ e. (e.0 == agent) && true) (λ e. sym (and_true (e.0 == agent))) es
    ∙ any_at (λ (m : Agent). true) agent es sorted ∙ there (lookup (is_at (nat_cmp agent)) es)

pub agent_test : (q : Kind → Bool → Bool) (agent : ℕ) (es : List (ℕ × Agent)) → IsStrictlySortedBy nat_cmp (keys_of es)
    → list_any (λ row. (row.number == agent) && q row.kind row.active) (map agent_row es)
    ≡ at_some (λ m. q m.kind m.active) (lookup (is_at (nat_cmp agent)) es)
agent_test q agent es sorted = any_map (λ (row : AgentRow). (row.number == agent) && q row.kind row.active) agent_row es
    ∙ any_at (λ (m : Agent). q m.kind m.active) agent es sorted

pub signal_there : (agent signal : ℕ) (es : List (ℕ × Signal)) → IsStrictlySortedBy nat_cmp (keys_of es)
    → list_any (λ row. (row.agent == agent) && (row.number == signal)) (map signal_row es)
    ≡ at_some (λ s. s.agent == agent) (lookup (is_at (nat_cmp signal)) es)
signal_there agent signal es sorted =
    any_map (λ (row : SignalRow). (row.agent == agent) && (row.number == signal)) signal_row es
    ∙ any_like (λ (e : ℕ × Signal). (e.1.agent == agent) && (e.0 == signal))
    (λ e. (e.0 == signal) && (e.1.agent == agent)) (λ e. and_swap (e.1.agent == agent) (e.0 == signal)) es
    ∙ any_at (λ (s : Signal). s.agent == agent) signal es sorted

no_reason : (agent signal : ℕ) (es : List (ℕ × Signal)) → AllByRecursion (λ (e : ℕ × Signal). (e.0 == signal) ≡ false)
    es → reason_in (map signal_row es) agent signal ≡ None
no_reason agent signal [] apart = refl
no_reason agent signal (e ∷ es) apart = by (e.1.agent == agent) (no_reason agent signal es apart.1)
  where
    by : (b : Bool) → reason_in (map signal_row es) agent signal ≡ None
        → cond (b && (e.0 == signal)) e.1.reason (reason_in (map signal_row es) agent signal) ≡ None
    by true rest = rw apart.0 rest
    by false rest = rest

pub reason_found : (agent signal : ℕ) (es : List (ℕ × Signal)) → IsStrictlySortedBy nat_cmp (keys_of es)
    → reason_in (map signal_row es) agent signal ≡ reason_at agent (lookup (is_at (nat_cmp signal)) es)
reason_found agent signal [] sorted = refl
reason_found agent signal (e ∷ es) sorted = by (e.0 == signal) refl (e.1.agent == agent) refl
    (reason_found agent signal es (sorted_tail nat_cmp e.0 (keys_of es) sorted))
  where
    by : (b : Bool) → (e.0 == signal) ≡ b → (k : Bool) → (e.1.agent == agent) ≡ k
        → reason_in (map signal_row es) agent signal ≡ reason_at agent (lookup (is_at (nat_cmp signal)) es)
        → cond ((e.1.agent == agent) && (e.0 == signal)) e.1.reason (reason_in (map signal_row es) agent signal)
        ≡ reason_at agent (cond (is_at (nat_cmp signal) e.0) (Some e.1) (lookup (is_at (nat_cmp signal)) es))
    by true h true k rest = rw (same_number signal e.0, h, k) refl
    by true h false k rest = rw (same_number signal e.0, h, k)
        (no_reason agent signal es (above_apart signal e.0 es h (sorted_head nat_cmp e.0 (keys_of es) sorted)))
    by false h true k rest = rw (same_number signal e.0, h, k) rest
    by false h false k rest = rw (same_number signal e.0, h, k) rest

-- ---- one agent made active or inactive

pub active_set : (agent : ℕ) (active : Bool) (es : List (ℕ × Agent)) (m : Agent) → Found agent es m
    → map agent_row (set_value (is_at (nat_cmp agent)) es (record m { active = active }))
    ≡ map (with_active agent active) (map agent_row es)
active_set agent active es m f =
    let now : Agent = record m { active = active } in
    ap (map agent_row) (f.set now) ∙ map-append agent_row f.front ((agent, now) ∷ f.back)
    ∙ sym (ap (λ l. map (with_active agent active) (map agent_row l)) f.whole
    ∙ ap (map (with_active agent active)) (map-append agent_row f.front ((agent, m) ∷ f.back))
    ∙ map-append (with_active agent active) (map agent_row f.front) (agent_row (agent, m) ∷ map agent_row f.back)
    ∙ rw (apart_same f.front f.low, number_same agent, apart_same f.back f.high) refl)
  where
    apart_same : (l : List (ℕ × Agent)) → AllByRecursion (λ (e : ℕ × Agent). (e.0 == agent) ≡ false) l
        → map (with_active agent active) (map agent_row l) ≡ map agent_row l
    apart_same [] all = refl
    apart_same (e ∷ l) all = rw (all.0, apart_same l all.1) refl

pub active_none : (agent : ℕ) (active : Bool) (es : List (ℕ × Agent)) → lookup (is_at (nat_cmp agent)) es ≡ None
    → map (with_active agent active) (map agent_row es) ≡ map agent_row es
active_none agent active [] none = refl
active_none agent active (e ∷ es) none = by (e.0 == agent) refl (active_none agent active es)
  where
    seen : (b : Bool) → (e.0 == agent) ≡ b → cond b (Some e.1) (lookup (is_at (nat_cmp agent)) es) ≡ None
    seen b h = sym (ap (λ c. cond c (Some e.1) (lookup (is_at (nat_cmp agent)) es)) (same_number agent e.0 ∙ h)) ∙ none

    by : (b : Bool) → (e.0 == agent) ≡ b → (lookup (is_at (nat_cmp agent)) es ≡ None
        → map (with_active agent active) (map agent_row es) ≡ map agent_row es)
        → with_active agent active (agent_row e) ∷ map (with_active agent active) (map agent_row es)
        ≡ agent_row e ∷ map agent_row es
    by true h rest = absurd (let no = seen true h in cc (no))
    by false h rest = rw (h, rest (seen false h)) refl

-- an agent written with the same list of signals
pub index_stays : (agent : ℕ) (es : List (ℕ × Agent)) (signals : List (ℕ × Signal)) (next_agent next_signal : ℕ)
    (m now : Agent) → IsAgentIndex es signals next_agent next_signal → Found agent es m
    → keys_of now.signals.entries ≡ keys_of m.signals.entries
    → IsAgentIndex (set_value (is_at (nat_cmp agent)) es now) signals next_agent next_signal
index_stays agent es signals next_agent next_signal m now is f same =
    let B : ℕ × Agent → Type 0 = λ e. e.0 < next_agent in
    let L : ℕ × Agent → Type 0 = λ e. keys_of e.1.signals.entries ≡ made_by e.0 signals in
    let below = subst (AllByRecursion B) f.whole is.members_below in
    let listed = subst (AllByRecursion L) f.whole is.listed in
    let back = all_back L f.front ((agent, m) ∷ f.back) listed in
    record {
      members_ordered = rw (keys-set_value (is_at (nat_cmp agent)) es now) is.members_ordered;
      signals_ordered = is.signals_ordered;
      members_below = rw (f.set now) (all_append B f.front ((agent, now) ∷ f.back)
          (all_front B f.front ((agent, m) ∷ f.back) below) (all_back B f.front ((agent, m) ∷ f.back) below));
      signals_below = is.signals_below;
      owners_below = is.owners_below;
      listed = rw (f.set now) (all_append L f.front ((agent, now) ∷ f.back)
          (all_front L f.front ((agent, m) ∷ f.back) listed) (same ∙ back.0, back.1));
    }

pub active_index : (agent : ℕ) (active : Bool) (es : List (ℕ × Agent)) (signals : List (ℕ × Signal))
    (next_agent next_signal : ℕ) (m : Agent) → IsAgentIndex es signals next_agent next_signal
    → lookup (is_at (nat_cmp agent)) es ≡ Some m
    → IsAgentIndex (set_value (is_at (nat_cmp agent)) es (record m { active = active })) signals next_agent next_signal
active_index agent active es signals next_agent next_signal m is at =
    index_stays agent es signals next_agent next_signal m (record m { active = active }) is
    (found agent es m is.members_ordered at) refl

-- ---- one agent more

no_signals : (agent : ℕ) (es : List (ℕ × Signal)) → AllByRecursion (λ (e : ℕ × Signal). e.1.agent < agent) es
    → made_by agent es ≡ []
no_signals agent [] all = refl
no_signals agent (e ∷ es) all =
    let no : (e.1.agent == agent) ≡ false = (let less = all.0 in grind (arith, nat_tests, less)) in
    rw no (no_signals agent es all.1)

pub opened_index : (es es' : List (ℕ × Agent)) (signals : List (ℕ × Signal)) (next_agent next_signal : ℕ) (m : Agent)
    → IsAgentIndex es signals next_agent next_signal → keys_of m.signals.entries ≡ []
    → es' ≡ insert_entry nat_cmp es next_agent m → IsStrictlySortedBy nat_cmp (keys_of es')
    → IsAgentIndex es' signals (next_agent + 1) next_signal
opened_index es es' signals next_agent next_signal m is none set sorted =
    let last : es' ≡ es ++ (next_agent, m) ∷ [] = set ∙ entry_last es next_agent m is.members_below in
    let L : ℕ × Agent → Type 0 = λ e. keys_of e.1.signals.entries ≡ made_by e.0 signals in
    record {
      members_ordered = sorted;
      signals_ordered = is.signals_ordered;
      members_below = rw last (all_append (λ (e : ℕ × Agent). e.0 < next_agent + 1) es ((next_agent, m) ∷ [])
          (all_weaker (λ (e : ℕ × Agent). e.0 < next_agent) (λ e. e.0 < next_agent + 1) es
          (λ e less. omega (arith, less))
          is.members_below) (omega arith, tt));
      signals_below = is.signals_below;
      owners_below = all_weaker (λ (e : ℕ × Signal). e.1.agent < next_agent) (λ e. e.1.agent < next_agent + 1) signals
          (λ e less. omega (arith, less)) is.owners_below;
      listed = rw last (all_append L es ((next_agent, m) ∷ []) is.listed
          (none ∙ sym (no_signals next_agent signals is.owners_below), tt));
    }

pub opened_rows : (es es' : List (ℕ × Agent)) (next_agent : ℕ) (m : Agent)
    → AllByRecursion (λ (e : ℕ × Agent). e.0 < next_agent) es → es' ≡ insert_entry nat_cmp es next_agent m
    → map agent_row es' ≡ map agent_row es ++ agent_row (next_agent, m) ∷ []
opened_rows es es' next_agent m below set = ap (map agent_row) (set ∙ entry_last es next_agent m below)
    ∙ map-append agent_row es ((next_agent, m) ∷ [])

pub keys_length : {X : Type 0} (es : List (ℕ × X)) → length (keys_of es) ≡ length es
keys_length [] = refl
keys_length (e ∷ es) = ap suc (keys_length es)

pub some_is : {X : Type 0} (o : Option X) → is_some o ≡ true → IsSome o
some_is None h = absurd (cc)
some_is (Some x) h = refl

-- an agent's list of signals
pub listed_at : (agent : ℕ) (es : List (ℕ × Agent)) (signals : List (ℕ × Signal)) (next_agent next_signal : ℕ)
    (m : Agent) → IsAgentIndex es signals next_agent next_signal → lookup (is_at (nat_cmp agent)) es ≡ Some m
    → keys_of m.signals.entries ≡ made_by agent signals
listed_at agent es signals next_agent next_signal m is at =
    let f = found agent es m is.members_ordered at in
    let L : ℕ × Agent → Type 0 = λ e. keys_of e.1.signals.entries ≡ made_by e.0 signals in
    (all_back L f.front ((agent, m) ∷ f.back) (subst (AllByRecursion L) f.whole is.listed)).0

-- a signal that an agent made is on that list
pub signal_made : (agent signal : ℕ) (m : Agent) (signals : List (ℕ × Signal))
    → keys_of m.signals.entries ≡ made_by agent signals → list_any
    (λ row. (row.agent == agent) && (row.number == signal))
    (map signal_row signals) ≡ true → IsSome (lookup (is_at (nat_cmp signal)) m.signals.entries)
signal_made agent signal m signals listed made =
    let rows = map signal_row signals in
    some_is _ (is_some-lookup (is_at (nat_cmp signal)) m.signals.entries ∙ ap (list_any (is_at (nat_cmp signal))) listed
    ∙ any_map (is_at (nat_cmp signal)) (λ (row : SignalRow). row.number) (signals_of agent rows)
    ∙ sym (any_both (λ (row : SignalRow). row.agent == agent) (λ row. is_at (nat_cmp signal) row.number) rows)
    ∙ any_same (λ (row : SignalRow). (row.agent == agent) && is_at (nat_cmp signal) row.number)
    (λ row. (row.agent == agent) && (row.number == signal)) rows (λ row. rw (same_number signal row.number) refl)
    ∙ made)

and_assoc : (a b c : Bool) → ((a && b) && c) ≡ (a && (b && c))
and_assoc true b c = refl
and_assoc false b c = refl

pub agent_inactive : (agent : ℕ) (es : List (ℕ × Agent)) → IsStrictlySortedBy nat_cmp (keys_of es)
    → list_any (λ row. ((row.number == agent) && is_window row.kind) && not row.active) (map agent_row es)
    ≡ at_some (λ m. is_window m.kind && not m.active) (lookup (is_at (nat_cmp agent)) es)
agent_inactive agent es sorted =
    any_like (λ (row : AgentRow). ((row.number == agent) && is_window row.kind) && not row.active)
    (λ row. (row.number == agent) && (is_window row.kind && not row.active))
    (λ row. and_assoc (row.number == agent) (is_window row.kind) (not row.active)) (map agent_row es)
    ∙ agent_test (λ kind active. is_window kind && not active) agent es sorted

-- ---- one signal more

abbrev row_of : ℕ → Kind → Bool → AgentRow
row_of n k a = record { number = n; kind = k; active = a }

same_row : (n : ℕ) (k k' : Kind) (a a' : Bool) → k ≡ k' → a ≡ a' → row_of n k a ≡ row_of n k' a'
same_row n k k' a a' one two = rw (one, two) refl

pub rows_stay : (agent : ℕ) (es : List (ℕ × Agent)) (m now : Agent) → Found agent es m → now.kind ≡ m.kind
    → now.active ≡ m.active → map agent_row (set_value (is_at (nat_cmp agent)) es now) ≡ map agent_row es
rows_stay agent es m now f kind active =
    ap (map agent_row) (f.set now) ∙ map-append agent_row f.front ((agent, now) ∷ f.back)
    ∙ ap (λ r. map agent_row f.front ++ r ∷ map agent_row f.back)
    (same_row agent now.kind m.kind now.active m.active kind active)
    ∙ sym (ap (map agent_row) f.whole ∙ map-append agent_row f.front ((agent, m) ∷ f.back))

made_more : (agent owner number : ℕ) (reason : Option Reason) (signals : List (ℕ × Signal))
    → made_by agent (signals ++ (number, record { agent = owner; reason = reason }) ∷ [])
    ≡ made_by agent signals ++ cond (owner == agent) (number ∷ []) []
made_more agent owner number reason signals =
    ap (λ l. map (λ (row : SignalRow). row.number) (signals_of agent l))
    (map-append signal_row signals ((number, record { agent = owner; reason = reason }) ∷ []))
    ∙ ap (map (λ (row : SignalRow). row.number)) (filter-append (λ (row : SignalRow). row.agent == agent)
    (map signal_row signals) (signal_row (number, record { agent = owner; reason = reason }) ∷ []))
    ∙ map-append (λ (row : SignalRow). row.number) (signals_of agent (map signal_row signals))
    (signals_of agent (signal_row (number, record { agent = owner; reason = reason }) ∷ []))
    ∙ ap (λ l. made_by agent signals ++ l) (by (owner == agent))
  where
    by : (b : Bool) → map (λ (row : SignalRow). row.number)
        (cond b (signal_row (number, record { agent = owner; reason = reason }) ∷ []) []) ≡ cond b (number ∷ []) []
    by true = refl
    by false = refl

made_below : (agent next : ℕ) (signals : List (ℕ × Signal)) → AllByRecursion (λ (e : ℕ × Signal). e.0 < next) signals
    → AllByRecursion (λ k. k < next) (made_by agent signals)
made_below agent next [] all = tt
made_below agent next (e ∷ signals) all = by (e.1.agent == agent) (made_below agent next signals all.1)
  where
    by : (b : Bool) → AllByRecursion (λ k. k < next) (made_by agent signals)
        → AllByRecursion (λ k. k < next) (map (λ (row : SignalRow). row.number)
        (cond b (signal_row e ∷ signals_of agent (map signal_row signals)) (signals_of agent (map signal_row signals))))
    by true rest = (all.0, rest)
    by false rest = rest

keys_all : {X : Type 0} (P : ℕ → Type 0) (es : List (ℕ × X)) → AllByRecursion P (keys_of es)
    → AllByRecursion (λ (e : ℕ × X). P e.0) es
keys_all P [] all = tt
keys_all P (e ∷ es) all = (all.0, keys_all P es all.1)

others_listed : (agent number : ℕ) (reason : Option Reason) (signals : List (ℕ × Signal)) (l : List (ℕ × Agent))
    → AllByRecursion (λ (e : ℕ × Agent). (e.0 == agent) ≡ false) l
    → AllByRecursion (λ (e : ℕ × Agent). keys_of e.1.signals.entries ≡ made_by e.0 signals) l
    → AllByRecursion (λ (e : ℕ × Agent). keys_of e.1.signals.entries
    ≡ made_by e.0 (signals ++ (number, record { agent = agent; reason = reason }) ∷ [])) l
others_listed agent number reason signals [] apart all = tt
others_listed agent number reason signals (e ∷ l) apart all =
    let no : (agent == e.0) ≡ false = (let h = apart.0 in grind (arith, nat_tests, h)) in (
      all.0 ∙ sym (made_more e.0 agent number reason signals
          ∙ ap (λ b. made_by e.0 signals ++ cond b (number ∷ []) []) no ∙ append-nil (made_by e.0 signals)),
      others_listed agent number reason signals l apart.1 all.1,
    )

-- an agent's signals are below the next
pub signals_lower : (agent next : ℕ) (m : Agent) (signals : List (ℕ × Signal))
    → keys_of m.signals.entries ≡ made_by agent signals → AllByRecursion (λ (e : ℕ × Signal). e.0 < next) signals
    → AllByRecursion (λ e. e.0 < next) m.signals.entries
signals_lower agent next m signals listed below = keys_all (λ k. k < next) m.signals.entries
    (rw listed (made_below agent next signals below))

-- a key above all goes last
pub keys_last : {X : Type 0} (es es' : List (ℕ × X)) (k : ℕ) (x : X) → es' ≡ insert_entry nat_cmp es k x
    → AllByRecursion (λ n. n < k) (keys_of es) → keys_of es' ≡ keys_of es ++ k ∷ []
keys_last es es' k x is low = ap keys_of (is ∙ entry_last es k x (keys_all (λ n. n < k) es low))
    ∙ map-append (λ e. e.0) es ((k, x) ∷ [])

pub signalled : (agent : ℕ) (es es' : List (ℕ × Agent)) (signals signals' : List (ℕ × Signal))
    (next_agent next_signal : ℕ) (m now : Agent) → IsAgentIndex es signals next_agent next_signal → Found agent es m
    → es' ≡ set_value (is_at (nat_cmp agent)) es now
    → (AllByRecursion (λ k. k < next_signal) (keys_of m.signals.entries)
    → keys_of now.signals.entries ≡ keys_of m.signals.entries ++ next_signal ∷ [])
    → signals' ≡ insert_entry nat_cmp signals next_signal (record { agent = agent; reason = None })
    → IsStrictlySortedBy nat_cmp (keys_of signals') → IsAgentIndex es' signals' next_agent (next_signal + 1)
signalled agent es es' signals signals' next_agent next_signal m now is f set listed_now more sorted =
    let sig : Signal = record { agent = agent; reason = None } in
    let last : signals' ≡ signals ++ (next_signal, sig) ∷ [] = more
    ∙ entry_last signals next_signal sig is.signals_below in
    let B : ℕ × Agent → Type 0 = λ e. e.0 < next_agent in
    let L : ℕ × Agent → Type 0 = λ e. keys_of e.1.signals.entries ≡ made_by e.0 signals in
    let N : ℕ × Agent → Type 0 = λ e. keys_of e.1.signals.entries ≡ made_by e.0 (signals ++ (next_signal, sig) ∷ []) in
    let below = subst (AllByRecursion B) f.whole is.members_below in
    let listed = subst (AllByRecursion L) f.whole is.listed in
    let front = all_front L f.front ((agent, m) ∷ f.back) listed in
    let back = all_back L f.front ((agent, m) ∷ f.back) listed in
    let low : AllByRecursion (λ k. k < next_signal) (keys_of m.signals.entries) =
    rw back.0 (made_below agent next_signal signals is.signals_below) in
    let mine : keys_of now.signals.entries ≡ made_by agent (signals ++ (next_signal, sig) ∷ []) =
    listed_now low ∙ ap (λ l. l ++ next_signal ∷ []) back.0
    ∙ sym (made_more agent agent next_signal None signals ∙ ap (λ b. made_by agent signals
    ++ cond b (next_signal ∷ []) []) (number_same agent)) in
    record {
      members_ordered = rw (set, keys-set_value (is_at (nat_cmp agent)) es now) is.members_ordered;
      signals_ordered = sorted;
      members_below = rw (set, f.set now) (all_append B f.front ((agent, now) ∷ f.back)
          (all_front B f.front ((agent, m) ∷ f.back) below) (all_back B f.front ((agent, m) ∷ f.back) below));
      signals_below = rw last (all_append (λ (e : ℕ × Signal). e.0 < next_signal + 1) signals ((next_signal, sig) ∷ [])
          (all_weaker (λ (e : ℕ × Signal). e.0 < next_signal) (λ e. e.0 < next_signal + 1) signals
          (λ e less. omega (arith, less)) is.signals_below) (omega arith, tt));
      owners_below = rw last (all_append (λ (e : ℕ × Signal). e.1.agent < next_agent) signals ((next_signal, sig) ∷ [])
          is.owners_below ((all_back B f.front ((agent, m) ∷ f.back) below).0, tt));
      listed = rw (last, set, f.set now) (all_append N f.front ((agent, now) ∷ f.back)
          (others_listed agent next_signal None signals f.front f.low front)
          (mine, others_listed agent next_signal None signals f.back f.high back.1));
    }

pub signal_rows : (signals signals' : List (ℕ × Signal)) (number : ℕ) (sig : Signal)
    → AllByRecursion (λ (e : ℕ × Signal). e.0 < number) signals → signals' ≡ insert_entry nat_cmp signals number sig
    → map signal_row signals' ≡ map signal_row signals ++ signal_row (number, sig) ∷ []
signal_rows signals signals' number sig below set = ap (map signal_row) (set ∙ entry_last signals number sig below)
    ∙ map-append signal_row signals ((number, sig) ∷ [])

pub some_at : {X : Type 0} (o : Option X) → is_some o ≡ true → (x : X) × (o ≡ Some x)
some_at None h = absurd (cc)
some_at (Some x) h = (x, refl)
