-- A signal gets its reason, or an agent leaves with its signals: what the machine's lists then say.
use Rattle.std.proofs.Common.{◌≡◌, ℕ, ◌<◌, ◌==◌, Bool, true, false, cond, List, [], ◌∷◌, ◌++◌, map, refl, ap, subst}
use Rattle.std.proofs.Common.{sym, ◌∙◌, arith}
use Rattle.std.specs.Prelude.{not, ◌&&◌, filter, Some, None, if◌then◌else◌}
use Rattle.std.specs.List.{AllByRecursion}
use Rattle.std.specs.List.Sorted.{IsStrictlySortedBy}
use Rattle.std.specs.Map.{keys_of, lookup, set_value, remove_entry}
use Rattle.std.specs.BTreeMap.{is_at}
use Rattle.std.specs.Ordering.{nat_cmp}
use Rattle.std.proofs.Math.Bool.{and-false}
use Rattle.std.proofs.lemmas.Bool.Decides.{nat_tests}
use Rattle.std.proofs.lemmas.Map.{keys-set_value}
use Rattle.std.proofs.lemmas.List.{map-append}
use Rattle.wl_types.specs.declared.words.Reason.{Reason}
use Rattle.wl_machine.specs.declared.rows.AgentRow.{AgentRow}
use Rattle.wl_machine.specs.declared.rows.SignalRow.{SignalRow}
use Rattle.wl_machine.specs.Refusals.{signals_of}
use Rattle.wl_machine.specs.Step.{with_reason}
use Rattle.wl_machine.proofs.Lists.{filter_map, map_twice}
use Rattle.wl_index.specs.declared.agent.Agent.{Agent}
use Rattle.wl_index.specs.declared.agent.Signal.{Signal}
use Rattle.wl_index.specs.inner.AgentRows.{agent_row, signal_row, made_by, IsAgentIndex, aborted}
use Rattle.wl_index.specs.inner.Lists.{is_spared}
use Rattle.wl_index.proofs.Lists.{all_append, all_front, all_back, all_weaker, all_filter}
use Rattle.wl_number_map.proofs.Keyed.{Found, same_number, number_same, removed_at}
use Rattle.wl_index.proofs.Spared.{spared_fail}

-- ---- a signal gets its reason

reason_one : (signal : ℕ) (reason : Reason) (s : Signal) (b : Bool)
    → (if b && (signal == signal) then record (signal_row (signal, s)) { reason = Some reason }
    else signal_row (signal, s)) ≡ signal_row (signal, (if b then record s { reason = Some reason } else s))
reason_one signal reason s true = rw (number_same signal) refl
reason_one signal reason s false = refl

reason_apart : (agent signal : ℕ) (reason : Reason) (l : List (ℕ × Signal))
    → AllByRecursion (λ (e : ℕ × Signal). (e.0 == signal) ≡ false) l
    → map (with_reason agent signal reason) (map signal_row l) ≡ map signal_row l
reason_apart agent signal reason [] all = refl
reason_apart agent signal reason (e ∷ l) all = rw (
  all.0,
  and-false (e.1.agent == agent),
  reason_apart agent signal reason l all.1,
) refl

pub reason_set : (agent signal : ℕ) (reason : Reason) (es : List (ℕ × Signal)) (s : Signal) → Found signal es s
    → map signal_row (set_value (is_at (nat_cmp signal)) es (aborted agent reason s))
    ≡ map (with_reason agent signal reason) (map signal_row es)
reason_set agent signal reason es s f =
    let now : Signal = aborted agent reason s in
    ap (map signal_row) (f.set now) ∙ map-append signal_row f.front ((signal, now) ∷ f.back)
    ∙ sym (ap (λ l. map (with_reason agent signal reason) (map signal_row l)) f.whole
    ∙ ap (map (with_reason agent signal reason)) (map-append signal_row f.front ((signal, s) ∷ f.back))
    ∙ map-append (with_reason agent signal reason) (map signal_row f.front)
    (signal_row (signal, s) ∷ map signal_row f.back)
    ∙ rw (reason_apart agent signal reason f.front f.low, reason_apart agent signal reason f.back f.high)
    (ap (λ r. map signal_row f.front ++ r ∷ map signal_row f.back) (reason_one signal reason s (s.agent == agent))))

pub reason_none : (agent signal : ℕ) (reason : Reason) (es : List (ℕ × Signal))
    → lookup (is_at (nat_cmp signal)) es ≡ None → map (with_reason agent signal reason) (map signal_row es)
    ≡ map signal_row es
reason_none agent signal reason [] none = refl
reason_none agent signal reason (e ∷ es) none = by (e.0 == signal) refl (reason_none agent signal reason es)
  where
    seen : (b : Bool) → (e.0 == signal) ≡ b → cond b (Some e.1) (lookup (is_at (nat_cmp signal)) es) ≡ None
    seen b h = sym (ap (λ c. cond c (Some e.1) (lookup (is_at (nat_cmp signal)) es)) (same_number signal e.0 ∙ h))
        ∙ none

    by : (b : Bool) → (e.0 == signal) ≡ b → (lookup (is_at (nat_cmp signal)) es ≡ None
        → map (with_reason agent signal reason) (map signal_row es) ≡ map signal_row es)
        → with_reason agent signal reason (signal_row e) ∷ map (with_reason agent signal reason) (map signal_row es)
        ≡ signal_row e ∷ map signal_row es
    by true h rest = absurd (let no_one = seen true h in cc (no_one))
    by false h rest = rw (h, and-false (e.1.agent == agent), rest (seen false h)) refl

aborted_agent : (agent : ℕ) (reason : Reason) (s : Signal) → (aborted agent reason s).agent ≡ s.agent
aborted_agent agent reason s = by (s.agent == agent)
  where
    by : (b : Bool) → (if b then record s { reason = Some reason } else s).agent ≡ s.agent
    by true = refl
    by false = refl

made_written : (a signal : ℕ) (front back : List (ℕ × Signal)) (s now : Signal) → now.agent ≡ s.agent
    → made_by a (front ++ (signal, now) ∷ back) ≡ made_by a (front ++ (signal, s) ∷ back)
made_written a signal [] back s now same =
    ap (λ o. map (λ (row : SignalRow). row.number) (cond (o == a)
    (signal_row (signal, now) ∷ signals_of a (map signal_row back)) (signals_of a (map signal_row back)))) same
    ∙ by (s.agent == a)
  where
    by : (b : Bool) → map (λ (row : SignalRow). row.number)
        (cond b (signal_row (signal, now) ∷ signals_of a (map signal_row back)) (signals_of a (map signal_row back)))
        ≡ map (λ (row : SignalRow). row.number) (cond b (signal_row (signal, s) ∷ signals_of a (map signal_row back))
        (signals_of a (map signal_row back)))
    by true = refl
    by false = refl
made_written a signal (e ∷ front) back s now same = by (e.1.agent == a) (made_written a signal front back s now same)
  where
    by : (b : Bool) → made_by a (front ++ (signal, now) ∷ back) ≡ made_by a (front ++ (signal, s) ∷ back)
        → map (λ (row : SignalRow). row.number) (cond b (signal_row e
        ∷ signals_of a (map signal_row (front ++ (signal, now) ∷ back)))
        (signals_of a (map signal_row (front ++ (signal, now) ∷ back))))
        ≡ map (λ (row : SignalRow). row.number) (cond b (signal_row e
        ∷ signals_of a (map signal_row (front ++ (signal, s) ∷ back)))
        (signals_of a (map signal_row (front ++ (signal, s) ∷ back))))
    by true rest = ap (λ l. e.0 ∷ l) rest
    by false rest = rest

pub reason_index : (agent signal : ℕ) (reason : Reason) (es : List (ℕ × Agent)) (signals : List (ℕ × Signal))
    (next_agent next_signal : ℕ) (s : Signal) → IsAgentIndex es signals next_agent next_signal → Found signal signals s
    → IsAgentIndex es (set_value (is_at (nat_cmp signal)) signals (aborted agent reason s)) next_agent next_signal
reason_index agent signal reason es signals next_agent next_signal s is f =
    let now : Signal = aborted agent reason s in
    let B : ℕ × Signal → Type 0 = λ e. e.0 < next_signal in
    let A : ℕ × Signal → Type 0 = λ e. e.1.agent < next_agent in
    let below = subst (AllByRecursion B) f.whole is.signals_below in
    let owned = subst (AllByRecursion A) f.whole is.owners_below in
    let own = all_back A f.front ((signal, s) ∷ f.back) owned in
    let same : (a : ℕ) → made_by a (set_value (is_at (nat_cmp signal)) signals now)
    ≡ made_by a signals = λ a. ap (made_by a) (f.set now)
    ∙ made_written a signal f.front f.back s now (aborted_agent agent reason s) ∙ ap (made_by a) (sym f.whole) in
    record {
      members_ordered = is.members_ordered;
      signals_ordered = rw (keys-set_value (is_at (nat_cmp signal)) signals now) is.signals_ordered;
      members_below = is.members_below;
      signals_below = rw (f.set now) (all_append B f.front ((signal, now) ∷ f.back)
          (all_front B f.front ((signal, s) ∷ f.back) below) (all_back B f.front ((signal, s) ∷ f.back) below));
      owners_below = rw (f.set now) (all_append A f.front ((signal, now) ∷ f.back)
          (all_front A f.front ((signal, s) ∷ f.back) owned) (
            subst (λ a. a < next_agent)
                (sym (aborted_agent agent reason s)) own.0,
            own.1,
          ));
      listed = all_weaker (λ (e : ℕ × Agent). keys_of e.1.signals.entries ≡ made_by e.0 signals)
          (λ (e : ℕ × Agent). keys_of e.1.signals.entries ≡ made_by e.0
          (set_value (is_at (nat_cmp signal)) signals now))
          es (λ e h. h ∙ sym (same e.0)) is.listed;
    }

-- ---- an agent leaves

abbrev pub of_another : ℕ → ℕ × Signal → Bool
of_another agent e = not (e.1.agent == agent)

-- an agent's list names just its signals
pub own_spared : (agent : ℕ) (signals : List (ℕ × Signal)) → IsStrictlySortedBy nat_cmp (keys_of signals)
    → filter (is_spared (made_by agent signals)) signals ≡ filter (of_another agent) signals
own_spared agent signals sorted =
    let mine : ℕ × Signal → Bool = λ e. e.1.agent == agent in
    let made : made_by agent signals ≡ keys_of (filter mine signals) =
    ap (map (λ (row : SignalRow). row.number)) (filter_map (λ (row : SignalRow). row.agent == agent) signal_row
    signals) ∙ map_twice (λ (row : SignalRow). row.number) signal_row (filter mine signals) in
    ap (λ ns. filter (is_spared ns) signals) made ∙ spared_fail mine signals sorted

pub closed_agents : (agent : ℕ) (es : List (ℕ × Agent)) → IsStrictlySortedBy nat_cmp (keys_of es)
    → map agent_row (remove_entry (is_at (nat_cmp agent)) es)
    ≡ filter (λ row. not (row.number == agent)) (map agent_row es)
closed_agents agent es sorted = ap (map agent_row) (removed_at agent es sorted)
    ∙ sym (filter_map (λ (row : AgentRow). not (row.number == agent)) agent_row es)

pub closed_signals : (agent : ℕ) (signals : List (ℕ × Signal))
    → map signal_row (filter (of_another agent) signals) ≡ filter (λ row. not (row.agent == agent))
    (map signal_row signals)
closed_signals agent signals = sym (filter_map (λ (row : SignalRow). not (row.agent == agent)) signal_row signals)

made_others : (a agent : ℕ) (signals : List (ℕ × Signal)) → (a == agent) ≡ false
    → made_by a (filter (of_another agent) signals) ≡ made_by a signals
made_others a agent [] apart = refl
made_others a agent (e ∷ signals) apart = by (e.1.agent == agent) refl (e.1.agent == a) refl
    (made_others a agent signals apart)
  where
    differs : (e.1.agent == agent) ≡ true → (e.1.agent == a) ≡ true → ⊥
    differs h k = grind (arith, nat_tests, h, k, apart)

    by : (b : Bool) → (e.1.agent == agent) ≡ b → (k : Bool) → (e.1.agent == a) ≡ k
        → made_by a (filter (of_another agent) signals) ≡ made_by a signals
        → made_by a (cond (not (e.1.agent == agent)) (e ∷ filter (of_another agent) signals)
        (filter (of_another agent) signals)) ≡ map (λ (row : SignalRow). row.number)
        (cond (e.1.agent == a) (signal_row e ∷ signals_of a (map signal_row signals))
        (signals_of a (map signal_row signals)))
    by true h true k rest = absurd (differs h k)
    by true h false k rest = rw (h, k) rest
    by false h true k rest = rw (h, k) (ap (λ l. e.0 ∷ l) rest)
    by false h false k rest = rw (h, k) rest

pub closed_index : (agent : ℕ) (es es' : List (ℕ × Agent)) (signals signals' : List (ℕ × Signal))
    (next_agent next_signal : ℕ) → IsAgentIndex es signals next_agent next_signal
    → es' ≡ remove_entry (is_at (nat_cmp agent)) es → signals' ≡ filter (of_another agent) signals
    → IsStrictlySortedBy nat_cmp (keys_of es') → IsStrictlySortedBy nat_cmp (keys_of signals')
    → IsAgentIndex es' signals' next_agent next_signal
closed_index agent es es' signals signals' next_agent next_signal is
    members_set signals_set members_sorted signals_sorted =
    let gone : es' ≡ filter (λ (e : ℕ × Agent). not (e.0 == agent)) es = members_set
    ∙ removed_at agent es is.members_ordered in
    record {
      members_ordered = members_sorted;
      signals_ordered = signals_sorted;
      members_below = rw gone (all_filter (λ (e : ℕ × Agent). e.0 < next_agent) (λ e. not (e.0 == agent)) es
          is.members_below);
      signals_below = rw signals_set (all_filter (λ (e : ℕ × Signal). e.0 < next_signal) (of_another agent) signals
          is.signals_below);
      owners_below = rw signals_set (all_filter (λ (e : ℕ × Signal). e.1.agent < next_agent) (of_another agent) signals
          is.owners_below);
      listed = rw (gone, signals_set) (still_listed es is.listed);
    }
  where
    still_listed : (l : List (ℕ × Agent)) → AllByRecursion (λ (e : ℕ × Agent). keys_of e.1.signals.entries
        ≡ made_by e.0 signals) l → AllByRecursion (λ (e : ℕ × Agent). keys_of e.1.signals.entries
        ≡ made_by e.0 (filter (of_another agent) signals)) (filter (λ (e : ℕ × Agent). not (e.0 == agent)) l)
    still_listed [] all = tt
    still_listed (e ∷ l) all = by (e.0 == agent) refl (still_listed l all.1)
      where
        by : (b : Bool) → (e.0 == agent) ≡ b → AllByRecursion
            (λ (x : ℕ × Agent). keys_of x.1.signals.entries ≡ made_by x.0 (filter (of_another agent) signals))
            (filter (λ (x : ℕ × Agent). not (x.0 == agent)) l)
            → AllByRecursion (λ (x : ℕ × Agent). keys_of x.1.signals.entries
            ≡ made_by x.0 (filter (of_another agent) signals))
            (cond (not b) (e ∷ filter (λ (x : ℕ × Agent). not (x.0 == agent)) l)
            (filter (λ (x : ℕ × Agent). not (x.0 == agent)) l))
        by true h rest = rest
        by false h rest = (all.0 ∙ sym (made_others e.0 agent signals h), rest)
