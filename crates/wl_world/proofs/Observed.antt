-- What is looked up at numbers in order that cover an agent's changed requests is what changed.
use Rattle.std.proofs.Common.{◌≡◌, ◌⊎◌, ℕ, ◌+◌, ◌<◌, ◌==◌, Bool, true, false, List, [], ◌∷◌, ◌++◌, take, length, get_or}
use Rattle.std.proofs.Common.{refl, sym, ap, subst, ◌∙◌, inl, inr}
use Rattle.std.specs.Prelude.{Option, Some, None, is_some}
use Rattle.std.specs.List.{AllByRecursion, Contains, flat_map}
use Rattle.std.specs.List.Sorted.{IsStrictlySortedBy}
use Rattle.std.specs.Map.{keys_of, values_of}
use Rattle.wl_number_map.specs.NumberMap.{NumberMap}
use Rattle.wl_number_map.proofs.Keyed.{found_each}
use Rattle.std.specs.Ordering.{nat_cmp}
use Rattle.std.proofs.lemmas.List.{flat_map_more, take_more}
use Rattle.std.proofs.lemmas.Map.Lookups.{exact_unsigned}
use Rattle.std.proofs.lemmas.Map.Views.{Contains-keys_from_lookup, tells_apart}
use Rattle.wl_types.specs.declared.phases.Phase.{Phase}
use Rattle.wl_session.specs.LastReported.{RequestPhase}
use Rattle.wl_world.specs.declared.requests.Request.{Request}
use Rattle.wl_world.specs.declared.agent_index.AgentRequests.{AgentRequests}
use Rattle.wl_world.specs.Requests.{observation_of, changed_requests}
use Rattle.wl_world.specs.inner.AgentIndex.{IsIndex, found, observed_of, inbox_of}
use Rattle.wl_machine.proofs.Covers.{alike, looked_alike}

-- ---- lists

-- what is looked up at one more
pub observed_more : {X : Type 0} (f : ℕ → List X) (ns : List ℕ) (i : ℕ) (xs ys : List X) → i < length ns
    → xs ≡ flat_map f (take i ns) → ys ≡ xs ++ f (get_or ns i 0) → ys ≡ flat_map f (take (i + 1) ns)
observed_more f ns i xs ys within is more =
    more ∙ ap (λ l. l ++ f (get_or ns i 0)) is ∙ flat_map_more f [] (take i ns) (get_or ns i 0)
    ∙ ap (flat_map f) (sym (take_more ns i 0 within))

-- ---- an agent's changed requests

-- each request's observation, one after another
changed_at_keys : (agent : ℕ) (f : ℕ → Option Request) (es : List (ℕ × Request))
    → AllByRecursion (λ (e : ℕ × Request). f e.0 ≡ Some e.1) es
    → flat_map (λ n. observed_of agent (f n)) (keys_of es) ≡ changed_requests agent (values_of es)
changed_at_keys agent f [] all = refl
changed_at_keys agent f (e ∷ es) all = ap (λ o. observed_of agent o
    ++ flat_map (λ n. observed_of agent (f n)) (keys_of es)) all.0
    ∙ by (e.1.agent == agent) refl (changed_at_keys agent f es all.1)
  where
    observed : List RequestPhase
    observed = flat_map (λ n. observed_of agent (f n)) (keys_of es)

    by : (b : Bool) → (e.1.agent == agent) ≡ b → observed ≡ changed_requests agent (values_of es)
        → observed_of agent (Some e.1) ++ observed ≡ changed_requests agent (values_of (e ∷ es))
    by true h rest = rw h (ap (λ l. observation_of e.1.number e.1.changed ++ l) rest)
    by false h rest = rw h rest

module _ (agent : ℕ) (m : NumberMap Request) (agent_index : List (ℕ × AgentRequests))
    (index : IsIndex m.entries agent_index) where
  pub all_observed : (ns : List ℕ) → IsStrictlySortedBy nat_cmp ns
      → ((n : ℕ) → Contains (inbox_of (found agent agent_index)) n → Contains ns n)
      → flat_map (λ n. observed_of agent (found n m.entries)) ns ≡ changed_requests agent (values_of m.entries)
  all_observed ns sorted all =
      looked_alike (λ n. observed_of agent (found n m.entries)) ns (keys_of m.entries) sorted index.ordered
      (λ q _. known q (found q m.entries) refl) (λ q _. inbox q (found q m.entries) refl)
      ∙ changed_at_keys agent (λ n. found n m.entries) m.entries (found_each m.entries index.ordered)
    where
      known : (q : ℕ) (o : Option Request) → found q m.entries ≡ o
          → Contains (keys_of m.entries) q ⊎ (observed_of agent (found q m.entries) ≡ [])
      known q None there = inr (ap (observed_of agent) there)
      known q (Some r) there = inl (Contains-keys_from_lookup (tells_apart exact_unsigned) q m.entries
          (ap is_some there))

      mine : (q : ℕ) (r : Request) → found q m.entries ≡ Some r → (r.agent == agent) ≡ true → (changed : Option Phase)
          → r.changed ≡ changed → Contains ns q ⊎ (observed_of agent (found q m.entries) ≡ [])
      mine q r there own None quiet = inr (ap (observed_of agent) there ∙ rw (own, quiet) refl)
      mine q r there own (Some phase) loud = inl (all q (subst (λ a. Contains (inbox_of (found a agent_index)) q)
          (alike r.agent agent own) (index.inbox q r phase there loud)))

      one : (q : ℕ) (r : Request) → found q m.entries ≡ Some r → (b : Bool) → (r.agent == agent) ≡ b
          → Contains ns q ⊎ (observed_of agent (found q m.entries) ≡ [])
      one q r there true own = mine q r there own r.changed refl
      one q r there false other = inr (ap (observed_of agent) there ∙ rw other refl)

      inbox : (q : ℕ) (o : Option Request) → found q m.entries ≡ o
          → Contains ns q ⊎ (observed_of agent (found q m.entries) ≡ [])
      inbox q None there = inr (ap (observed_of agent) there)
      inbox q (Some r) there = one q r there (r.agent == agent) refl

  -- an agent that isn't in the index has no changed requests
  pub no_change : found agent agent_index ≡ None → [] ≡ changed_requests agent (values_of m.entries)
  unfolding IsStrictlySortedBy
  no_change none = all_observed [] tt (λ n has. subst (λ o. Contains (inbox_of o) n) none has)
