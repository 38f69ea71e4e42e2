-- That the agent index still has each agent's requests, and those that changed, after one more, a change, a collection
-- and a close.
use Rattle.std.proofs.Common.{◌≡◌, ◌⊎◌, ℕ, ◌+◌, ◌<◌, ◌==◌, Bool, true, false, cond, List, [], ◌∷◌, ◌++◌, refl, sym, ap}
use Rattle.std.proofs.Common.{subst, ◌∙◌, inl, inr, map, arith}
use Rattle.std.specs.Prelude.{Option, Some, None, is_some}
use Rattle.std.specs.List.{AllByRecursion, Contains}
use Rattle.std.specs.List.Sorted.{IsStrictlySortedBy}
use Rattle.std.specs.Map.{keys_of, values_of}
use Rattle.std.specs.BTreeMap.{insert_entry, is_at}
use Rattle.std.specs.Option.{option_and_then, unwrap_or}
use Rattle.std.specs.Ordering.{nat_cmp}
use Rattle.std.proofs.lemmas.Bool.Decides.{nat_tests}
use Rattle.std.proofs.lemmas.List.{map-append}
use Rattle.std.proofs.lemmas.Option.{none-some}
use Rattle.wl_types.specs.declared.phases.Phase.{Phase}
use Rattle.wl_types.specs.declared.phases.Change.{Change}
use Rattle.wl_world.specs.declared.requests.Request.{Request}
use Rattle.wl_world.specs.declared.agent_index.AgentRequests.{AgentRequests}
use Rattle.wl_world.specs.Requests.{has_ended, with_change}
use Rattle.wl_world.specs.inner.Requests.{IsRising}
use Rattle.wl_world.specs.inner.AgentIndex.{IsCovered, IsEach, IsEnrolled, IsIndex, coming, found, close_one, inbox_of}
use Rattle.wl_world.specs.inner.AgentIndex.{own_of, collect_one}
use Rattle.wl_number_map.specs.NumberMap.{NumberMap}
use Rattle.wl_machine.proofs.Covers.{alike}
use Rattle.wl_number_map.proofs.Keyed.{entry_last, found_each, number_same, same_number}
use Rattle.wl_world.proofs.Walks.{apart}

-- ---- what stands at a number after f

pub record Source (f : Request → Option Request) (o : Option Request) (s : Request) : Type 0 where
  pub request : Request
  pub was : o ≡ Some request
  pub is : f request ≡ Some s

source : (f : Request → Option Request) (o : Option Request) (s : Request) → option_and_then f o ≡ Some s → Source f o s
source f None s h = absurd (none-some s h)
source f (Some r) s h = record { request = r; was = refl; is = h }

-- what is collected keeps its number and its agent, and is unchanged if it is the agent's
collect_source : (agent : ℕ) (r s : Request) → collect_one agent r ≡ Some s
    → (s.number ≡ r.number) × (s.agent ≡ r.agent) × ((phase : Phase) → s.changed ≡ Some phase
    → (r.changed ≡ Some phase) × ((r.agent == agent) ≡ false))
collect_source agent r s h = by (has_ended agent r) (r.agent == agent) refl h
  where
    by : (b c : Bool) → (r.agent == agent) ≡ c → cond b None (Some (cond c (record r { changed = None }) r)) ≡ Some s
        → (s.number ≡ r.number) × (s.agent ≡ r.agent) × ((phase : Phase) → s.changed ≡ Some phase
        → (r.changed ≡ Some phase) × ((r.agent == agent) ≡ false))
    by true c e k = absurd (none-some s k)
    by false true e k =
        let is : record r { changed = None } ≡ s = ap (λ o. unwrap_or o r) k in (
          ap (λ (x : Request). x.number) (sym is),
          ap (λ (x : Request). x.agent) (sym is),
          λ phase loud. absurd (none-some phase (ap (λ (x : Request). x.changed) is ∙ loud)),
        )
    by false false e k =
        let is : r ≡ s = ap (λ o. unwrap_or o r) k in (
          ap (λ (x : Request). x.number) (sym is),
          ap (λ (x : Request). x.agent) (sym is),
          λ phase loud. (ap (λ (x : Request). x.changed) is ∙ loud, e),
        )

left_source : (agent : ℕ) (r s : Request) → close_one agent r ≡ Some s → (r ≡ s) × ((r.agent == agent) ≡ false)
left_source agent r s h = by (r.agent == agent) refl h
  where
    by : (b : Bool) → (r.agent == agent) ≡ b → cond b None (Some r) ≡ Some s → (r ≡ s) × ((r.agent == agent) ≡ false)
    by true e k = absurd (none-some s k)
    by false e k = (ap (λ o. unwrap_or o r) k, e)

-- ---- an agent's numbers cover what is collected of it, and what leaves with it

module _ (live : List (ℕ × Request)) (agent_index : List (ℕ × AgentRequests)) (index : IsIndex live agent_index)
    (agent : ℕ) where
  pub collect_covered : IsCovered (collect_one agent) live (inbox_of (found agent agent_index))
  collect_covered q = by (found q live) refl
    where
      mine : (r : Request) → found q live ≡ Some r → (r.agent == agent) ≡ true → (changed : Option Phase)
          → r.changed ≡ changed → (collect_one agent r ≡ Some r) ⊎ Contains (inbox_of (found agent agent_index)) q
      mine r at own None quiet = inl (rw (own, quiet) refl)
      mine r at own (Some phase) loud = inr (subst (λ a. Contains (inbox_of (found a agent_index)) q)
          (alike r.agent agent own) (index.inbox q r phase at loud))

      one : (r : Request) → found q live ≡ Some r → (b : Bool) → (r.agent == agent) ≡ b
          → (collect_one agent r ≡ Some r) ⊎ Contains (inbox_of (found agent agent_index)) q
      one r at true own = mine r at own r.changed refl
      one r at false other = inl (rw other refl)

      by : (o : Option Request) → found q live ≡ o → (option_and_then (collect_one agent) (found q live) ≡ found q live)
          ⊎ Contains (inbox_of (found agent agent_index)) q
      by None at = inl (rw at refl)
      by (Some r) at = rw at (one r at (r.agent == agent) refl)

  pub left_covered : IsCovered (close_one agent) live (own_of (found agent agent_index))
  left_covered q = by (found q live) refl
    where
      one : (r : Request) → found q live ≡ Some r → (b : Bool) → (r.agent == agent) ≡ b
          → (close_one agent r ≡ Some r) ⊎ Contains (own_of (found agent agent_index)) q
      one r at true own = inr (subst (λ a. Contains (own_of (found a agent_index)) q) (alike r.agent agent own)
          (index.own q r at))
      one r at false other = inl (rw other refl)

      by : (o : Option Request) → found q live ≡ o → (option_and_then (close_one agent) (found q live) ≡ found q live)
          ⊎ Contains (own_of (found agent agent_index)) q
      by None at = inl (rw at refl)
      by (Some r) at = rw at (one r at (r.agent == agent) refl)

-- ---- what the index has afterwards

-- at an agent another entry was written, or none
abbrev pub IsWritten : ℕ → Option AgentRequests → List (ℕ × AgentRequests) → List (ℕ × AgentRequests) → Type 0
IsWritten agent w agent_index agent_index2 = (q : ℕ) → found q agent_index2
    ≡ cond (is_at (nat_cmp agent) q) w (found q agent_index)

elsewhere : {X : Type 0} (agent : ℕ) (w : Option X) (xs ys : List (ℕ × X))
    → ((q : ℕ) → found q ys ≡ cond (is_at (nat_cmp agent) q) w (found q xs)) → (q : ℕ) → (q == agent) ≡ false
    → found q ys ≡ found q xs
elsewhere agent w xs ys written q h = written q ∙ rw (same_number agent q, h) refl

here : {X : Type 0} (agent : ℕ) (w : Option X) (xs ys : List (ℕ × X))
    → ((q : ℕ) → found q ys ≡ cond (is_at (nat_cmp agent) q) w (found q xs)) → (q : ℕ) → (q == agent) ≡ true
    → found q ys ≡ w
here agent w xs ys written q h = written q ∙ rw (same_number agent q, h) refl

-- what is read of each entry is what was read of it, if that is so at one
read_same : (read : Option AgentRequests → List ℕ) (agent : ℕ) (w : Option AgentRequests)
    (agent_index agent_index2 : List (ℕ × AgentRequests)) → IsWritten agent w agent_index agent_index2
    → read w ≡ read (found agent agent_index) → (q : ℕ) → read (found q agent_index2) ≡ read (found q agent_index)
read_same read agent w agent_index agent_index2 written is q = by (q == agent) refl
  where
    by : (b : Bool) → (q == agent) ≡ b → read (found q agent_index2) ≡ read (found q agent_index)
    by true h = ap read (here agent w agent_index agent_index2 written q h) ∙ is
        ∙ ap (λ a. read (found a agent_index)) (sym (alike q agent h))
    by false h = ap read (elsewhere agent w agent_index agent_index2 written q h)

module _ (live live2 : List (ℕ × Request)) (agent_index agent_index2 : List (ℕ × AgentRequests))
    (index : IsIndex live agent_index) (ordered : IsStrictlySortedBy nat_cmp (keys_of live2)) where
  pub collect_index : (agent : ℕ) (agent_requests agent_requests2 : AgentRequests)
      → IsEach (collect_one agent) live live2 → found agent agent_index ≡ Some agent_requests
      → agent_requests2.own.items ≡ agent_requests.own.items → IsWritten agent (Some agent_requests2) agent_index
      agent_index2 → IsIndex live2 agent_index2
  collect_index agent agent_requests agent_requests2 each at own written = record {
    ordered = ordered;
    numbers = λ n s there. let x = from n s there in (collect_source agent x.request s x.is).0
        ∙ index.numbers n x.request x.was;
    own = λ n s there.
        let x = from n s there in
        subst (λ l. Contains l n) (sym (read_same own_of agent (Some agent_requests2) agent_index agent_index2 written
        (own ∙ ap own_of (sym at)) s.agent))
        (subst (λ a. Contains (own_of (found a agent_index)) n) (sym (collect_source agent x.request s x.is).1)
        (index.own n x.request x.was));
    inbox = λ n s phase there loud.
        let x = from n s there in
        let kept = collect_source agent x.request s x.is in
        let other = kept.2 phase loud in
        let same : found s.agent agent_index2 ≡ found s.agent agent_index =
        elsewhere agent (Some agent_requests2) agent_index agent_index2 written s.agent
        (subst (λ a. (a == agent) ≡ false) (sym kept.1) other.1) in
        subst (λ o. Contains (inbox_of o) n) (sym same) (subst (λ a. Contains (inbox_of (found a agent_index)) n)
        (sym kept.1) (index.inbox n x.request phase x.was other.0));
  }
    where
      from : (n : ℕ) (s : Request) → found n live2 ≡ Some s → Source (collect_one agent) (found n live) s
      from n s there = source (collect_one agent) (found n live) s (sym (each n) ∙ there)

  pub left_index : (agent : ℕ) → IsEach (close_one agent) live live2 → IsWritten agent None agent_index agent_index2
      → IsIndex live2 agent_index2
  left_index agent each written = record {
    ordered = ordered;
    numbers = λ n s there. index.numbers n s (was n s there);
    own = λ n s there. subst (λ o. Contains (own_of o) n) (sym (same n s there)) (index.own n s (was n s there));
    inbox = λ n s phase there loud. subst (λ o. Contains (inbox_of o) n) (sym (same n s there))
        (index.inbox n s phase (was n s there) loud);
  }
    where
      from : (n : ℕ) (s : Request) → found n live2 ≡ Some s → Source (close_one agent) (found n live) s
      from n s there = source (close_one agent) (found n live) s (sym (each n) ∙ there)

      was : (n : ℕ) (s : Request) → found n live2 ≡ Some s → found n live ≡ Some s
      was n s there = let x = from n s there in x.was ∙ ap (λ (r : Request). Some r)
          (left_source agent x.request s x.is).0

      same : (n : ℕ) (s : Request) → found n live2 ≡ Some s → found s.agent agent_index2 ≡ found s.agent agent_index
      same n s there =
          let x = from n s there in
          let left = left_source agent x.request s x.is in
          elsewhere agent None agent_index agent_index2 written s.agent
          (subst (λ (r : Request). (r.agent == agent) ≡ false) left.0 left.1)

  -- a change of the request r
  pub inbox_index : (change : Change) (r : Request) (agent_requests agent_requests2 : AgentRequests)
      → ((q : ℕ) → found q live2 ≡ cond (is_at (nat_cmp change.id) q) (Some (record r { changed = Some change.phase }))
      (found q live)) → found change.id live ≡ Some r → found r.agent agent_index ≡ Some agent_requests
      → agent_requests2.own.items ≡ agent_requests.own.items
      → ((n : ℕ) → Contains agent_requests.inbox.items n → Contains agent_requests2.inbox.items n)
      → Contains agent_requests2.inbox.items change.id → IsWritten r.agent (Some agent_requests2) agent_index
      agent_index2 → IsIndex live2 agent_index2
  inbox_index change r agent_requests agent_requests2 was_changed there at own kept jotted written = record {
    ordered = ordered;
    numbers = λ n s is. numbers n s is (n == change.id) refl;
    own = λ n s is. subst (λ l. Contains l n) (sym (read_same own_of r.agent (Some agent_requests2) agent_index
        agent_index2 written (own ∙ ap own_of (sym at)) s.agent)) (owned n s is (n == change.id) refl);
    inbox = λ n s phase is loud. changed n s phase is loud (n == change.id) refl;
  }
    where
      w : Request
      w = record r { changed = Some change.phase }

      new : (n : ℕ) (s : Request) → found n live2 ≡ Some s → (n == change.id) ≡ true → w ≡ s
      new n s is h = ap (λ o. unwrap_or o w) (sym (here change.id (Some w) live live2 was_changed n h) ∙ is)

      old : (n : ℕ) (s : Request) → found n live2 ≡ Some s → (n == change.id) ≡ false → found n live ≡ Some s
      old n s is h = sym (elsewhere change.id (Some w) live live2 was_changed n h) ∙ is

      numbers : (n : ℕ) (s : Request) → found n live2 ≡ Some s → (b : Bool) → (n == change.id) ≡ b → s.number ≡ n
      numbers n s is true h = ap (λ (x : Request). x.number) (sym (new n s is h)) ∙ index.numbers change.id r there
          ∙ sym (alike n change.id h)
      numbers n s is false h = index.numbers n s (old n s is h)

      owned : (n : ℕ) (s : Request) → found n live2 ≡ Some s → (b : Bool) → (n == change.id) ≡ b
          → Contains (own_of (found s.agent agent_index)) n
      owned n s is true h =
          subst (λ a. Contains (own_of (found a agent_index)) n) (ap (λ (x : Request). x.agent) (new n s is h))
          (subst (λ k. Contains (own_of (found r.agent agent_index)) k) (sym (alike n change.id h))
          (index.own change.id r there))
      owned n s is false h = index.own n s (old n s is h)

      at_agent : (q : ℕ) → (q == r.agent) ≡ true → inbox_of (found q agent_index2) ≡ agent_requests2.inbox.items
      at_agent q h = ap inbox_of (here r.agent (Some agent_requests2) agent_index agent_index2 written q h)

      more : (n q : ℕ) (b : Bool) → (q == r.agent) ≡ b → Contains (inbox_of (found q agent_index)) n
          → Contains (inbox_of (found q agent_index2)) n
      more n q true h has = subst (λ l. Contains l n) (sym (at_agent q h))
          (kept n (subst (λ o. Contains (inbox_of o) n) (ap (λ a. found a agent_index) (alike q r.agent h) ∙ at) has))
      more n q false h has = subst (λ o. Contains (inbox_of o) n)
          (sym (elsewhere r.agent (Some agent_requests2) agent_index agent_index2 written q h)) has

      changed : (n : ℕ) (s : Request) (phase : Phase) → found n live2 ≡ Some s → s.changed ≡ Some phase → (b : Bool)
          → (n == change.id) ≡ b → Contains (inbox_of (found s.agent agent_index2)) n
      changed n s phase is loud true h =
          let mine : (s.agent == r.agent) ≡ true = subst (λ (x : Request). (x.agent == r.agent) ≡ true) (new n s is h)
          (number_same r.agent) in
          subst (λ l. Contains l n) (sym (at_agent s.agent mine))
          (subst (Contains agent_requests2.inbox.items) (sym (alike n change.id h)) jotted)
      changed n s phase is loud false h = more n s.agent (s.agent == r.agent) refl
          (index.inbox n s phase (old n s is h) loud)

  -- one request more
  pub added_index : (agent n : ℕ) (phase : Phase) → ((q : ℕ)
      → found q live2 ≡ cond (is_at (nat_cmp n) q) (Some (coming agent n phase)) (found q live))
      → IsEnrolled live (found agent agent_index) (found agent agent_index2) n
      → ((q : ℕ) → (q ≡ agent → ⊥) → found q agent_index2 ≡ found q agent_index) → IsIndex live2 agent_index2
  added_index agent n phase added enrolled others = record {
    ordered = ordered;
    numbers = λ q s is. numbers q s is (q == n) refl;
    own = λ q s is. owned q s is (q == n) refl;
    inbox = λ q s phase is loud. changed q s phase is loud (q == n) refl;
  }
    where
      w : Request
      w = coming agent n phase

      new : (q : ℕ) (s : Request) → found q live2 ≡ Some s → (q == n) ≡ true → w ≡ s
      new q s is h = ap (λ o. unwrap_or o w) (sym (here n (Some w) live live2 added q h) ∙ is)

      old : (q : ℕ) (s : Request) → found q live2 ≡ Some s → (q == n) ≡ false → found q live ≡ Some s
      old q s is h = sym (elsewhere n (Some w) live live2 added q h) ∙ is

      numbers : (q : ℕ) (s : Request) → found q live2 ≡ Some s → (b : Bool) → (q == n) ≡ b → s.number ≡ q
      numbers q s is true h = ap (λ (x : Request). x.number) (sym (new q s is h)) ∙ sym (alike q n h)
      numbers q s is false h = index.numbers q s (old q s is h)

      -- what an entry had of a live request, it has
      still : (read : Option AgentRequests → List ℕ) (q a : ℕ)
          → (Contains (read (found agent agent_index)) q → Contains (read (found agent agent_index2)) q) → (b : Bool)
          → (a == agent) ≡ b → Contains (read (found a agent_index)) q → Contains (read (found a agent_index2)) q
      still read q a mine true h has = subst (λ k. Contains (read (found k agent_index2)) q) (sym (alike a agent h))
          (mine (subst (λ k. Contains (read (found k agent_index)) q) (alike a agent h) has))
      still read q a mine false h has = subst (λ o. Contains (read o) q) (sym (others a (apart a agent h))) has

      owned : (q : ℕ) (s : Request) → found q live2 ≡ Some s → (b : Bool) → (q == n) ≡ b
          → Contains (own_of (found s.agent agent_index2)) q
      owned q s is true h = subst (λ (x : Request). Contains (own_of (found x.agent agent_index2)) q) (new q s is h)
          (subst (λ k. Contains (own_of (found agent agent_index2)) k) (sym (alike q n h)) enrolled.owned)
      owned q s is false h = still own_of q s.agent (enrolled.own q (ap is_some (old q s is h))) (s.agent == agent) refl
          (index.own q s (old q s is h))

      changed : (q : ℕ) (s : Request) (phase : Phase) → found q live2 ≡ Some s → s.changed ≡ Some phase → (b : Bool)
          → (q == n) ≡ b → Contains (inbox_of (found s.agent agent_index2)) q
      changed q s phase is loud true h = subst (λ (x : Request). Contains (inbox_of (found x.agent agent_index2)) q)
          (new q s is h) (subst (λ k. Contains (inbox_of (found agent agent_index2)) k) (sym (alike q n h))
          enrolled.changed)
      changed q s phase is loud false h = still inbox_of q s.agent (enrolled.inbox q) (s.agent == agent) refl
          (index.inbox q s phase (old q s is h) loud)

-- a change of the request r, which changed before, so its number is in the inbox
pub inbox_kept_index : (live live2 : List (ℕ × Request)) (agent_index : List (ℕ × AgentRequests))
    → IsIndex live agent_index → IsStrictlySortedBy nat_cmp (keys_of live2) → (change : Change) (r : Request)
    → ((q : ℕ) → found q live2 ≡ cond (is_at (nat_cmp change.id) q) (Some (record r { changed = Some change.phase }))
    (found q live)) → found change.id live ≡ Some r → is_some r.changed ≡ true → IsIndex live2 agent_index
inbox_kept_index live live2 agent_index index ordered change r was_changed there loud = changed r.changed refl loud
  where
    same : (agent_requests : AgentRequests) → found r.agent agent_index ≡ Some agent_requests → (q : ℕ) (b : Bool)
        → (q == r.agent) ≡ b → found q agent_index ≡ cond (is_at (nat_cmp r.agent) q) (Some agent_requests)
        (found q agent_index)
    same agent_requests at q true h = rw (same_number r.agent q, h)
        (ap (λ a. found a agent_index) (alike q r.agent h) ∙ at)
    same agent_requests at q false h = rw (same_number r.agent q, h) refl

    seated : (o : Option AgentRequests) → found r.agent agent_index ≡ o → Contains (inbox_of o) change.id
        → IsIndex live2 agent_index
    seated None at has = absurd (omega (arith, has.1))
    seated (Some agent_requests) at has = inbox_index live live2 agent_index agent_index index ordered change r
        agent_requests agent_requests was_changed there at refl (λ n has. has) has
        (λ q. same agent_requests at q (q == r.agent) refl)

    changed : (o : Option Phase) → r.changed ≡ o → is_some o ≡ true → IsIndex live2 agent_index
    changed None quiet some = absurd cc
    changed (Some phase) is some = seated (found r.agent agent_index) refl (index.inbox change.id r phase there is)

-- ---- a change, as what is done to each

module _ (change : Change) where
  unchanged : (s : Request) → (s.number == change.id) ≡ false → Some s ≡ Some (with_change change s)
  unchanged s h = rw h refl

  pub with_change_each : (live live2 : List (ℕ × Request)) (r : Request)
      → ((n : ℕ) (s : Request) → found n live ≡ Some s → s.number ≡ n) → found change.id live ≡ Some r
      → ((q : ℕ) → found q live2 ≡ cond (is_at (nat_cmp change.id) q) (Some (record r { changed = Some change.phase }))
      (found q live)) → IsEach (λ s. Some (with_change change s)) live live2
  with_change_each live live2 r numbers there written q = by (q == change.id) refl (found q live) refl
    where
      w : Request
      w = record r { changed = Some change.phase }

      by : (b : Bool) → (q == change.id) ≡ b → (o : Option Request) → found q live ≡ o
          → found q live2 ≡ option_and_then (λ s. Some (with_change change s)) (found q live)
      by true h o at =
          let mine : (r.number == change.id) ≡ true = subst (λ k. (k == change.id) ≡ true)
          (sym (numbers change.id r there)) (number_same change.id) in
          let was_changed : Some w ≡ Some (with_change change r) = rw mine refl in
          here change.id (Some w) live live2 written q h ∙ was_changed
          ∙ sym (ap (option_and_then (λ s. Some (with_change change s)))
          (ap (λ k. found k live) (alike q change.id h) ∙ there))
      by false h None at = elsewhere change.id (Some w) live live2 written q h ∙ at
          ∙ sym (ap (option_and_then (λ s. Some (with_change change s))) at)
      by false h (Some s) at =
          elsewhere change.id (Some w) live live2 written q h ∙ at
          ∙ unchanged s (subst (λ k. (k == change.id) ≡ false) (sym (numbers q s at)) h)
          ∙ sym (ap (option_and_then (λ s. Some (with_change change s))) at)

  -- a change of no request
  pub without_change_each : (live : List (ℕ × Request)) → ((n : ℕ) (s : Request) → found n live ≡ Some s → s.number ≡ n)
      → found change.id live ≡ None → IsEach (λ s. Some (with_change change s)) live live
  without_change_each live numbers none q = by (found q live) refl
    where
      miss : (s : Request) → found q live ≡ Some s → (b : Bool) → (q == change.id) ≡ b
          → Some s ≡ Some (with_change change s)
      miss s at true h = absurd (none-some s (sym none ∙ ap (λ k. found k live) (sym (alike q change.id h)) ∙ at))
      miss s at false h = unchanged s (subst (λ k. (k == change.id) ≡ false) (sym (numbers q s at)) h)

      by : (o : Option Request) → found q live ≡ o → found q live
          ≡ option_and_then (λ s. Some (with_change change s)) (found q live)
      by None at = rw at refl
      by (Some s) at = rw at (miss s at (q == change.id) refl)

-- ---- one more, at the end of the list

below : (low high : ℕ) (es : List (ℕ × Request)) → AllByRecursion (λ (e : ℕ × Request). e.1.number ≡ e.0) es
    → IsRising low high (values_of es) → AllByRecursion (λ (e : ℕ × Request). e.0 < high) es
below low high [] is rising = tt
below low high (e ∷ es) is (from, less, rest) = (
  subst (λ k. k < high) is.0 less,
  below (e.1.number + 1) high es is.1 rest,
)

pub added_values : (agent n : ℕ) (phase : Phase) (m : NumberMap Request) (es : List (ℕ × Request))
    → IsStrictlySortedBy nat_cmp (keys_of m.entries) → ((q : ℕ) (s : Request) → found q m.entries ≡ Some s
    → s.number ≡ q)
    → IsRising 0 n (values_of m.entries) → es ≡ insert_entry nat_cmp m.entries n (coming agent n phase)
    → values_of es ≡ values_of m.entries ++ coming agent n phase ∷ []
added_values agent n phase m es ordered numbers rising inserted =
    let low = below 0 n m.entries (own m.entries (found_each m.entries ordered)) rising in
    ap values_of (inserted ∙ entry_last m.entries n (coming agent n phase) low)
    ∙ map-append (λ (e : ℕ × Request). e.1) m.entries ((n, coming agent n phase) ∷ [])
  where
    own : (l : List (ℕ × Request)) → AllByRecursion (λ (e : ℕ × Request). found e.0 m.entries ≡ Some e.1) l
        → AllByRecursion (λ (e : ℕ × Request). e.1.number ≡ e.0) l
    own [] all = tt
    own (e ∷ l) all = (numbers e.0 e.1 all.0, own l all.1)

-- ---- changes that come with a new request, newer than all

-- none of the others is named
unnamed : (low : ℕ) (change : Change) (requests : List Request) → IsRising low change.id requests
    → map (with_change change) requests ≡ requests
unnamed low change [] rising = refl
unnamed low change (r ∷ requests) (from, less, rest) =
    let other : (r.number == change.id) ≡ false = grind (arith, nat_tests, less) in
    rw other (ap (λ l. r ∷ l) (unnamed (r.number + 1) change requests rest))

pub own_change : (agent n : ℕ) (phase : Phase) (change : Change) (requests : List Request) → change.id ≡ n
    → IsRising 0 n requests
    → map (with_change change) (requests ++ coming agent n phase ∷ []) ≡ requests ++ coming agent n change.phase ∷ []
own_change agent n phase change requests is rising =
    let mine : (n == change.id) ≡ true = subst (λ k. (n == k) ≡ true) (sym is) (number_same n) in
    map-append (with_change change) requests (coming agent n phase ∷ [])
    ∙ ap (λ l. l ++ map (with_change change) (coming agent n phase ∷ []))
    (unnamed 0 change requests (subst (λ k. IsRising 0 k requests) (sym is) rising))
    ∙ rw mine refl

pub other_change : (agent n : ℕ) (phase : Phase) (change : Change) (requests : List Request) → (change.id ≡ n → ⊥)
    → map (with_change change) (requests ++ coming agent n phase ∷ [])
    ≡ map (with_change change) requests ++ coming agent n phase ∷ []
other_change agent n phase change requests differs =
    let other : (n == change.id) ≡ false = grind (arith, nat_tests, differs) in
    map-append (with_change change) requests (coming agent n phase ∷ []) ∙ rw other refl
