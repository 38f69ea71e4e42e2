-- The lists of agents and signals, where one agent is written.
use Rattle.std.proofs.Common.{◌≡◌, ℕ, ◌<◌, ◌==◌, Bool, true, false, cond, List, [], ◌∷◌, ◌++◌, refl, ap, subst, sym}
use Rattle.std.proofs.Common.{◌∙◌, arith}
use Rattle.std.specs.Prelude.{Option, Some, None, map}
use Rattle.std.specs.Option.{IsSome, option_copied, option_copied_mut}
use Rattle.std.specs.Borrow.{Bor, MutBor}
use Rattle.std.specs.declared.vec.Vec.{Vec}
use Rattle.std.specs.Map.{keys_of, set_value}
use Rattle.std.specs.List.{AllByRecursion}
use Rattle.std.specs.List.Sorted.{IsStrictlySortedBy}
use Rattle.std.specs.BTreeMap.{is_at}
use Rattle.std.specs.Ordering.{nat_cmp}
use Rattle.std.proofs.lemmas.Bool.Decides.{nat_tests}
use Rattle.wl_index.specs.declared.agent.Agent.{Agent}
use Rattle.wl_index.specs.declared.agent.Signal.{Signal}
use Rattle.wl_index.specs.inner.Lists.{IsRising, Keeps, SameLists, at, list_at, numbers_on, own_of, signed_of}
use Rattle.wl_index.specs.inner.AgentRows.{IsAgentIndex, agent_row}
use Rattle.wl_index.specs.inner.Rows.{Entry}
use Rattle.wl_number_map.proofs.Keyed.{Found, found, number_same, same_number}
use Rattle.wl_index.proofs.Grouping.{no_group_rises, with_updated}
use Rattle.wl_index.proofs.AgentIndexes.{index_stays, rows_stay}

-- lists without numbers rise
pub empty_rises : (a : Agent) → a.requests.items ≡ [] → a.signals.entries ≡ [] → IsRising (Some a)
empty_rises a one two = record {
  own = subst (IsStrictlySortedBy nat_cmp) (sym one) no_group_rises.own;
  signed = λ s. subst (λ es. IsStrictlySortedBy nat_cmp (list_at s es)) (sym two) (no_group_rises.signed s);
}

-- what has the lists that stood there leaves all lists
pub lists_written : (k : ℕ) (w : Agent) (before after : List (ℕ × Agent))
    → ((q : ℕ) → at q after ≡ cond (is_at (nat_cmp k) q) (Some w) (at q before))
    → own_of (Some w) ≡ own_of (at k before)
    → ((s : ℕ) → signed_of s (Some w) ≡ signed_of s (at k before)) → SameLists before after
lists_written k w before after is own signed =
    with_updated (λ q g. (own_of g ≡ own_of (at q before)) × ((s : ℕ) → signed_of s g ≡ signed_of s (at q before))) k
    (Some w) before after is (own, signed) (λ q. (refl, λ s. refl))

-- and so do the lists rise
pub rises_written : (k : ℕ) (w : Agent) (before after : List (ℕ × Agent))
    → ((q : ℕ) → at q after ≡ cond (is_at (nat_cmp k) q) (Some w) (at q before)) → IsRising (Some w)
    → ((q : ℕ) → IsRising (at q before)) → (q : ℕ) → IsRising (at q after)
rises_written k w before after is here all = with_updated (λ q g. IsRising g) k (Some w) before after is here all

-- nothing stands at a number above all
pub none_above : {X : Type 0} (n : ℕ) (es : List (ℕ × X)) → AllByRecursion (λ (e : ℕ × X). e.0 < n) es → at n es ≡ None
none_above n [] below = refl
none_above n (e ∷ es) below = let less = below.0 in let no : (e.0 == n) ≡ false = grind (arith, nat_tests, less)
    in rw (same_number n e.0, no) (none_above n es below.1)

-- ---- an agent's lists are written

-- who has the same signals and says the same of itself leaves the rows as they are, and all lists where its own keep
-- what is live
pub record Relisted (live : List Entry) (before after : List (ℕ × Agent)) (signals : List (ℕ × Signal))
    (next_agent next_signal : ℕ) : Type 0 where
  pub agent_index : IsAgentIndex after signals next_agent next_signal
  pub rising : (q : ℕ) → IsRising (at q after)
  pub rows : map agent_row after ≡ map agent_row before
  pub kept : (q : ℕ) → Keeps live (at q before) (at q after)

pub relisted : (live : List Entry) (k : ℕ) (m w : Agent) (before after : List (ℕ × Agent)) (signals : List (ℕ × Signal))
    (next_agent next_signal : ℕ) → IsAgentIndex before signals next_agent next_signal
    → ((q : ℕ) → IsRising (at q before))
    → at k before ≡ Some m
    → after ≡ set_value (is_at (nat_cmp k)) before w → ((q : ℕ)
    → at q after ≡ cond (is_at (nat_cmp k) q) (Some w) (at q before)) → w.kind ≡ m.kind → w.active ≡ m.active
    → keys_of w.signals.entries ≡ keys_of m.signals.entries
    → IsRising (Some w) → Keeps live (Some m) (Some w) → Relisted live before after signals next_agent next_signal
relisted live k m w before after signals next_agent next_signal agent_index rising there set is
    kind active keys rises keeps =
    let f = found k before m agent_index.members_ordered there in
    record {
      agent_index = rw set (index_stays k before signals next_agent next_signal m w agent_index f keys);
      rising = rises_written k w before after is rises rising;
      rows = ap (map agent_row) set ∙ rows_stay k before m w f kind active;
      kept = with_updated (λ q g. Keeps live (at q before) g) k (Some w) before after is
          (subst (λ o. Keeps live o (Some w)) (sym there) keeps)
          (λ q. record { own = λ n is has. has; signed = λ s n is has. has });
    }

pub written_here : {X : Type 0} (k : ℕ) (w : X) (before after : List (ℕ × X))
    → ((q : ℕ) → at q after ≡ cond (is_at (nat_cmp k) q) (Some w) (at q before)) → at k after ≡ Some w
written_here k w before after is = is k ∙ rw (same_number k k, number_same k) refl

-- what is looked up once a value was written
pub set_looks : {X : Type 0} (k q : ℕ) (m w : X) (es : List (ℕ × X)) → Found k es m
    → at q (set_value (is_at (nat_cmp k)) es w) ≡ cond (is_at (nat_cmp k) q) (Some w) (at q es)
set_looks {X} k q m w es f = ap (at q) (f.set w) ∙ along f.front f.low
    ∙ ap (λ l. cond (is_at (nat_cmp k) q) (Some w) (at q l)) (sym f.whole)
  where
    here : (b : Bool) → (q == k) ≡ b → at q ((k, w) ∷ f.back)
        ≡ cond (is_at (nat_cmp k) q) (Some w) (at q ((k, m) ∷ f.back))
    here true h = let back : (k == q) ≡ true = grind (arith, nat_tests, h)
        in rw (same_number k q, same_number q k, h, back) refl
    here false h = let back : (k == q) ≡ false = grind (arith, nat_tests, h)
        in rw (same_number k q, same_number q k, h, back) refl

    by : (e : ℕ × X) (l : List (ℕ × X)) (b : Bool) → (e.0 == q) ≡ b → (e.0 == k) ≡ false
        → at q (l ++ (k, w) ∷ f.back) ≡ cond (is_at (nat_cmp k) q) (Some w) (at q (l ++ (k, m) ∷ f.back))
        → cond (is_at (nat_cmp q) e.0) (Some e.1) (at q (l ++ (k, w) ∷ f.back))
        ≡ cond (is_at (nat_cmp k) q) (Some w) (cond (is_at (nat_cmp q) e.0) (Some e.1) (at q (l ++ (k, m) ∷ f.back)))
    by e l true h apart rest = let other : (q == k) ≡ false = grind (arith, nat_tests, h, apart)
        in rw (same_number q e.0, same_number k q, h, other) refl
    by e l false h apart rest = rw (same_number q e.0, h) rest

    along : (l : List (ℕ × X)) → AllByRecursion (λ (e : ℕ × X). (e.0 == k) ≡ false) l
        → at q (l ++ (k, w) ∷ f.back) ≡ cond (is_at (nat_cmp k) q) (Some w) (at q (l ++ (k, m) ∷ f.back))
    along [] low = here (q == k) refl
    along (e ∷ l) low = by e l (e.0 == q) refl low.0 (along l low.1)

-- an empty list behind all others
pub list_more : {Z : Type 0} (es : List (ℕ × Vec ℕ Z)) (k s : ℕ) (x : Vec ℕ Z)
    → AllByRecursion (λ (e : ℕ × Vec ℕ Z). e.0 < k) es → x.items ≡ [] → list_at s (es ++ (k, x) ∷ []) ≡ list_at s es
list_more {Z} [] k s x below none = by (is_at (nat_cmp s) k)
  where
    by : (b : Bool) → numbers_on (cond b (Some x) None) ≡ []
    by true = none
    by false = refl
list_more {Z} (e ∷ es) k s x below none = by (is_at (nat_cmp s) e.0) (list_more es k s x below.1 none)
  where
    by : (b : Bool) → list_at s (es ++ (k, x) ∷ []) ≡ list_at s es
        → numbers_on (cond b (Some e.1) (at s (es ++ (k, x) ∷ []))) ≡ numbers_on (cond b (Some e.1) (at s es))
    by true rest = refl
    by false rest = rest

-- an agent with the same lists
pub rises_as : (was w : Agent) → w.requests ≡ was.requests → ((s : ℕ)
    → list_at s w.signals.entries ≡ list_at s was.signals.entries) → IsRising (Some was) → IsRising (Some w)
rises_as was w one two r = record {
  own = rw one r.own;
  signed = λ s. subst (IsStrictlySortedBy nat_cmp) (sym (two s)) (r.signed s);
}

-- ---- what was lent

pub lent_some : {T : Type 0} (o : Option (MutBor T)) (p : Option T) → option_copied_mut o ≡ p → IsSome p → IsSome o
lent_some None p is some = subst IsSome (sym is) some
lent_some (Some x) p is some = refl

pub seen_some : {T : Type 0} (o : Option (Bor T)) (p : Option T) → option_copied o ≡ p → IsSome p → IsSome o
seen_some None p is some = subst IsSome (sym is) some
seen_some (Some x) p is some = refl
