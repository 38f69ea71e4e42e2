-- The live requests on the lists of their agents and signals: one more, one less, and none of an agent.
use Rattle.std.proofs.Common.{◌≡◌, ℕ, ◌<◌, ◌==◌, Bool, true, false, cond, List, [], ◌∷◌, ◌++◌, refl, ap, subst, sym}
use Rattle.std.proofs.Common.{◌∙◌}
use Rattle.std.specs.Prelude.{not, filter, Option, Some, None, is_some, Result, Ok, Err, OnOk, OnErr, ◌+◌}
use Rattle.std.specs.List.{AllByRecursion, Contains, list_any}
use Rattle.std.specs.List.Sorted.{IsStrictlySortedBy}
use Rattle.std.specs.Map.{keys_of, lookup}
use Rattle.std.specs.BTreeMap.{is_at}
use Rattle.std.specs.Ordering.{nat_cmp}
use Rattle.std.proofs.lemmas.List.{map-append}
use Rattle.wl_machine.specs.declared.rows.HeldRow.{HeldRow}
use Rattle.wl_machine.specs.declared.rows.PendingRow.{PendingRow}
use Rattle.wl_types.specs.declared.ask.Ask.{Ask}
use Rattle.wl_types.specs.declared.memory.Memory.{Memory}
use Rattle.wl_machine.specs.Step.{is_signal, with_name}
use Rattle.wl_machine.proofs.Covers.{alike}
use Rattle.wl_machine.proofs.Lists.{and_first, and_second, any_map, or_false}
use Rattle.wl_index.specs.declared.request.Owner.{Owner}
use Rattle.wl_index.specs.declared.request.Owner.TheVariants as owner
use Rattle.wl_index.specs.declared.agent.Agent.{Agent}
use Rattle.wl_index.specs.inner.GrantOrder.{by_grant_seq}
use Rattle.wl_index.specs.inner.Rows.{Entry, Tag, tag, tags_of, other, waits, waiting, holding, grant_seq_of}
use Rattle.wl_index.specs.inner.Rows.{request_row, lock_row, pending_of, held_of}
use Rattle.wl_index.specs.inner.Lists.{at, own_of, signed_of, IsOn, Keeps, IsGrouped, SameLists}
use Rattle.wl_index.specs.inner.Ends.{ends_request, ends_lock, HasNone, IsOwners}
use Rattle.wl_index.specs.inner.Locks.{Board, request_for}
use Rattle.wl_index.proofs.Lists.{all_append, any_by_grant_seq}
use Rattle.wl_number_map.proofs.Keyed.{found_each, same_number}
use Rattle.wl_index.proofs.Rows.{holds_or_waits}

pub tags_more : (es : List Entry) (e : Entry) → tags_of (es ++ e ∷ []) ≡ tags_of es ++ tag e ∷ []
tags_more es e = map-append tag es (e ∷ [])

abbrev is_on : List (ℕ × Agent) → Tag → Type 0
is_on agents t = IsOn (at t.agent agents) t.number t.signal

-- lists that keep what is live
pub grouped_kept : (es : List Entry) (before after : List (ℕ × Agent)) → IsStrictlySortedBy nat_cmp (keys_of es)
    → ((a : ℕ) → Keeps es (at a before) (at a after)) → IsGrouped (tags_of es) before → IsGrouped (tags_of es) after
grouped_kept es before after sorted keeps is = all es (found_each es sorted) is
  where
    all : (l : List Entry) → AllByRecursion (λ (e : Entry). lookup (is_at (nat_cmp e.0)) es ≡ Some e.1) l
        → AllByRecursion (is_on before) (tags_of l) → AllByRecursion (is_on after) (tags_of l)
    all [] there on = tt
    all (e ∷ l) there on =
        let live = ap is_some there.0 in
        let k = keeps e.1.agent in (
          record { own = k.own e.0 live on.0.own; signed = λ s is. k.signed s e.0 live (on.0.signed s is) },
          all l there.1 on.1,
        )

-- lists that stay
pub grouped_same : (tags : List Tag) (before after : List (ℕ × Agent)) → SameLists before after → IsGrouped tags before
    → IsGrouped tags after
grouped_same [] before after same on = tt
grouped_same (t ∷ tags) before after same on =
    let s = same t.agent in (
      record {
        own = subst (λ l. Contains l t.number) (sym s.0) on.0.own;
        signed = λ k is. subst (λ l. Contains l t.number) (sym (s.1 k)) (on.0.signed k is);
      },
      grouped_same tags before after same on.1,
    )

-- some of the live
pub grouped_fewer : (p : Entry → Bool) (es : List Entry) (agents : List (ℕ × Agent)) → IsGrouped (tags_of es) agents
    → IsGrouped (tags_of (filter p es)) agents
grouped_fewer p [] agents on = tt
grouped_fewer p (e ∷ es) agents on = by (p e) (grouped_fewer p es agents on.1)
  where
    by : (b : Bool) → IsGrouped (tags_of (filter p es)) agents
        → IsGrouped (tags_of (cond b (e ∷ filter p es) (filter p es))) agents
    by true rest = (on.0, rest)
    by false rest = rest

-- an agent that has none loses its lists
pub grouped_gone : (agent : ℕ) (es : List Entry) (before after : List (ℕ × Agent))
    → ((other : ℕ) → (other == agent) ≡ false → at other after ≡ at other before)
    → AllByRecursion (λ (e : Entry). (e.1.agent == agent) ≡ false) es → IsGrouped (tags_of es) before
    → IsGrouped (tags_of es) after
grouped_gone agent [] before after others apart on = tt
grouped_gone agent (e ∷ es) before after others apart on = (
  subst (λ g. IsOn g e.0 e.1.signal) (sym (others e.1.agent apart.0)) on.0,
  grouped_gone agent es before after others apart.1 on.1,
)

-- a request came, and its agent's lists have its number; or nothing came
pub grouped_asked : (r : Result ℕ Memory) (before after : Board) (agent : ℕ) (ask : Ask)
    (members members' : List (ℕ × Agent)) → IsStrictlySortedBy nat_cmp (keys_of before.entries)
    → ((a : ℕ) → Keeps before.entries (at a members) (at a members')) → IsGrouped (tags_of before.entries) members
    → IsOn (at agent members') before.next ask.signal → OnOk r
    (after ≡ record before {
      entries = before.entries ++ (before.next, request_for agent ask) ∷ [];
      next = before.next + 1;
      names = with_name ask.name before.names;
    }) → OnErr r (after ≡ before)
    → IsGrouped (tags_of after.entries) members'
grouped_asked (Ok n) before after agent ask members members' sorted keeps grouped on came same =
    rw (came, tags_more before.entries (before.next, request_for agent ask))
    (all_append (is_on members') (tags_of before.entries) (tag (before.next, request_for agent ask) ∷ [])
    (grouped_kept before.entries members members' sorted keeps grouped) (on, tt))
grouped_asked (Err e) before after agent ask members members' sorted keeps grouped on came same =
    rw same (grouped_kept before.entries members members' sorted keeps grouped)

-- ---- what a look finds

pub numbers_below : (next n : ℕ) (es : List Entry) → AllByRecursion (λ (e : Entry). e.0 < next) es
    → is_some (at n es) ≡ true → n < next
numbers_below next n [] all live = absurd (cc live)
numbers_below next n (e ∷ es) all live = by (e.0 == n) refl (numbers_below next n es all.1)
  where
    seen : (b : Bool) → (e.0 == n) ≡ b → is_some (cond b (Some e.1) (at n es)) ≡ true
    seen b h = sym (ap (λ c. is_some (cond c (Some e.1) (at n es))) (same_number n e.0 ∙ h)) ∙ live

    by : (b : Bool) → (e.0 == n) ≡ b → (is_some (at n es) ≡ true → n < next) → n < next
    by true h rest = subst (λ k. k < next) (alike e.0 n h) all.0
    by false h rest = rest (seen false h)

-- a request with a signal has that signal
with_it : (number : ℕ) (signal : Option ℕ) → is_signal number signal ≡ true → signal ≡ Some number
with_it number None is = absurd (cc is)
with_it number (Some other) is = ap Some (alike other number is)

pub owners_own : (agent : ℕ) (es : List Entry) (agents : List (ℕ × Agent)) → AllByRecursion (is_on agents) (tags_of es)
    → IsOwners (owner.Agent agent) es (own_of (at agent agents))
owners_own agent [] agents on = tt
owners_own agent (e ∷ es) agents on = (
  (λ is. subst (λ a. Contains (own_of (at a agents)) e.0)
      (alike e.1.agent agent is) on.0.own),
  owners_own agent es agents on.1,
)

pub owners_signed : (agent signal : ℕ) (es : List Entry) (agents : List (ℕ × Agent))
    → AllByRecursion (is_on agents) (tags_of es) → IsOwners (owner.Signal agent signal) es
    (signed_of signal (at agent agents))
owners_signed agent signal [] agents on = tt
owners_signed agent signal (e ∷ es) agents on = (
  (λ is. subst (λ a. Contains (signed_of signal (at a agents)) e.0)
      (alike e.1.agent agent (and_first (e.1.agent == agent) (is_signal signal e.1.signal) is))
      (on.0.signed signal (with_it signal e.1.signal (and_second (e.1.agent == agent) (is_signal signal e.1.signal)
      is)))),
  owners_signed agent signal es agents on.1,
)

-- ---- none is left of an agent

any_out : {X : Type 0} (p : X → Bool) (xs : List X) → list_any p (filter (λ x. not (p x)) xs) ≡ false
any_out p [] = refl
any_out {X} p (x ∷ xs) = by (p x) refl (any_out p xs)
  where
    by : (b : Bool) → p x ≡ b → list_any p (filter (λ x. not (p x)) xs) ≡ false
        → list_any p (cond (not b) (x ∷ filter (λ x. not (p x)) xs) (filter (λ x. not (p x)) xs)) ≡ false
    by true h rest = rest
    by false h rest = rw h rest

-- each waits or holds
neither : (p : Entry → Bool) (es : List Entry) → list_any p (filter waiting es) ≡ false
    → list_any p (filter holding es) ≡ false → AllByRecursion (λ (e : Entry). p e ≡ false) es
neither p [] w h = tt
neither p (e ∷ es) w h = by (neither p es) (waits e.1.stage) w
    (subst (λ b. list_any p (cond b (e ∷ filter holding es) (filter holding es)) ≡ false) (holds_or_waits e.1.stage) h)
  where
    by : (list_any p (filter waiting es) ≡ false → list_any p (filter holding es) ≡ false
        → AllByRecursion (λ (e : Entry). p e ≡ false) es) → (b : Bool)
        → list_any p (cond b (e ∷ filter waiting es) (filter waiting es)) ≡ false
        → list_any p (cond (not b) (e ∷ filter holding es) (filter holding es)) ≡ false
        → AllByRecursion (λ (e : Entry). p e ≡ false) (e ∷ es)
    by rest true w h = let out = or_false (p e) (list_any p (filter waiting es)) w in (out.0, rest out.1 h)
    by rest false w h = let out = or_false (p e) (list_any p (filter holding es)) h in (out.0, rest w out.1)

pub none_of : (owner : Owner) (es : List Entry) (pending : List PendingRow) (held : List HeldRow)
    → pending_of es ≡ filter (λ request. not (ends_request owner request)) pending
    → held_of es ≡ filter (λ lock. not (ends_lock owner lock)) held → HasNone owner es
none_of (owner.Signal agent signal) es pending held waits_are holds_are = tt
none_of (owner.Agent agent) es pending held waits_are holds_are =
    neither (λ (e : Entry). e.1.agent == agent) es waiting_none holding_none
  where
    asks : PendingRow → Bool
    asks request = request.agent == agent

    has : HeldRow → Bool
    has lock = lock.agent == agent

    waiting_none : list_any (λ (e : Entry). e.1.agent == agent) (filter waiting es) ≡ false
    waiting_none = sym (any_map asks request_row (filter waiting es)) ∙ ap (list_any asks) waits_are
        ∙ any_out asks pending

    holding_none : list_any (λ (e : Entry). e.1.agent == agent) (filter holding es) ≡ false
    holding_none = sym (any_map has lock_row (by_grant_seq grant_seq_of (filter holding es))
        ∙ any_by_grant_seq grant_seq_of (λ (e : Entry). e.1.agent == agent) (filter holding es))
        ∙ ap (list_any has) holds_are ∙ any_out has held
