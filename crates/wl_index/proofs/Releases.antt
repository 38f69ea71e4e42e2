-- An agent's lock is given up.
use Rattle.std.proofs.Common.{◌≡◌, ℕ, ◌==◌, Bool, true, false, cond, List, [], ◌∷◌, ◌++◌, refl, sym, ap, ◌∙◌}
use Rattle.std.specs.Prelude.{filter, not, ◌&&◌, ◌||◌, Option, Some, None}
use Rattle.std.specs.List.{list_any, AllByRecursion}
use Rattle.std.specs.List.Sorted.{IsStrictlySortedBy}
use Rattle.std.specs.Map.{keys_of, lookup, remove_entry}
use Rattle.std.specs.BTreeMap.{is_at}
use Rattle.std.specs.Ordering.{nat_cmp}
use Rattle.std.proofs.lemmas.Map.Keys.{sorted_head, sorted_tail}
use Rattle.std.proofs.lemmas.List.Elements.{filter-append}
use Rattle.wl_machine.specs.Step.{is_lock_of}
use Rattle.wl_machine.proofs.Lists.{any_map}
use Rattle.wl_index.specs.declared.request.Request.{Request}
use Rattle.wl_index.specs.declared.request.Stage.{Stage}
use Rattle.wl_index.specs.declared.request.Stage.TheVariants.{Pending, Held}
use Rattle.wl_index.specs.inner.GrantOrder.{by_grant_seq}
use Rattle.wl_index.specs.inner.Rows.{Entry, other, waits, holds, holding, grant_seq_of, lock_row, pending_of, held_of}
use Rattle.wl_index.specs.inner.Rows.{IsLock}
use Rattle.wl_index.proofs.Lists.{filter_whole, filter_none, all_weaker, any_by_grant_seq}
use Rattle.std.proofs.Math.Bool.{and-false}
use Rattle.wl_number_map.proofs.Keyed.{same_number, number_same, above_apart, found}
use Rattle.wl_index.proofs.Rows.{removed, held_filter, pending_append}

-- whether the agent's lock of this number is that entry
abbrev pub lock_at : ℕ → ℕ → Option Request → Bool
lock_at agent id None = false
lock_at agent id (Some r) = holds r.stage && r.agent == agent

abbrev pub lock_entry : ℕ → ℕ → Entry → Bool
lock_entry agent id e = holding e && is_lock_of agent id (lock_row e)

lock_filter : (agent id : ℕ) (es : List Entry) → list_any (λ e. is_lock_of agent id (lock_row e)) (filter holding es)
    ≡ list_any (lock_entry agent id) es
lock_filter agent id [] = refl
lock_filter agent id (e ∷ es) = by (holding e) refl (lock_filter agent id es)
  where
    by : (b : Bool) → holding e ≡ b → list_any (λ e. is_lock_of agent id (lock_row e)) (filter holding es)
        ≡ list_any (lock_entry agent id) es
        → list_any (λ e. is_lock_of agent id (lock_row e)) (cond b (e ∷ filter holding es) (filter holding es))
        ≡ ((holding e && is_lock_of agent id (lock_row e)) || list_any (lock_entry agent id) es)
    by true h rest = rw h (ap (λ b. is_lock_of agent id (lock_row e) || b) rest)
    by false h rest = rw h rest

lock_apart : (agent id : ℕ) (es : List Entry) → AllByRecursion (λ (e : Entry). (e.0 == id) ≡ false) es
    → list_any (lock_entry agent id) es ≡ false
lock_apart agent id [] apart = refl
lock_apart agent id (e ∷ es) apart = rw (apart.0, and-false (holding e)) (lock_apart agent id es apart.1)

lock_found : (agent id : ℕ) (es : List Entry) → IsStrictlySortedBy nat_cmp (keys_of es)
    → list_any (lock_entry agent id) es ≡ lock_at agent id (lookup (is_at (nat_cmp id)) es)
lock_found agent id [] sorted = refl
lock_found agent id (e ∷ es) sorted = by (e.0 == id) refl (lock_found agent id es
    (sorted_tail nat_cmp e.0 (keys_of es) sorted))
  where
    or_false : (b : Bool) → (b || false) ≡ b
    or_false true = refl
    or_false false = refl

    by : (b : Bool) → (e.0 == id) ≡ b → list_any (lock_entry agent id) es
        ≡ lock_at agent id (lookup (is_at (nat_cmp id)) es)
        → ((holding e && ((e.0 == id) && (e.1.agent == agent))) || list_any (lock_entry agent id) es)
        ≡ lock_at agent id (cond (is_at (nat_cmp id) e.0) (Some e.1) (lookup (is_at (nat_cmp id)) es))
    by true h rest = rw (
      same_number id e.0,
      h,
      lock_apart agent id es
          (above_apart id e.0 es h (sorted_head nat_cmp e.0 (keys_of es) sorted)),
    )
        (or_false (holding e && (e.1.agent == agent)))
    by false h rest = rw (same_number id e.0, h, and-false (holding e)) rest

pub lock_there : (agent id : ℕ) (es : List Entry) → IsStrictlySortedBy nat_cmp (keys_of es)
    → list_any (is_lock_of agent id) (held_of es) ≡ lock_at agent id (lookup (is_at (nat_cmp id)) es)
lock_there agent id es sorted =
    any_map (is_lock_of agent id) lock_row (by_grant_seq grant_seq_of (filter holding es))
    ∙ any_by_grant_seq grant_seq_of (λ e. is_lock_of agent id (lock_row e)) (filter holding es)
    ∙ lock_filter agent id es ∙ lock_found agent id es sorted

-- the lists without the agent's lock
pub record Released (agent id : ℕ) (es : List Entry) (r : Request) : Type 0 where
  pub only : filter (is_lock_of agent id) (held_of es) ≡ lock_row (id, r) ∷ []
  pub held : held_of (remove_entry (is_at (nat_cmp id)) es)
      ≡ filter (λ lock. not (is_lock_of agent id lock)) (held_of es)
  pub pending : pending_of (remove_entry (is_at (nat_cmp id)) es) ≡ pending_of es

both_true : (a b : Bool) → (a && b) ≡ true → (a ≡ true) × (b ≡ true)
both_true true true h = (refl, refl)
both_true true false h = absurd (cc)
both_true false b h = absurd (cc)

pub released_meets : (agent id : ℕ) (es : List Entry) (r : Request) → IsStrictlySortedBy nat_cmp (keys_of es)
    → lookup (is_at (nat_cmp id)) es ≡ Some r → list_any (is_lock_of agent id) (held_of es) ≡ true
    → Released agent id es r
released_meets agent id es r sorted there held_there =
    let f = found id es r sorted there in
    let q : Entry → Bool = λ e. is_lock_of agent id (lock_row e) in
    let parts = both_true (holds r.stage) (r.agent == agent)
    (ap (lock_at agent id) (sym there) ∙ sym (lock_there agent id es sorted) ∙ held_there) in
    let self : q (id, r) ≡ true = rw (number_same id, parts.1) refl in
    let front_out : AllByRecursion (λ e. q e ≡ false) f.front =
    all_weaker (λ (e : Entry). (e.0 == id) ≡ false) (λ e. q e ≡ false) f.front (λ e no. rw no refl) f.low in
    let back_out : AllByRecursion (λ e. q e ≡ false) f.back =
    all_weaker (λ (e : Entry). (e.0 == id) ≡ false) (λ e. q e ≡ false) f.back (λ e no. rw no refl) f.high in
    let front_in : AllByRecursion (λ e. not (q e) ≡ true) f.front =
    all_weaker (λ (e : Entry). (e.0 == id) ≡ false) (λ e. not (q e) ≡ true) f.front (λ e no. rw no refl) f.low in
    let back_in : AllByRecursion (λ e. not (q e) ≡ true) f.back =
    all_weaker (λ (e : Entry). (e.0 == id) ≡ false) (λ e. not (q e) ≡ true) f.back (λ e no. rw no refl) f.high in
    let front_other : AllByRecursion (λ e. other id e ≡ true) f.front =
    all_weaker (λ (e : Entry). (e.0 == id) ≡ false) (λ e. other id e ≡ true) f.front (λ e no. rw no refl) f.low in
    let back_other : AllByRecursion (λ e. other id e ≡ true) f.back =
    all_weaker (λ (e : Entry). (e.0 == id) ≡ false) (λ e. other id e ≡ true) f.back (λ e no. rw no refl) f.high in
    let one : filter q es ≡ (id, r) ∷ [] = ap (filter q) f.whole ∙ filter-append q f.front ((id, r) ∷ f.back)
    ∙ rw (filter_none q f.front front_out, self, filter_none q f.back back_out) refl in
    let rest : filter (λ e. not (q e)) es ≡ f.front ++ f.back = ap (filter (λ e. not (q e))) f.whole
    ∙ filter-append (λ e. not (q e)) f.front ((id, r) ∷ f.back)
    ∙ rw (filter_whole (λ e. not (q e)) f.front front_in, self, filter_whole (λ e. not (q e)) f.back back_in) refl in
    let gone : filter (other id) es ≡ f.front ++ f.back = ap (filter (other id)) f.whole
    ∙ filter-append (other id) f.front ((id, r) ∷ f.back)
    ∙ rw (filter_whole (other id) f.front front_other, number_same id, filter_whole (other id) f.back back_other) refl
    in
    let moved : waits r.stage ≡ false = holds_not_waits r.stage parts.0 in
    let here : pending_of ((id, r) ∷ f.back) ≡ pending_of f.back = rw moved refl in
    record {
      only = sym (held_filter (is_lock_of agent id) es) ∙ ap held_of one ∙ rw parts.0 refl;
      held = ap held_of (removed id es sorted ∙ gone ∙ sym rest)
          ∙ held_filter (λ lock. not (is_lock_of agent id lock)) es;
      pending = ap pending_of (removed id es sorted ∙ gone) ∙ pending_append f.front f.back
          ∙ sym (ap pending_of f.whole ∙ pending_append f.front ((id, r) ∷ f.back)
          ∙ ap (λ l. pending_of f.front ++ l) here);
    }
  where
    holds_not_waits : (s : Stage) → holds s ≡ true → waits s ≡ false
    holds_not_waits Pending h = absurd (cc)
    holds_not_waits (Held at taken) h = refl

pub lock_is : (agent id : ℕ) (es : List Entry) (r : Request) → IsStrictlySortedBy nat_cmp (keys_of es)
    → lookup (is_at (nat_cmp id)) es ≡ Some r → list_any (is_lock_of agent id) (held_of es) ≡ true
    → IsLock agent id es r
lock_is agent id es r sorted there held =
    let m = released_meets agent id es r sorted there held in
    let gone = removed id es sorted in
    record {
      there = there;
      only = m.only;
      held = ap held_of (sym gone) ∙ m.held;
      pending = ap pending_of (sym gone) ∙ m.pending;
    }
