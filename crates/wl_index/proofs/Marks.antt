-- A lock is marked as taken, if it wasn't before.
use Rattle.std.proofs.Common.{◌≡◌, ℕ, suc, ◌<◌, ◌==◌, Bool, true, false, cond, List, [], ◌∷◌, ◌++◌, length, refl, sym}
use Rattle.std.proofs.Common.{ap, ◌∙◌, map}
use Rattle.std.specs.Prelude.{filter, not, ◌&&◌, ◌||◌, Option, Some, None}
use Rattle.std.specs.List.{list_any, AllByRecursion}
use Rattle.std.specs.List.Sorted.{IsStrictlySortedBy}
use Rattle.std.specs.Map.{keys_of, lookup, set_value}
use Rattle.std.specs.BTreeMap.{is_at}
use Rattle.std.specs.Ordering.{nat_cmp}
use Rattle.std.proofs.lemmas.Map.Keys.{sorted_head, sorted_tail}
use Rattle.std.proofs.lemmas.Option.{none-some}
use Rattle.std.proofs.lemmas.List.{map-append}
use Rattle.wl_machine.specs.Step.{is_untaken, with_taken}
use Rattle.wl_machine.proofs.Lists.{filter_map, any_map}
use Rattle.wl_index.specs.declared.request.Request.{Request}
use Rattle.wl_index.specs.declared.request.Stage.{Stage}
use Rattle.wl_index.specs.declared.request.Stage.TheVariants.{Pending, Held}
use Rattle.wl_index.specs.inner.GrantOrder.{by_grant_seq}
use Rattle.wl_index.proofs.GrantOrder.{by_grant_seq_all}
use Rattle.wl_index.specs.inner.Rows.{Entry, tag, tags_of, is_fresh, taken_stage, waits, holds, grant_seq, waiting}
use Rattle.wl_index.specs.inner.Rows.{holding, grant_seq_of, request_row, lock_row, pending_of, held_of, IsTable}
use Rattle.wl_index.proofs.Distinct.{distinct_map}
use Rattle.wl_index.proofs.Lists.{filter_like, filter_passed, any_by_grant_seq, map_by_grant_seq}
use Rattle.std.proofs.Math.Bool.{and-false}
use Rattle.wl_number_map.proofs.Keyed.{same_number, number_same, above_apart, found}

abbrev pub marked : Request → Request
marked r = record r { stage = taken_stage r.stage }

abbrev pub mark : ℕ → Entry → Entry
mark id e = (e.0, cond (e.0 == id) (marked e.1) e.1)

mark_apart : (id : ℕ) (es : List Entry) → AllByRecursion (λ (e : Entry). (e.0 == id) ≡ false) es → map (mark id) es ≡ es
mark_apart id [] apart = refl
mark_apart id (e ∷ es) apart = rw (apart.0, mark_apart id es apart.1) refl

-- one entry at most has a number, so a write is a map
pub marks : (id : ℕ) (es : List Entry) (r : Request) → IsStrictlySortedBy nat_cmp (keys_of es)
    → lookup (is_at (nat_cmp id)) es ≡ Some r → set_value (is_at (nat_cmp id)) es (marked r) ≡ map (mark id) es
marks id es r sorted there =
    let f = found id es r sorted there in
    let parts : map (mark id) (f.front ++ (id, r) ∷ f.back)
    ≡ f.front ++ (id, marked r) ∷ f.back = rw (
      map-append (mark id) f.front ((id, r) ∷ f.back),
      mark_apart id f.front f.low,
      mark_apart id f.back f.high,
      number_same id,
    ) refl in
    f.set (marked r) ∙ sym (ap (map (mark id)) f.whole ∙ parts)

pub marks_none : (id : ℕ) (es : List Entry) → lookup (is_at (nat_cmp id)) es ≡ None → map (mark id) es ≡ es
marks_none id [] none = refl
marks_none id (e ∷ es) none = by (e.0 == id) refl (marks_none id es)
  where
    seen : (b : Bool) → (e.0 == id) ≡ b → cond b (Some e.1) (lookup (is_at (nat_cmp id)) es) ≡ None
    seen b h = sym (ap (λ c. cond c (Some e.1) (lookup (is_at (nat_cmp id)) es)) (same_number id e.0 ∙ h)) ∙ none

    by : (b : Bool) → (e.0 == id) ≡ b → (lookup (is_at (nat_cmp id)) es ≡ None → map (mark id) es ≡ es)
        → (e.0, cond (e.0 == id) (marked e.1) e.1) ∷ map (mark id) es ≡ e ∷ es
    by true h rest = absurd (none-some e.1 (sym (seen true h)))
    by false h rest = rw (h, rest (seen false h)) refl

abbrev pub fresh_at : Option Request → Bool
fresh_at None = false
fresh_at (Some r) = is_fresh r.stage

holds_marked : (id : ℕ) (n : ℕ) (s : Stage) (b : Bool) → holds (cond b (taken_stage s) s) ≡ holds s
holds_marked id n Pending true = refl
holds_marked id n Pending false = refl
holds_marked id n (Held at taken) true = refl
holds_marked id n (Held at taken) false = refl

marked_same : (P : Stage → Type 0) (id : ℕ) (e : Entry) → ((b : Bool) → P (cond b (taken_stage e.1.stage) e.1.stage))
    → P (mark id e).1.stage
marked_same P id e all = by (e.0 == id) all
  where
    by : (b : Bool) → ((b : Bool) → P (cond b (taken_stage e.1.stage) e.1.stage)) → P (cond b (marked e.1) e.1).stage
    by true all = all true
    by false all = all false

grant_seq_marked : (s : Stage) (b : Bool) → grant_seq (cond b (taken_stage s) s) ≡ grant_seq s
grant_seq_marked Pending true = refl
grant_seq_marked Pending false = refl
grant_seq_marked (Held at taken) true = refl
grant_seq_marked (Held at taken) false = refl

waits_marked : (s : Stage) (b : Bool) → waits (cond b (taken_stage s) s) ≡ waits s
waits_marked Pending true = refl
waits_marked Pending false = refl
waits_marked (Held at taken) true = refl
waits_marked (Held at taken) false = refl

same_grant_seq : (id : ℕ) (e : Entry) → grant_seq_of (mark id e) ≡ grant_seq_of e
same_grant_seq id e = marked_same (λ s. grant_seq s ≡ grant_seq e.1.stage) id e (grant_seq_marked e.1.stage)

same_holding : (id : ℕ) (e : Entry) → holding (mark id e) ≡ holding e
same_holding id e = marked_same (λ s. holds s ≡ holds e.1.stage) id e (holds_marked id e.0 e.1.stage)

same_waiting : (id : ℕ) (e : Entry) → waiting (mark id e) ≡ waiting e
same_waiting id e = marked_same (λ s. waits s ≡ waits e.1.stage) id e (waits_marked e.1.stage)

marked_row : (id n : ℕ) (r : Request) (s : Stage) (b : Bool) → (n == id) ≡ b → holds s ≡ true
    → lock_row (n, cond b (marked (record r { stage = s })) (record r { stage = s }))
    ≡ with_taken id (lock_row (n, record r { stage = s }))
marked_row id n r Pending b h holds_now = absurd (cc)
marked_row id n r (Held at true) true h holds_now = refl
marked_row id n r (Held at true) false h holds_now = refl
marked_row id n r (Held at false) true h holds_now = rw h refl
marked_row id n r (Held at false) false h holds_now = rw h refl

marked_rows : (id : ℕ) (l : List Entry) → AllByRecursion (λ (e : Entry). holding e ≡ true) l
    → map lock_row (map (mark id) l) ≡ map (with_taken id) (map lock_row l)
marked_rows id [] all = refl
marked_rows id (e ∷ l) all = rw (marked_row id e.0 e.1 e.1.stage (e.0 == id) refl all.0, marked_rows id l all.1) refl

pub held_marked : (id : ℕ) (es : List Entry) → held_of (map (mark id) es) ≡ map (with_taken id) (held_of es)
held_marked id es =
    ap (λ l. map lock_row (by_grant_seq grant_seq_of l)) (filter_map holding (mark id) es
    ∙ ap (map (mark id)) (filter_like (λ e. holding (mark id e)) holding (same_holding id) es))
    ∙ ap (map lock_row) (sym (map_by_grant_seq grant_seq_of grant_seq_of (mark id) (same_grant_seq id)
    (filter holding es)))
    ∙ marked_rows id (by_grant_seq grant_seq_of (filter holding es))
    (by_grant_seq_all grant_seq_of (λ (e : Entry). holding e ≡ true) (filter holding es) (filter_passed holding es))

marked_request : (id : ℕ) (e : Entry) (b : Bool) → request_row (e.0, cond b (marked e.1) e.1) ≡ request_row e
marked_request id e true = refl
marked_request id e false = refl

marked_requests : (id : ℕ) (l : List Entry) → map request_row (map (mark id) l) ≡ map request_row l
marked_requests id [] = refl
marked_requests id (e ∷ l) = rw (marked_request id e (e.0 == id), marked_requests id l) refl

pub pending_marked : (id : ℕ) (es : List Entry) → pending_of (map (mark id) es) ≡ pending_of es
pending_marked id es =
    ap (map request_row) (filter_map waiting (mark id) es ∙ ap (map (mark id))
    (filter_like (λ e. waiting (mark id e)) waiting (same_waiting id) es))
    ∙ marked_requests id (filter waiting es)

pub marked_table : (id : ℕ) (es : List Entry) (next_grant_seq next : ℕ) → IsTable es next_grant_seq next
    → IsTable (map (mark id) es) next_grant_seq next
marked_table id es next_grant_seq next table =
    record {
      ordered = rw (keys_marked es) table.ordered;
      below = below_marked es table.below;
      below_next = below_next_marked es table.below_next;
      distinct = rw (
        filter_map holding (mark id) es,
        filter_like (λ e. holding (mark id e)) holding (same_holding id)
            es,
      ) (distinct_map grant_seq_of grant_seq_of (mark id) (same_grant_seq id) (filter holding es) table.distinct);
      first = table.first;
      room = rw (ap length (filter_map waiting (mark id) es
          ∙ ap (map (mark id)) (filter_like (λ e. waiting (mark id e)) waiting (same_waiting id) es))
          ∙ marked_length (filter waiting es)) table.room;
      high = table.high;
    }
  where
    marked_length : (l : List Entry) → length (map (mark id) l) ≡ length l
    marked_length [] = refl
    marked_length (e ∷ l) = ap suc (marked_length l)

    keys_marked : (es : List Entry) → keys_of (map (mark id) es) ≡ keys_of es
    keys_marked [] = refl
    keys_marked (e ∷ es) = ap (λ l. e.0 ∷ l) (keys_marked es)

    below_marked : (es : List Entry) → AllByRecursion (λ (e : Entry). e.0 < next) es
        → AllByRecursion (λ (e : Entry). e.0 < next) (map (mark id) es)
    below_marked [] all = tt
    below_marked (e ∷ es) all = (all.0, below_marked es all.1)

    below_next_marked : (es : List Entry) → AllByRecursion (λ (e : Entry). grant_seq_of e < next_grant_seq) es
        → AllByRecursion (λ (e : Entry). grant_seq_of e < next_grant_seq) (map (mark id) es)
    below_next_marked [] all = tt
    below_next_marked (e ∷ es) all = (rw (same_grant_seq id e) all.0, below_next_marked es all.1)

tags_marked_one : (id : ℕ) (e : Entry) (b : Bool) → tag (e.0, cond b (marked e.1) e.1) ≡ tag e
tags_marked_one id e true = refl
tags_marked_one id e false = refl

pub tags_marked : (id : ℕ) (es : List Entry) → tags_of (map (mark id) es) ≡ tags_of es
tags_marked id [] = refl
tags_marked id (e ∷ es) = rw (tags_marked_one id e (e.0 == id), tags_marked id es) refl

-- ---- whether there is an untaken lock

abbrev pub fresh_entry : ℕ → Entry → Bool
fresh_entry id e = (e.0 == id) && is_fresh e.1.stage

fresh_filter : (id : ℕ) (es : List Entry) → list_any (λ e. is_untaken id (lock_row e)) (filter holding es)
    ≡ list_any (fresh_entry id) es
fresh_filter id [] = refl
fresh_filter id (e ∷ es) = by e.0 e.1 e.1.stage refl (fresh_filter id es)
  where
    by : (n : ℕ) (r : Request) (s : Stage) → r.stage ≡ s → list_any (λ e. is_untaken id (lock_row e))
        (filter holding es) ≡ list_any (fresh_entry id) es
        → list_any (λ e. is_untaken id (lock_row e)) (cond (holds r.stage) ((n, r) ∷ filter holding es)
        (filter holding es)) ≡ (((n == id) && is_fresh r.stage) || list_any (fresh_entry id) es)
    by n r Pending h rest = rw (h, and-false (n == id)) rest
    by n r (Held at taken) h rest = rw h (ap (λ b. ((n == id) && not taken) || b) rest)

fresh_apart : (id : ℕ) (es : List Entry) → AllByRecursion (λ (e : Entry). (e.0 == id) ≡ false) es
    → list_any (fresh_entry id) es ≡ false
fresh_apart id [] apart = refl
fresh_apart id (e ∷ es) apart = rw apart.0 (fresh_apart id es apart.1)

fresh_found : (id : ℕ) (es : List Entry) → IsStrictlySortedBy nat_cmp (keys_of es)
    → list_any (fresh_entry id) es ≡ fresh_at (lookup (is_at (nat_cmp id)) es)
fresh_found id [] sorted = refl
fresh_found id (e ∷ es) sorted = by (e.0 == id) refl (fresh_found id es (sorted_tail nat_cmp e.0 (keys_of es) sorted))
  where
    or_false : (b : Bool) → (b || false) ≡ b
    or_false true = refl
    or_false false = refl

    by : (b : Bool) → (e.0 == id) ≡ b → list_any (fresh_entry id) es ≡ fresh_at (lookup (is_at (nat_cmp id)) es)
        → (((e.0 == id) && is_fresh e.1.stage) || list_any (fresh_entry id) es)
        ≡ fresh_at (cond (is_at (nat_cmp id) e.0) (Some e.1) (lookup (is_at (nat_cmp id)) es))
    by true h rest = rw (
      same_number id e.0,
      h,
      fresh_apart id es
          (above_apart id e.0 es h (sorted_head nat_cmp e.0 (keys_of es) sorted)),
    ) (or_false (is_fresh e.1.stage))
    by false h rest = rw (same_number id e.0, h) rest

pub untaken : (id : ℕ) (es : List Entry) → IsStrictlySortedBy nat_cmp (keys_of es)
    → list_any (is_untaken id) (held_of es) ≡ fresh_at (lookup (is_at (nat_cmp id)) es)
untaken id es sorted =
    any_map (is_untaken id) lock_row (by_grant_seq grant_seq_of (filter holding es))
    ∙ any_by_grant_seq grant_seq_of (λ e. is_untaken id (lock_row e)) (filter holding es)
    ∙ fresh_filter id es ∙ fresh_found id es sorted
