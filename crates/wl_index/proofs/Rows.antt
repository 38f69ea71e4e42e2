-- What entries say of the machine's lists.
use Rattle.std.proofs.Common.{◌≡◌, ℕ, suc, ◌+◌, ◌==◌, Bool, true, false, cond, List, [], ◌∷◌, ◌++◌, length, refl, sym}
use Rattle.std.proofs.Common.{ap, ◌∙◌, map, arith, append-nil}
use Rattle.std.specs.Prelude.{filter, not, ◌||◌, Some}
use Rattle.std.specs.List.{list_any, AllByRecursion}
use Rattle.std.specs.List.Sorted.{IsStrictlySortedBy}
use Rattle.std.specs.Map.{keys_of, lookup, set_value, remove_entry}
use Rattle.std.specs.BTreeMap.{is_at}
use Rattle.std.specs.Ordering.{nat_cmp}
use Rattle.std.specs.declared.cmp.Ordering.TheVariants.{Less}
use Rattle.std.proofs.lemmas.Bool.Decides.{nat_tests}
use Rattle.std.proofs.lemmas.Map.Keys.{sorted_head, sorted_tail}
use Rattle.std.proofs.lemmas.List.{map-append, length-map}
use Rattle.std.proofs.lemmas.List.Filters.{length-filter_both}
use Rattle.std.proofs.Common.{nat_lt}
use Rattle.std.proofs.lemmas.List.Elements.{filter-append}
use Rattle.wl_machine.specs.declared.rows.HeldRow.{HeldRow}
use Rattle.wl_machine.specs.declared.rows.PendingRow.{PendingRow}
use Rattle.wl_machine.proofs.Lists.{filter_map, filters_commute}
use Rattle.wl_index.specs.declared.request.Request.{Request}
use Rattle.wl_index.specs.declared.request.Stage.{Stage}
use Rattle.wl_index.specs.declared.request.Stage.TheVariants.{Pending, Held}
use Rattle.wl_index.specs.inner.GrantOrder.{place, by_grant_seq}
use Rattle.wl_index.proofs.GrantOrder.{filter_by_grant_seq}
use Rattle.wl_index.specs.inner.Rows.{Entry, Apart, tag, tags_of, other, waits, holds, waiting, holding, grant_seq_of}
use Rattle.wl_index.specs.inner.Rows.{request_row, lock_row, pending_of, held_of}
use Rattle.wl_index.proofs.Lists.{filter_whole, filter_none, all_weaker}
use Rattle.wl_number_map.proofs.Keyed.{same_number, above_apart, removed_at, found}

pub removed : (id : ℕ) (es : List Entry) → IsStrictlySortedBy nat_cmp (keys_of es)
    → remove_entry (is_at (nat_cmp id)) es ≡ filter (other id) es
removed id es sorted = removed_at id es sorted

-- ---- filters by rows

pub pending_filter : (q : PendingRow → Bool) (es : List Entry)
    → pending_of (filter (λ e. q (request_row e)) es) ≡ filter q (pending_of es)
pending_filter q es = ap (map request_row) (filters_commute waiting (λ e. q (request_row e)) es)
    ∙ sym (filter_map q request_row (filter waiting es))

pub held_filter : (q : HeldRow → Bool) (es : List Entry) → held_of (filter (λ e. q (lock_row e)) es)
    ≡ filter q (held_of es)
held_filter q es =
    ap (λ l. map lock_row (by_grant_seq grant_seq_of l)) (filters_commute holding (λ e. q (lock_row e)) es)
    ∙ ap (map lock_row) (filter_by_grant_seq grant_seq_of (λ e. q (lock_row e)) (filter holding es))
    ∙ sym (filter_map q lock_row (by_grant_seq grant_seq_of (filter holding es)))

pub pending_append : (front back : List Entry) → pending_of (front ++ back) ≡ pending_of front ++ pending_of back
pending_append front back = ap (map request_row) (filter-append waiting front back)
    ∙ map-append request_row (filter waiting front) (filter waiting back)

-- ---- one request more

pub pending_more : (es : List Entry) (k : ℕ) (r : Request) → waits r.stage ≡ true
    → pending_of (es ++ (k, r) ∷ []) ≡ pending_of es ++ request_row (k, r) ∷ []
pending_more es k r waiting_now =
    ap (map request_row) (filter-append waiting es ((k, r) ∷ []) ∙ rw waiting_now refl)
    ∙ map-append request_row (filter waiting es) ((k, r) ∷ [])

pub locks_same : (es : List Entry) (k : ℕ) (r : Request) → holds r.stage ≡ false
    → filter holding (es ++ (k, r) ∷ []) ≡ filter holding es
locks_same es k r free =
    let same : filter holding es ++ filter holding ((k, r) ∷ [])
    ≡ filter holding es = rw free (append-nil (filter holding es)) in
    filter-append holding es ((k, r) ∷ []) ∙ same

pub held_more : (es : List Entry) (k : ℕ) (r : Request) → holds r.stage ≡ false
    → held_of (es ++ (k, r) ∷ []) ≡ held_of es
held_more es k r free = ap (λ l. map lock_row (by_grant_seq grant_seq_of l)) (locks_same es k r free)

-- ---- a number that is, or isn't, among those that wait

pub apart_pending : (id : ℕ) (es : List Entry) → AllByRecursion (λ (e : Entry). (e.0 == id) ≡ false) es
    → filter (λ (request : PendingRow). request.number == id) (pending_of es) ≡ []
apart_pending id es apart =
    sym (pending_filter (λ request. request.number == id) es)
    ∙ ap pending_of (filter_none (λ (e : Entry). e.0 == id) es apart)

pub apart_kept : (id : ℕ) (es : List Entry) → AllByRecursion (λ (e : Entry). (e.0 == id) ≡ false) es
    → filter (λ (request : PendingRow). not (request.number == id)) (pending_of es) ≡ pending_of es
apart_kept id es apart =
    sym (pending_filter (λ request. not (request.number == id)) es)
    ∙ ap pending_of (filter_whole (λ (e : Entry). not (e.0 == id)) es
    (all_weaker (λ (e : Entry). (e.0 == id) ≡ false) (λ e. not (e.0 == id) ≡ true) es (λ e no. rw no refl) apart))

abbrev pub is_request : ℕ → PendingRow → Bool
is_request id request = request.number == id

none_apart : (id : ℕ) (es : List Entry) → AllByRecursion (λ (e : Entry). (e.0 == id) ≡ false) es
    → list_any (is_request id) (pending_of es) ≡ false
none_apart id [] apart = refl
none_apart id (e ∷ es) apart = by (waiting e) (none_apart id es apart.1)
  where
    by : (b : Bool) → list_any (is_request id) (pending_of es) ≡ false
        → list_any (is_request id) (map request_row (cond b (e ∷ filter waiting es) (filter waiting es))) ≡ false
    by true rest = rw apart.0 rest
    by false rest = rest

stage_waits : (s : Stage) → waits s ≡ true → s ≡ Pending
stage_waits Pending now = refl
stage_waits (Held at taken) now = absurd (cc)

-- a number that waits is that of an entry that waits
pub pending_there : (id : ℕ) (es : List Entry) → IsStrictlySortedBy nat_cmp (keys_of es)
    → list_any (is_request id) (pending_of es) ≡ true
    → (r : Request) × (lookup (is_at (nat_cmp id)) es ≡ Some r) × (r.stage ≡ Pending)
pending_there id [] sorted there = absurd (cc)
pending_there id (e ∷ es) sorted there = by (e.0 == id) refl (waiting e) refl
    (pending_there id es (sorted_tail nat_cmp e.0 (keys_of es) sorted))
  where
    seen : (b : Bool) → waiting e ≡ b → list_any (is_request id)
        (map request_row (cond b (e ∷ filter waiting es) (filter waiting es))) ≡ true
    seen b h = sym (ap (λ c. list_any (is_request id) (map request_row
        (cond c (e ∷ filter waiting es) (filter waiting es)))) h) ∙ there

    here : (b : Bool) → (e.0 == id) ≡ b → cond (is_at (nat_cmp id) e.0) (Some e.1) (lookup (is_at (nat_cmp id)) es)
        ≡ cond b (Some e.1) (lookup (is_at (nat_cmp id)) es)
    here b h = ap (λ c. cond c (Some e.1) (lookup (is_at (nat_cmp id)) es)) (same_number id e.0 ∙ h)

    by : (b : Bool) → (e.0 == id) ≡ b → (w : Bool) → waiting e ≡ w
        → (list_any (is_request id) (pending_of es) ≡ true → (r : Request) × (lookup (is_at (nat_cmp id)) es ≡ Some r)
        × (r.stage ≡ Pending))
        → (r : Request) × (cond (is_at (nat_cmp id) e.0) (Some e.1) (lookup (is_at (nat_cmp id)) es) ≡ Some r)
        × (r.stage ≡ Pending)
    by true h true w rest = (e.1, here true h, stage_waits e.1.stage w)
    by true h false w rest = absurd (let none = none_apart id es
        (above_apart id e.0 es h (sorted_head nat_cmp e.0 (keys_of es) sorted)) in let some = seen false w
        in cc (none, some))
    by false h true w rest =
        let later : list_any (is_request id) (pending_of es)
        ≡ true = sym (ap (λ c. c || list_any (is_request id) (pending_of es)) h) ∙ seen true w in
        let f = rest later in
        (f.0, here false h ∙ f.1, f.2)
    by false h false w rest = let f = rest (seen false w) in (f.0, here false h ∙ f.1, f.2)

apart_above : (n : ℕ) (es : List Entry) → AllByRecursion (λ y. nat_cmp n y ≡ Less) (keys_of es)
    → AllByRecursion (λ (other : PendingRow). (other.number == n) ≡ false) (pending_of es)
apart_above n [] above = tt
apart_above n (e ∷ es) above = by (waiting e) (apart_above n es above.1)
  where
    differs : (e.0 == n) ≡ false
    differs = grind (arith, nat_tests, above.0)

    by : (b : Bool) → AllByRecursion (λ (other : PendingRow). (other.number == n) ≡ false) (pending_of es)
        → AllByRecursion (λ (other : PendingRow). (other.number == n) ≡ false)
        (map request_row (cond b (e ∷ filter waiting es) (filter waiting es)))
    by true rest = (differs, rest)
    by false rest = rest

pub pending_apart : (es : List Entry) → IsStrictlySortedBy nat_cmp (keys_of es) → Apart (pending_of es)
pending_apart [] sorted = tt
pending_apart (e ∷ es) sorted = by (waiting e) (pending_apart es (sorted_tail nat_cmp e.0 (keys_of es) sorted))
  where
    by : (b : Bool) → Apart (pending_of es) → Apart (map request_row
        (cond b (e ∷ filter waiting es) (filter waiting es)))
    by true rest = (apart_above e.0 es (sorted_head nat_cmp e.0 (keys_of es) sorted), rest)
    by false rest = rest

-- ---- whose they are, and how many

pub tags_set : (id : ℕ) (es : List Entry) (r s : Request) → IsStrictlySortedBy nat_cmp (keys_of es)
    → lookup (is_at (nat_cmp id)) es ≡ Some r → tag (id, s) ≡ tag (id, r)
    → tags_of (set_value (is_at (nat_cmp id)) es s) ≡ tags_of es
tags_set id es r s sorted there same =
    let f = found id es r sorted there in
    ap tags_of (f.set s) ∙ map-append tag f.front ((id, s) ∷ f.back)
    ∙ ap (λ t. tags_of f.front ++ t ∷ tags_of f.back) same
    ∙ sym (ap tags_of f.whole ∙ map-append tag f.front ((id, r) ∷ f.back))

pub tags_length : (new old : List Entry) → tags_of new ≡ tags_of old → length new ≡ length old
tags_length new old same = sym (length-map new tag) ∙ ap length same ∙ length-map old tag

place_length : (e : Entry) (l : List Entry) → length (place grant_seq_of e l) ≡ suc (length l)
place_length e [] = refl
place_length e (y ∷ l) = by (nat_lt (grant_seq_of e) (grant_seq_of y)) (place_length e l)
  where
    by : (b : Bool) → length (place grant_seq_of e l) ≡ suc (length l)
        → length (cond b (e ∷ y ∷ l) (y ∷ place grant_seq_of e l)) ≡ suc (suc (length l))
    by true rest = refl
    by false rest = ap suc rest

grant_seq_length : (l : List Entry) → length (by_grant_seq grant_seq_of l) ≡ length l
grant_seq_length [] = refl
grant_seq_length (e ∷ l) = place_length e (by_grant_seq grant_seq_of l) ∙ ap suc (grant_seq_length l)

pub holds_or_waits : (s : Stage) → holds s ≡ not (waits s)
holds_or_waits Pending = refl
holds_or_waits (Held at taken) = refl

-- each live request waits or holds
pub live_count : (es : List Entry) → length (held_of es) + length (pending_of es) ≡ length es
live_count es =
    let h : length (held_of es) ≡ length (filter holding es) =
    length-map (by_grant_seq grant_seq_of (filter holding es)) lock_row ∙ grant_seq_length (filter holding es) in
    let p : length (pending_of es) ≡ length (filter waiting es) = length-map (filter waiting es) request_row in
    let b = length-filter_both waiting holding (λ e. holds_or_waits e.1.stage) es in
    omega (arith, h, p, b)
