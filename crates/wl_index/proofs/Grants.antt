-- A request that waits is granted.
use Rattle.std.proofs.Common.{◌≡◌, ℕ, suc, ◌+◌, ◌<◌, ◌==◌, true, false, cond, List, [], ◌∷◌, ◌++◌, length, refl, sym}
use Rattle.std.proofs.Common.{ap, subst, ◌∙◌, map, arith}
use Rattle.std.specs.Prelude.{filter, not, Option, Some, None}
use Rattle.std.specs.Option.{unwrap_or, IsSome, option_copied_mut}
use Rattle.std.proofs.Common.{MutBor}
use Rattle.std.specs.List.{list_any, AllByRecursion}
use Rattle.std.specs.Map.{lookup, set_value}
use Rattle.std.specs.BTreeMap.{is_at}
use Rattle.std.specs.Ordering.{nat_cmp}
use Rattle.std.proofs.lemmas.Map.{keys-set_value}
use Rattle.std.proofs.lemmas.Option.{none-some}
use Rattle.std.proofs.lemmas.List.{map-append, length-append}
use Rattle.std.proofs.lemmas.List.Elements.{filter-append}
use Rattle.wl_machine.specs.declared.rows.PendingRow.{PendingRow}
use Rattle.wl_machine.specs.Grants.{granted_lock}
use Rattle.wl_index.specs.declared.request.Request.{Request}
use Rattle.wl_index.specs.declared.request.Stage.TheVariants.{Pending, Held}
use Rattle.wl_index.specs.inner.GrantOrder.{Distinct, by_grant_seq}
use Rattle.wl_index.proofs.GrantOrder.{by_grant_seq_last}
use Rattle.wl_index.specs.inner.Rows.{Entry, holds, waiting, holding, grant_seq_of, request_row, lock_row, pending_of}
use Rattle.wl_index.specs.inner.Rows.{held_of, IsTable}
use Rattle.wl_index.proofs.Distinct.{distinct_last_come}
use Rattle.wl_index.proofs.Lists.{all_filter, all_weaker, all_append, all_front, all_back}
use Rattle.wl_number_map.proofs.Keyed.{number_same, found}
use Rattle.wl_index.proofs.Rows.{pending_append, apart_pending, apart_kept, is_request, pending_there}

abbrev pub granted_now : ℕ → Request → Request
granted_now at r = record r { stage = Held at false }

-- a request that waits is no lock
locks_without : (front back : List Entry) (id : ℕ) (r : Request) → r.stage ≡ Pending
    → filter holding (front ++ (id, r) ∷ back) ≡ filter holding front ++ filter holding back
locks_without front back id r free = filter-append holding front ((id, r) ∷ back)
    ∙ ap (λ s. filter holding front ++ cond (holds s) ((id, r) ∷ filter holding back) (filter holding back)) free

-- grant sequences differ with one that is above all
distinct_granted : (front back : List Entry) (id at : ℕ) (r : Request) → r.stage ≡ Pending
    → AllByRecursion (λ (e : Entry). grant_seq_of e < at) front
    → AllByRecursion (λ (e : Entry). grant_seq_of e < at) back
    → Distinct grant_seq_of (filter holding (front ++ (id, r) ∷ back))
    → Distinct grant_seq_of (filter holding (front ++ (id, granted_now at r) ∷ back))
distinct_granted front back id at r free low high distinct =
    let now : Request = granted_now at r in
    let fresh : filter holding (front ++ (id, now) ∷ back) ≡ filter holding front ++ (id, now)
    ∷ filter holding back = filter-append holding front ((id, now) ∷ back) in
    rw fresh (distinct_last_come grant_seq_of (id, now) (filter holding front) (filter holding back)
    (all_filter (λ (e : Entry). grant_seq_of e < at) holding front low)
    (all_filter (λ (e : Entry). grant_seq_of e < at) holding back high)
    (subst (Distinct grant_seq_of) (locks_without front back id r free) distinct))

-- a request that waited and holds with the greatest grant sequence is the last lock
pub held_granted : (front back : List Entry) (id at : ℕ) (r : Request) → r.stage ≡ Pending
    → AllByRecursion (λ (e : Entry). grant_seq_of e < at) front
    → AllByRecursion (λ (e : Entry). grant_seq_of e < at) back
    → held_of (front ++ (id, granted_now at r) ∷ back) ≡ held_of (front ++ (id, r) ∷ back)
    ++ lock_row (id, granted_now at r) ∷ []
held_granted front back id at r free low high =
    let now : Request = granted_now at r in
    let fresh : filter holding (front ++ (id, now) ∷ back) ≡ filter holding front ++ (id, now)
    ∷ filter holding back = filter-append holding front ((id, now) ∷ back) in
    let old = locks_without front back id r free in
    ap (λ l. map lock_row (by_grant_seq grant_seq_of l)) fresh
    ∙ ap (map lock_row) (by_grant_seq_last grant_seq_of (filter holding front) (filter holding back) (id, now)
    (all_filter (λ (e : Entry). grant_seq_of e < at) holding front low)
    (all_filter (λ (e : Entry). grant_seq_of e < at) holding back high))
    ∙ map-append lock_row (by_grant_seq grant_seq_of (filter holding front ++ filter holding back)) ((id, now) ∷ [])
    ∙ ap (λ l. map lock_row (by_grant_seq grant_seq_of l) ++ lock_row (id, now) ∷ []) (sym old)

-- the only request of its number
pub pending_one : (front back : List Entry) (id : ℕ) (r : Request) → r.stage ≡ Pending
    → AllByRecursion (λ (e : Entry). (e.0 == id) ≡ false) front
    → AllByRecursion (λ (e : Entry). (e.0 == id) ≡ false) back
    → filter (λ (request : PendingRow). request.number == id) (pending_of (front ++ (id, r) ∷ back))
    ≡ request_row (id, r) ∷ []
pending_one front back id r free low high =
    let here : pending_of ((id, r) ∷ back) ≡ request_row (id, r) ∷ pending_of back = rw free refl in
    rw (
      pending_append front ((id, r) ∷ back),
      here,
      filter-append (λ (request : PendingRow). request.number == id)
          (pending_of front) (request_row (id, r) ∷ pending_of back),
      apart_pending id front low,
      number_same id,
      apart_pending id back high,
    ) refl

-- and the others wait on
pub pending_others : (front back : List Entry) (id at : ℕ) (r : Request) → r.stage ≡ Pending
    → AllByRecursion (λ (e : Entry). (e.0 == id) ≡ false) front
    → AllByRecursion (λ (e : Entry). (e.0 == id) ≡ false) back
    → pending_of (front ++ (id, granted_now at r) ∷ back) ≡ filter
    (λ (request : PendingRow). not (request.number == id)) (pending_of (front ++ (id, r) ∷ back))
pending_others front back id at r free low high =
    let here : pending_of ((id, r) ∷ back) ≡ request_row (id, r) ∷ pending_of back = rw free refl in
    rw (
      pending_append front ((id, granted_now at r) ∷ back),
      pending_append front ((id, r) ∷ back),
      here,
      filter-append (λ (request : PendingRow). not (request.number == id)) (pending_of front)
          (request_row (id, r) ∷ pending_of back),
      apart_kept id front low,
      number_same id,
      apart_kept id back high,
    ) refl

pub record Granted (id : ℕ) (es : List Entry) (r : Request) (next_grant_seq next : ℕ) : Type 0 where
  pub held : held_of (set_value (is_at (nat_cmp id)) es (granted_now next_grant_seq r))
      ≡ held_of es ++ map granted_lock (filter (is_request id) (pending_of es))
  pub pending : pending_of (set_value (is_at (nat_cmp id)) es (granted_now next_grant_seq r))
      ≡ filter (λ (request : PendingRow). not (request.number == id)) (pending_of es)
  pub table : IsTable (set_value (is_at (nat_cmp id)) es (granted_now next_grant_seq r)) (next_grant_seq + 1) next

fewer_wait : (front back : List Entry) (id at : ℕ) (r : Request) → r.stage ≡ Pending
    → length (filter waiting (front ++ (id, granted_now at r) ∷ back)) + 1
    ≡ length (filter waiting (front ++ (id, r) ∷ back))
fewer_wait front back id at r free =
    let one : length (filter waiting (front ++ (id, granted_now at r) ∷ back))
    ≡ length (filter waiting front) + length (filter waiting back) =
    ap length (filter-append waiting front ((id, granted_now at r) ∷ back))
    ∙ length-append (filter waiting front) (filter waiting back) in
    let here : filter waiting ((id, r) ∷ back) ≡ (id, r) ∷ filter waiting back = rw free refl in
    let two : length (filter waiting (front ++ (id, r) ∷ back))
    ≡ length (filter waiting front) + suc (length (filter waiting back)) =
    ap length (filter-append waiting front ((id, r) ∷ back) ∙ ap (λ l. filter waiting front ++ l) here)
    ∙ length-append (filter waiting front) ((id, r) ∷ filter waiting back) in
    omega (arith, one, two)

pub granted_meets : (id : ℕ) (es : List Entry) (r : Request) (next_grant_seq next : ℕ) → IsTable es next_grant_seq next
    → lookup (is_at (nat_cmp id)) es ≡ Some r → list_any (is_request id) (pending_of es) ≡ true
    → Granted id es r next_grant_seq next
granted_meets id es r next_grant_seq next table there wait =
    let f = found id es r table.ordered there in
    let p = pending_there id es table.ordered wait in
    let same : p.0 ≡ r = ap (λ o. unwrap_or o r) (sym p.1 ∙ there) in
    let free : r.stage ≡ Pending = ap (λ (x : Request). x.stage) (sym same) ∙ p.2 in
    let now = granted_now next_grant_seq r in
    let below_next : AllByRecursion (λ (e : Entry). grant_seq_of e < next_grant_seq) (f.front ++ (id, r) ∷ f.back) =
    subst (AllByRecursion (λ (e : Entry). grant_seq_of e < next_grant_seq)) f.whole table.below_next in
    let below : AllByRecursion (λ (e : Entry). e.0 < next) (f.front ++ (id, r) ∷ f.back) =
    subst (AllByRecursion (λ (e : Entry). e.0 < next)) f.whole table.below in
    let low_grant_seqs = all_front (λ (e : Entry). grant_seq_of e < next_grant_seq) f.front ((id, r) ∷ f.back)
    below_next in
    let high_grant_seqs = (all_back (λ (e : Entry). grant_seq_of e < next_grant_seq) f.front ((id, r) ∷ f.back)
    below_next).1 in
    let low_numbers = all_front (λ (e : Entry). e.0 < next) f.front ((id, r) ∷ f.back) below in
    let high_numbers = all_back (λ (e : Entry). e.0 < next) f.front ((id, r) ∷ f.back) below in
    let more : (e : Entry) → grant_seq_of e < next_grant_seq
    → grant_seq_of e < next_grant_seq + 1 = λ e less. omega (arith, less) in
    let fewer = fewer_wait f.front f.back id next_grant_seq r free in
    let count : length (filter waiting es) ≡ length (filter waiting (f.front ++ (id, r) ∷ f.back)) =
    ap (λ l. length (filter waiting l)) f.whole in
    let room = table.room in
    let one : filter (is_request id) (pending_of es) ≡ request_row (id, r)
    ∷ [] = ap (λ l. filter (is_request id) (pending_of l)) f.whole ∙ pending_one f.front f.back id r free f.low f.high
    in
    record {
      held = ap held_of (f.set now) ∙ held_granted f.front f.back id next_grant_seq r free low_grant_seqs
          high_grant_seqs ∙ ap (λ l. held_of l ++ lock_row (id, now) ∷ []) (sym f.whole)
          ∙ ap (λ l. held_of es ++ map granted_lock l) (sym one);
      pending = ap pending_of (f.set now) ∙ pending_others f.front f.back id next_grant_seq r free f.low f.high
          ∙ ap (λ l. filter (λ (request : PendingRow). not (request.number == id)) (pending_of l)) (sym f.whole);
      table = record {
        ordered = rw (keys-set_value (is_at (nat_cmp id)) es now) table.ordered;
        below = rw (f.set now) (all_append (λ (e : Entry). e.0 < next) f.front ((id, now) ∷ f.back) low_numbers
            (high_numbers.0, high_numbers.1));
        below_next = rw (f.set now) (all_append (λ (e : Entry). grant_seq_of e < next_grant_seq + 1) f.front
            ((id, now) ∷ f.back) (all_weaker (λ (e : Entry). grant_seq_of e < next_grant_seq)
            (λ e. grant_seq_of e < next_grant_seq + 1) f.front more low_grant_seqs) (
              omega arith,
              all_weaker (λ (e : Entry). grant_seq_of e < next_grant_seq)
                  (λ e. grant_seq_of e < next_grant_seq + 1) f.back more high_grant_seqs,
            ));
        distinct = rw (f.set now) (distinct_granted f.front f.back id next_grant_seq r free low_grant_seqs
            high_grant_seqs (subst (λ l. Distinct grant_seq_of (filter holding l)) f.whole table.distinct));
        first = omega arith;
        room = rw (f.set now) (omega (arith, fewer, count, room));
        high = table.high;
      };
    }

pub copied_some : {T : Type 0} (o : Option (MutBor T)) (x : T) → option_copied_mut o ≡ Some x → IsSome o
copied_some None x h = absurd (none-some x h)
copied_some (Some y) x h = refl
