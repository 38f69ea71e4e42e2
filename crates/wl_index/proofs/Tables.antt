-- A table stays one: without a request, with one more, and with the last one taken back.
use Rattle.std.proofs.Common.{◌≡◌, ℕ, suc, ◌+◌, ◌<◌, ◌≤◌, ◌==◌, Bool, true, false, cond, List, [], ◌∷◌, ◌++◌, length}
use Rattle.std.proofs.Common.{refl, ap, ◌∙◌, arith}
use Rattle.std.specs.Prelude.{filter, not, Some}
use Rattle.std.specs.List.{AllByRecursion}
use Rattle.std.specs.List.Sorted.{IsStrictlySortedBy}
use Rattle.std.specs.Map.{keys_of, lookup, remove_entry}
use Rattle.std.specs.BTreeMap.{insert_entry, is_at}
use Rattle.std.specs.Ordering.{nat_cmp}
use Rattle.std.proofs.lemmas.Bool.Decides.{nat_tests}
use Rattle.std.proofs.lemmas.List.{length-append}
use Rattle.std.proofs.lemmas.List.Elements.{filter-append}
use Rattle.wl_machine.proofs.Lists.{filters_commute}
use Rattle.wl_index.specs.declared.request.Request.{Request}
use Rattle.wl_index.specs.declared.request.Stage.TheVariants.{Pending}
use Rattle.wl_index.specs.inner.GrantOrder.{Distinct}
use Rattle.wl_index.specs.inner.Rows.{Entry, other, waiting, holding, grant_seq_of, IsTable}
use Rattle.wl_index.proofs.Distinct.{distinct_filter}
use Rattle.wl_index.proofs.Lists.{filter_whole, all_filter, all_weaker, all_append}
use Rattle.wl_number_map.proofs.Keyed.{number_same, entry_last, Found, found}
use Rattle.wl_index.proofs.Rows.{removed, locks_same}

length_fewer : (p : Entry → Bool) (es : List Entry) → length (filter p es) ≤ length es
length_fewer p [] = omega arith
length_fewer p (e ∷ es) = by (p e) (length_fewer p es)
  where
    by : (b : Bool) → length (filter p es) ≤ length es → length (cond b (e ∷ filter p es) (filter p es))
        ≤ suc (length es)
    by true rest = omega (arith, rest)
    by false rest = omega (arith, rest)

-- grant sequences differ without an entry
distinct_others : (id : ℕ) (es : List Entry) → Distinct grant_seq_of (filter holding es)
    → Distinct grant_seq_of (filter holding (filter (other id) es))
distinct_others id es distinct = rw (filters_commute holding (other id) es)
    (distinct_filter grant_seq_of (other id) (filter holding es) distinct)

-- without an entry it stays a table
pub ended_table : (id : ℕ) (es : List Entry) (next_grant_seq next : ℕ) → IsTable es next_grant_seq next
    → IsStrictlySortedBy nat_cmp (keys_of (remove_entry (is_at (nat_cmp id)) es))
    → IsTable (remove_entry (is_at (nat_cmp id)) es) next_grant_seq next
ended_table id es next_grant_seq next table sorted =
    let fewer : length (filter (other id) (filter waiting es))
    ≤ length (filter waiting es) = length_fewer (other id) (filter waiting es) in
    let room = table.room in
    record {
      ordered = sorted;
      below = rw (removed id es table.ordered) (all_filter (λ (e : Entry). e.0 < next) (other id) es table.below);
      below_next = rw (removed id es table.ordered) (all_filter (λ (e : Entry). grant_seq_of e < next_grant_seq)
          (other id) es table.below_next);
      distinct = rw (removed id es table.ordered) (distinct_others id es table.distinct);
      first = table.first;
      room = rw (removed id es table.ordered, filters_commute waiting (other id) es) (omega (arith, fewer, room));
      high = table.high;
    }

pub more_table : (es : List Entry) (next_grant_seq next : ℕ) (r : Request) → r.stage ≡ Pending → next < 9007199254740992
    → IsTable es next_grant_seq next
    → IsStrictlySortedBy nat_cmp (keys_of (insert_entry nat_cmp es next r))
    → IsTable (insert_entry nat_cmp es next r) next_grant_seq (next + 1)
more_table es next_grant_seq next r waits_now low table sorted =
    let last = entry_last es next r table.below in
    let count : length (filter waiting (es ++ (next, r) ∷ []))
    ≡ length (filter waiting es) + 1 = ap length (filter-append waiting es ((next, r) ∷ []) ∙ rw waits_now refl)
    ∙ length-append (filter waiting es) ((next, r) ∷ []) in
    let room = table.room in
    let first = table.first in
    record {
      ordered = sorted;
      below = rw last (all_append (λ (e : Entry). e.0 < next + 1) es ((next, r) ∷ [])
          (all_weaker (λ (e : Entry). e.0 < next) (λ e. e.0 < next + 1) es (λ e less. omega (arith, less)) table.below)
          (omega arith, tt));
      below_next = rw last (all_append (λ (e : Entry). grant_seq_of e < next_grant_seq) es ((next, r) ∷ [])
          table.below_next (rw waits_now (omega (arith, first)), tt));
      distinct = rw (last, locks_same es next r (rw waits_now refl)) table.distinct;
      first = first;
      room = rw last (omega (arith, count, room));
      high = omega (arith, low);
    }

-- the last request is taken back
retracted_at : (number : ℕ) (r : Request) (es : List Entry) (next_grant_seq next : ℕ) → Found number es r
    → IsTable es next_grant_seq next → r.stage ≡ Pending → next ≡ number + 1
    → IsStrictlySortedBy nat_cmp (keys_of (filter (other number) es))
    → IsTable (filter (other number) es) next_grant_seq number
retracted_at number r es next_grant_seq next f table waits_now last sorted =
    let apart : (l : List Entry) → AllByRecursion (λ (e : Entry). (e.0 == number) ≡ false) l
    → AllByRecursion (λ (e : Entry). other number e ≡ true) l =
    λ l all. all_weaker (λ (e : Entry). (e.0 == number) ≡ false) (λ e. other number e ≡ true) l (λ e no. rw no refl)
    all in
    let rest : filter (other number) es ≡ f.front ++ f.back = ap (filter (other number)) f.whole
    ∙ filter-append (other number) f.front ((number, r) ∷ f.back)
    ∙ rw (
      filter_whole (other number) f.front (apart f.front f.low),
      number_same number,
      filter_whole (other number) f.back (apart f.back f.high),
    ) refl in
    let here : filter waiting ((number, r) ∷ f.back) ≡ (number, r) ∷ filter waiting f.back = rw waits_now refl in
    let many : length (filter waiting es) ≡ length (filter waiting f.front)
    + suc (length (filter waiting f.back)) = ap (λ l. length (filter waiting l)) f.whole
    ∙ ap length (filter-append waiting f.front ((number, r) ∷ f.back) ∙ ap (λ l. filter waiting f.front ++ l) here)
    ∙ length-append (filter waiting f.front) ((number, r) ∷ filter waiting f.back) in
    let few : length (filter waiting (filter (other number) es))
    ≡ length (filter waiting f.front) + length (filter waiting f.back) = ap (λ l. length (filter waiting l)) rest
    ∙ ap length (filter-append waiting f.front f.back) ∙ length-append (filter waiting f.front)
    (filter waiting f.back) in
    let room = table.room in
    let high = table.high in
    record {
      ordered = sorted;
      below = below_number es table.below;
      below_next = all_filter (λ (e : Entry). grant_seq_of e < next_grant_seq) (other number) es table.below_next;
      distinct = distinct_others number es table.distinct;
      first = table.first;
      room = omega (arith, many, few, room, last);
      high = omega (arith, high, last);
    }
  where
    below_number : (l : List Entry) → AllByRecursion (λ (e : Entry). e.0 < next) l
        → AllByRecursion (λ (e : Entry). e.0 < number) (filter (other number) l)
    below_number [] all = tt
    below_number (e ∷ l) all = by (e.0 == number) refl (below_number l all.1)
      where
        by : (b : Bool) → (e.0 == number) ≡ b → AllByRecursion (λ (x : Entry). x.0 < number) (filter (other number) l)
            → AllByRecursion (λ (x : Entry). x.0 < number) (cond (not (e.0 == number)) (e ∷ filter (other number) l)
            (filter (other number) l))
        by true h rest = rw h rest
        by false h rest = let less = all.0 in rw h (grind (arith, nat_tests, h, less, last), rest)

pub retracted : (number : ℕ) (r : Request) (es : List Entry) (next_grant_seq next : ℕ) → IsTable es next_grant_seq next
    → lookup (is_at (nat_cmp number)) es ≡ Some r → r.stage ≡ Pending → next ≡ number + 1
    → IsStrictlySortedBy nat_cmp (keys_of (filter (other number) es))
    → IsTable (filter (other number) es) next_grant_seq number
retracted number r es next_grant_seq next table there waits_now last sorted =
    retracted_at number r es next_grant_seq next (found number es r table.ordered there) table waits_now last sorted
