-- The locks that an abort of a signal would end, one after the other in the order of grants.
use Rattle.std.proofs.Common.{◌≡◌, ℕ, ◌<◌, Bool, List, ◌∷◌, ◌++◌, refl, sym, ap, ◌∙◌, map, filter, nat_le, arith}
use Rattle.std.proofs.Common.{Option, Some, append_assoc, ◌+◌, ◌-◌, None, option_map}
use Rattle.std.proofs.lemmas.Option.{slice_get-map}
use Rattle.std.specs.List.{AllByRecursion, slice_get}
use Rattle.std.specs.Option.{option_to_list}
use Rattle.std.proofs.lemmas.List.Elements.{filter-append}
use Rattle.wl_machine.specs.declared.rows.HeldRow.{HeldRow}
use Rattle.wl_machine.proofs.Lists.{filter_map}
use Rattle.wl_index.specs.declared.request.Place.{Place}
use Rattle.wl_index.specs.inner.GrantOrder.{by_grant_seq, Distinct}
use Rattle.wl_index.proofs.GrantOrder.{by_grant_seq_all, filter_by_grant_seq}
use Rattle.wl_index.specs.inner.Rows.{Entry, holding, grant_seq_of, lock_row, held_of}
use Rattle.wl_index.specs.inner.Order.{place_of, from_grant_seq, first_of}
use Rattle.std.specs.List.Sorted.{IsStrictlySortedBy}
use Rattle.std.specs.Map.{keys_of}
use Rattle.std.specs.Ordering.{nat_cmp}
use Rattle.wl_index.specs.declared.request.Owner.{Owner}
use Rattle.wl_index.specs.declared.request.Standing.TheVariants.{Holds}
use Rattle.wl_index.specs.inner.Ends.{IsOwners, ends_entry, ends_lock, untaken_places}
use Rattle.wl_index.proofs.Lists.{all_filter, all_map}
use Rattle.wl_index.proofs.Owned.{both_filters}
use Rattle.wl_index.proofs.Picks.{all_picked, pick, picked}
use Rattle.wl_index.proofs.Distinct.{distinct_filter, distinct_map}
use Rattle.wl_index.proofs.Sorted.{Climbing, by_grant_seq_climbs}
use Rattle.wl_index.proofs.First.{first_again, first_all, from_start, passed, none_left}
use Rattle.wl_index.proofs.Places.{numbers_in_order}

-- whether an entry's lock ends with its owner
abbrev ends_by : Owner → Entry → Bool
ends_by owner e = ends_lock owner (lock_row e)

abbrev pub at : Place → ℕ
at p = p.grant_seq

-- ---- the first of them

abbrev pub offers : ℕ → Owner → List Entry → List Place
offers low owner es = from_grant_seq low (untaken_places owner es)

-- what an abort of the signal would end, found by numbers that find all requests with it
pub all_offered : (low : ℕ) (owner : Owner) (es : List Entry) (ns : List ℕ) → IsStrictlySortedBy nat_cmp (keys_of es)
    → IsStrictlySortedBy nat_cmp ns → IsOwners owner es ns
    → from_grant_seq low (picked (ends_entry owner Holds) es ns) ≡ offers low owner es
all_offered low owner es ns ordered rising all =
    ap (from_grant_seq low) (all_picked owner Holds es ordered ns rising all
    ∙ ap (map place_of) (both_filters holding (ends_by owner) es))

-- one number more was looked at
pub offered : (low : ℕ) (owner : Owner) (old new : Option Place) (n : ℕ) (left rest : List ℕ) (es : List Entry)
    → left ≡ n ∷ rest
    → new ≡ first_of (option_to_list old ++ from_grant_seq low (pick (ends_entry owner Holds) es n))
    → first_of (option_to_list old ++ from_grant_seq low (picked (ends_entry owner Holds) es left))
    ≡ first_of (offers low owner es)
    → first_of (option_to_list new ++ from_grant_seq low (picked (ends_entry owner Holds) es rest))
    ≡ first_of (offers low owner es)
offered low owner old new n left rest es is_left offer before =
    let q = ends_entry owner Holds in
    let one = from_grant_seq low (pick q es n) in
    let more = from_grant_seq low (picked q es rest) in
    ap (λ o. first_of (option_to_list o ++ more)) offer
    ∙ first_again at (option_to_list old ++ one) more
    ∙ ap first_of (append_assoc (option_to_list old) one more)
    ∙ ap (λ l. first_of (option_to_list old ++ l)) (sym (filter-append (λ (p : Place). nat_le low p.grant_seq)
    (pick q es n) (picked q es rest)) ∙ ap (λ l. from_grant_seq low (picked q es l)) (sym is_left))
    ∙ before

-- ---- all of them

-- in the order of grants
abbrev pub untaken_order : Owner → List Entry → List Place
untaken_order owner es = by_grant_seq at (untaken_places owner es)

pub untaken_numbers_of : (owner : Owner) (es : List Entry) → map (λ (p : Place). p.number) (untaken_order owner es)
    ≡ map (λ (lock : HeldRow). lock.number) (filter (ends_lock owner) (held_of es))
untaken_numbers_of owner es =
    let q = ends_by owner in
    let locks = filter holding es in
    numbers_in_order (filter q locks)
    ∙ ap (λ l. map (λ (lock : HeldRow). lock.number) (map lock_row l)) (filter_by_grant_seq grant_seq_of q locks)
    ∙ ap (map (λ (lock : HeldRow). lock.number)) (sym (filter_map (ends_lock owner) lock_row
    (by_grant_seq grant_seq_of locks)))

pub untaken_climbs : (owner : Owner) (es : List Entry) → Distinct grant_seq_of (filter holding es)
    → Climbing at (untaken_order owner es)
untaken_climbs owner es distinct =
    let q = ends_by owner in
    by_grant_seq_climbs at (untaken_places owner es) (distinct_map grant_seq_of at place_of (λ e. refl)
    (filter q (filter holding es)) (distinct_filter grant_seq_of q (filter holding es) distinct))

-- the first from a grant sequence on
first_from : (low : ℕ) (owner : Owner) (es : List Entry) → first_of (offers low owner es)
    ≡ slice_get (from_grant_seq low (untaken_order owner es)) 0
first_from low owner es = ap (λ l. slice_get l 0) (filter_by_grant_seq at (λ (p : Place). nat_le low p.grant_seq)
    (untaken_places owner es))

pub first_below : (low : ℕ) (owner : Owner) (next : ℕ) (es : List Entry) (p : Place)
    → AllByRecursion (λ (e : Entry). grant_seq_of e < next) es → first_of (offers low owner es) ≡ Some p
    → p.grant_seq < next
first_below low owner next es p below_next there =
    let P : Place → Type 0 = λ x. x.grant_seq < next in
    let locks = all_filter (λ (e : Entry). grant_seq_of e < next) (ends_by owner) (filter holding es)
    (all_filter (λ (e : Entry). grant_seq_of e < next) holding es below_next) in
    let places = all_map P place_of (filter (ends_by owner) (filter holding es)) locks in
    first_all P (by_grant_seq at (offers low owner es)) p (by_grant_seq_all at P (offers low owner es)
    (all_filter P (λ (x : Place). nat_le low x.grant_seq) (untaken_places owner es) places)) there

-- ---- one after the other

-- what is left after so many of them is what is from a grant sequence on
abbrev pub Passing : (owner : Owner) (i done low : ℕ) → List Entry → Type 0
Passing owner i done low es = slice_get (untaken_order owner es) i
    ≡ slice_get (from_grant_seq low (untaken_order owner es)) (i - done)

pub none_passed : (owner : Owner) (i : ℕ) (es : List Entry) → Passing owner i 0 0 es
none_passed owner i es =
    let whole : i - 0 ≡ i = omega arith in
    rw (from_start at (untaken_order owner es), whole) refl

pub one_passed : (owner : Owner) (i done low : ℕ) (es : List Entry) (p : Place)
    → Distinct grant_seq_of (filter holding es) → done < i → first_of (offers low owner es) ≡ Some p
    → Passing owner i done low es → Passing owner i (done + 1) (p.grant_seq + 1) es
one_passed owner i done low es p distinct less there before =
    passed at low i done (untaken_order owner es) p (untaken_climbs owner es distinct) less
    (sym (first_from low owner es) ∙ there) before

numbers_at : (owner : Owner) (i : ℕ) (es : List Entry) → slice_get
    (map (λ (lock : HeldRow). lock.number) (filter (ends_lock owner) (held_of es))) i
    ≡ option_map (λ (p : Place). p.number) (slice_get (untaken_order owner es) i)
numbers_at owner i es =
    ap (λ l. slice_get l i) (sym (untaken_numbers_of owner es))
    ∙ slice_get-map (λ (p : Place). p.number) (untaken_order owner es) i

pub all_passed : (owner : Owner) (i done low : ℕ) (es : List Entry) → first_of (offers low owner es) ≡ None
    → Passing owner i done low es → slice_get (map (λ (lock : HeldRow). lock.number)
    (filter (ends_lock owner) (held_of es))) i ≡ None
all_passed owner i done low es none before =
    let order = untaken_order owner es in
    numbers_at owner i es ∙ ap (option_map (λ (p : Place). p.number))
    (none_left i (i - done) order (from_grant_seq low order) (sym (first_from low owner es) ∙ none) before)

pub reached : (owner : Owner) (i done low : ℕ) (es : List Entry) (p : Place) → i - done ≡ 0
    → first_of (offers low owner es) ≡ Some p → Passing owner i done low es
    → slice_get (map (λ (lock : HeldRow). lock.number) (filter (ends_lock owner) (held_of es))) i ≡ Some p.number
reached owner i done low es p end there before =
    let order = untaken_order owner es in
    numbers_at owner i es ∙ ap (option_map (λ (p : Place). p.number))
    (before ∙ ap (slice_get (from_grant_seq low order)) end ∙ sym (first_from low owner es) ∙ there)
