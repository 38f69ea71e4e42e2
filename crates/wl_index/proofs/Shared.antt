-- A queue's live requests: the sharers in front, and those that wait.
use Rattle.std.proofs.Common.{◌≡◌, ℕ, ◌-◌, ◌<◌, ◌==◌, Bool, true, false, cond, List, [], ◌∷◌, ◌++◌, length, take, refl}
use Rattle.std.proofs.Common.{ap, subst, sym, ◌∙◌, arith, append_assoc, nat_eq}
use Rattle.std.specs.Prelude.{filter, not, ◌&&◌, Option, Some, None, is_some, slice_get, IfSome, IsSome, ◌↔◌}
use Rattle.std.specs.Option.{option_eq, unwrap_or}
use Rattle.std.specs.List.{AllByRecursion}
use Rattle.std.specs.List.Sorted.{IsStrictlySortedBy}
use Rattle.std.specs.Map.{keys_of, remove_entry}
use Rattle.std.specs.BTreeMap.{is_at, insert_entry}
use Rattle.std.specs.Ordering.{nat_cmp}
use Rattle.std.proofs.lemmas.Map.Keys.{sorted_tail}
use Rattle.std.proofs.Math.Seq.{take-append_seam}
use Rattle.std.proofs.lemmas.List.{length-append}
use Rattle.std.proofs.lemmas.List.Elements.{filter-append}
use Rattle.std.proofs.lemmas.Bool.{not-true}
use Rattle.wl_types.specs.declared.words.Mode.{Mode}
use Rattle.wl_types.specs.declared.words.Mode.TheVariants.{Exclusive, Shared}
use Rattle.wl_machine.specs.Grants.{is_exclusive, is_empty}
use Rattle.wl_index.specs.inner.NameQueue.{Numbered, Waiting, excludes, admits, other_than, head_number, first_left}
use Rattle.wl_index.specs.inner.NameQueue.{first_or, holders_of, holder_without, live_after, waits_from, after_grant}
use Rattle.wl_index.specs.inner.NameQueue.{without_admitted, IsQueue}
use Rattle.wl_index.proofs.Lists.{all_append, all_filter}
use Rattle.wl_number_map.proofs.Keyed.{removed_at, entry_last}
use Rattle.wl_index.proofs.Waits.{seam, after_seam, heads_apart, head_left}

-- the first of them are those in front
fronts : (front waits : List Numbered) → take (length (front ++ waits) - length waits) (front ++ waits) ≡ front
fronts front waits =
    let sum = length-append front waits in
    let less : length (front ++ waits) - length waits ≡ length front = omega (arith, sum) in
    ap (λ n. take n (front ++ waits)) less ∙ take-append_seam front waits

holders_front : (live waits : List Numbered) (first : Option ℕ) (is : IsQueue live waits first None)
    → holders_of None live waits ≡ is.front
holders_front live waits first is = ap (λ l. take (length l - length waits) l) is.whole ∙ fronts is.front waits

sorted_whole : (live waits : List Numbered) (first holder : Option ℕ) → (is : IsQueue live waits first holder)
    → IsStrictlySortedBy nat_cmp (keys_of (is.front ++ waits))
sorted_whole live waits first holder is = subst (λ l. IsStrictlySortedBy nat_cmp (keys_of l)) is.whole is.ordered

same_head : (first : Option ℕ) → option_eq nat_eq first first ≡ true
same_head None = refl
same_head (Some n) = grind (arith)

-- the first of the live waits: nobody holds
free_heads : (live waits : List Numbered) (first : Option ℕ) → IsQueue live waits first None
    → option_eq nat_eq (head_number live) first ≡ is_empty (holders_of None live waits)
free_heads live waits first is = ap (λ l. option_eq nat_eq (head_number l) first) is.whole
    ∙ ap (option_eq nat_eq (head_number (is.front ++ waits))) is.leads
    ∙ by is.front refl (sorted_whole live waits first None is) ∙ ap is_empty (sym (holders_front live waits first is))
  where
    by : (front : List Numbered) → is.front ≡ front → IsStrictlySortedBy nat_cmp (keys_of (is.front ++ waits))
        → option_eq nat_eq (head_number (is.front ++ waits)) (head_number waits) ≡ is_empty is.front
    by [] h sorted = rw h (same_head (head_number waits))
    by (x ∷ front) h sorted = heads_apart is.front waits sorted x front h ∙ sym (ap is_empty h)

none_shared : (front : List Numbered) → AllByRecursion (λ (e : Numbered). is_exclusive e.1 ≡ false) front
    → excludes front ≡ false
none_shared [] all = refl
none_shared (e ∷ front) all = rw all.0 (none_shared front all.1)

pub excluded : (live waits : List Numbered) (first holder : Option ℕ) → IsQueue live waits first holder
    → is_some holder ≡ excludes (holders_of holder live waits)
excluded live waits first None is = sym (ap excludes (holders_front live waits first is)
    ∙ none_shared is.front is.shared)
excluded live waits first (Some number) is = refl

pub is_free : (live waits : List Numbered) (first holder : Option ℕ) → IsQueue live waits first holder
    → (not (is_some holder) && option_eq nat_eq (head_number live) first) ≡ is_empty (holders_of holder live waits)
is_free live waits first None is = free_heads live waits first is
is_free live waits first (Some number) is = refl

-- ---- one more waits

all_live : (live waits : List Numbered) (first holder : Option ℕ) (number : ℕ) → IsQueue live waits first holder
    → AllByRecursion (λ (e : Numbered). e.0 < number) waits → AllByRecursion (λ (e : Numbered). e.0 < number)
    (holders_of holder live waits) → AllByRecursion (λ (e : Numbered). e.0 < number) live
all_live live waits first None number is below holders =
    rw is.whole (all_append (λ (e : Numbered). e.0 < number) is.front waits
    (rw (← holders_front live waits first is) holders) below)
all_live live waits first (Some n) number is below holders = rw (is.whole, is.alone refl) below

first_of_more : (number : ℕ) (mode : Mode) (waits : List Numbered)
    → first_or number (head_number waits) ≡ head_number (waits ++ (number, mode) ∷ [])
first_of_more number mode [] = refl
first_of_more number mode (e ∷ waits) = refl

-- a queue after a step: those that wait, and the holders
pub record Stepped (live : List Numbered) (first holder : Option ℕ) (waits holders : List Numbered) : Type 0 where
  pub name_queue : IsQueue live (waits_from first live) first holder
  pub waits_is : waits_from first live ≡ waits
  pub holders_is : holders_of holder live (waits_from first live) ≡ holders

stepped : (live waits holders : List Numbered) (first holder : Option ℕ) → IsQueue live waits first holder
    → holders_of holder live waits ≡ holders → Stepped live first holder waits holders
stepped live waits holders first holder is holds =
    let there : waits_from first live ≡ waits = ap (λ f. waits_from f live) is.leads
    ∙ ap (waits_from (head_number waits)) is.whole ∙ seam is.front waits (sorted_whole live waits first holder is) in
    record { name_queue = rw there is; waits_is = there; holders_is = ap (holders_of holder live) there ∙ holds }

-- the holders are the same where the same stand in front
holders_same : (live waits live' waits' : List Numbered) (first first' holder : Option ℕ)
    (is : IsQueue live waits first holder) (next : IsQueue live' waits' first' holder) → next.front ≡ is.front
    → holders_of holder live' waits' ≡ holders_of holder live waits
holders_same live waits live' waits' first first' None is next same = holders_front live' waits' first' next ∙ same
    ∙ sym (holders_front live waits first is)
holders_same live waits live' waits' first first' (Some n) is next same = refl

pub pushed : (live live' : List Numbered) (first holder : Option ℕ) (number : ℕ) (mode : Mode)
    → IsQueue live (waits_from first live) first holder
    → AllByRecursion (λ (e : Numbered). e.0 < number) (waits_from first live)
    → AllByRecursion (λ (e : Numbered). e.0 < number) (holders_of holder live (waits_from first live))
    → live' ≡ insert_entry nat_cmp live number mode → IsStrictlySortedBy nat_cmp (keys_of live')
    → Stepped live' (first_or number first) holder (waits_from first live ++ (number, mode) ∷ [])
    (holders_of holder live (waits_from first live))
pushed live live' first holder number mode is below holders inserted sorted =
    let waits = waits_from first live in
    let more : List Numbered = (number, mode) ∷ [] in
    let live_is : live' ≡ live ++ more = inserted ∙ entry_last live number mode
    (all_live live waits first holder number is below holders) in
    let next : IsQueue live' (waits ++ more) (first_or number first) holder = record {
      front = is.front;
      whole = live_is ∙ ap (λ l. l ++ more) is.whole ∙ append_assoc is.front waits more;
      ordered = sorted;
      leads = ap (first_or number) is.leads ∙ first_of_more number mode waits;
      shared = is.shared;
      alone = is.alone;
    } in
    stepped live' (waits ++ more) (holders_of holder live waits) (first_or number first) holder next
    (holders_same live waits live' (waits ++ more) first (first_or number first) holder is next refl)

-- ---- one ends

removed_name_queue : (live waits : List Numbered) (first holder : Option ℕ) (number : ℕ)
    → IsQueue live waits first holder → IsStrictlySortedBy nat_cmp (keys_of (filter (other_than number) live))
    → IsQueue (filter (other_than number) live) (filter (other_than number) waits) (first_left number first live)
    (holder_without number holder)
removed_name_queue live waits first holder number is ordered = record {
  front = filter (other_than number) is.front;
  whole = ap (filter (other_than number)) is.whole ∙ filter-append (other_than number) is.front waits;
  ordered = ordered;
  leads = ap (λ f. first_left number f live) is.leads ∙ ap (first_left number (head_number waits)) is.whole
      ∙ head_left is.front waits number (sorted_whole live waits first holder is);
  shared = all_filter (λ (e : Numbered). is_exclusive e.1 ≡ false) (other_than number) is.front is.shared;
  alone = λ some. ap (filter (other_than number)) (is.alone (still holder some));
}
  where
    still : (h : Option ℕ) → is_some (holder_without number h) ≡ true → is_some h ≡ true
    still None some = some
    still (Some n) some = refl

removed_holders : (live waits : List Numbered) (first holder : Option ℕ) (number : ℕ) → IsQueue live waits first holder
    → holders_of (holder_without number holder) (filter (other_than number) live) (filter (other_than number) waits)
    ≡ filter (other_than number) (holders_of holder live waits)
removed_holders live waits first None number is =
    ap (λ l. take (length l - length (filter (other_than number) waits)) l)
    (ap (filter (other_than number)) is.whole ∙ filter-append (other_than number) is.front waits)
    ∙ fronts (filter (other_than number) is.front) (filter (other_than number) waits)
    ∙ ap (filter (other_than number)) (sym (holders_front live waits first is))
removed_holders live waits first (Some n) number is = by (n == number) refl
  where
    no_live : filter (other_than number) live ≡ filter (other_than number) waits
    no_live = ap (filter (other_than number)) (is.whole ∙ ap (λ f. f ++ waits) (is.alone refl))

    by : (b : Bool) → (n == number) ≡ b → holders_of (cond b None (Some n)) (filter (other_than number) live)
        (filter (other_than number) waits) ≡ cond (not (n == number)) ((n, Exclusive) ∷ []) []
    by true h = rw (h, no_live) (fronts [] (filter (other_than number) waits))
    by false h = rw h refl

pub removed_from : (live live' : List Numbered) (first holder : Option ℕ) (number : ℕ)
    → IsQueue live (waits_from first live) first holder
    → live' ≡ remove_entry (is_at (nat_cmp number)) live → IsStrictlySortedBy nat_cmp (keys_of live')
    → Stepped live' (first_left number first live) (holder_without number holder)
    (filter (other_than number) (waits_from first live)) (filter (other_than number)
    (holders_of holder live (waits_from first live)))
removed_from live live' first holder number is removed sorted =
    let waits = waits_from first live in
    let live_is : live' ≡ filter (other_than number) live = removed ∙ removed_at number live is.ordered in
    rw live_is (stepped (filter (other_than number) live) (filter (other_than number) waits)
    (filter (other_than number) (holders_of holder live waits)) (first_left number first live)
    (holder_without number holder)
    (removed_name_queue live waits first holder number is (subst (λ l. IsStrictlySortedBy nat_cmp (keys_of l)) live_is
    sorted)) (removed_holders live waits first holder number is))

-- ---- the first that waits holds

empty : (l : List Numbered) → is_empty l ≡ true → l ≡ []
empty [] h = refl
empty (x ∷ l) h = absurd (cc)

abbrev pub name_queue_now : List ℕ → List Numbered → List Numbered → Waiting
name_queue_now name waits holders = record { name = name; waits = waits; holders = holders }

first_after_it : (live waits rest : List Numbered) (e : Numbered) (first holder : Option ℕ)
    → (is : IsQueue live waits first holder) → waits ≡ e ∷ rest → head_number (live_after e.0 live) ≡ head_number rest
first_after_it live waits rest e first holder is begins =
    let whole : live ≡ is.front ++ e ∷ rest = is.whole ∙ ap (λ w. is.front ++ w) begins in
    ap head_number (ap (live_after e.0) whole ∙ after_seam is.front rest e
    (subst (λ l. IsStrictlySortedBy nat_cmp (keys_of l)) whole is.ordered))

-- a shared one
pub shared_grant : (name : List ℕ) (live rest : List Numbered) (e : Numbered) (first holder : Option ℕ)
    → IsQueue live (waits_from first live) first holder → waits_from first live ≡ e ∷ rest
    → admits (name_queue_now name (waits_from first live) (holders_of holder live (waits_from first live))) e.1 ≡ true
    → is_exclusive e.1 ≡ false
    → Stepped live (head_number (live_after e.0 live)) holder rest
    (holders_of holder live (waits_from first live) ++ e ∷ [])
shared_grant name live rest e first holder is begins free mode = by holder is none
  where
    waits : List Numbered
    waits = waits_from first live

    admitted : not (excludes (holders_of holder live waits)) ≡ true
    admitted = sym (ap (λ b. cond b (is_empty (holders_of holder live waits))
        (not (excludes (holders_of holder live waits)))) mode) ∙ free

    none : is_some holder ≡ false
    none = excluded live waits first holder is ∙ not-true (excludes (holders_of holder live waits)) admitted

    by : (h : Option ℕ) → IsQueue live waits first h → is_some h ≡ false
        → Stepped live (head_number (live_after e.0 live)) h rest (holders_of h live waits ++ e ∷ [])
    by (Some n) was some = absurd (cc)
    by None was some =
        let next : IsQueue live rest (head_number (live_after e.0 live)) None = record {
          front = was.front ++ e ∷ [];
          whole = was.whole ∙ ap (λ w. was.front ++ w) begins ∙ sym (append_assoc was.front (e ∷ []) rest);
          ordered = was.ordered;
          leads = first_after_it live waits rest e first None was begins;
          shared = all_append (λ (x : Numbered). is_exclusive x.1 ≡ false) was.front (e ∷ []) was.shared (mode, tt);
          alone = λ is_one. absurd (cc);
        } in
        stepped live rest (holders_of None live waits ++ e ∷ []) (head_number (live_after e.0 live)) None next
        (holders_front live rest (head_number (live_after e.0 live)) next
        ∙ ap (λ f. f ++ e ∷ []) (sym (holders_front live waits first was)))

exclusive_is : (mode : Mode) → is_exclusive mode ≡ true → mode ≡ Exclusive
exclusive_is Shared is = absurd (cc)
exclusive_is Exclusive is = refl

-- an exclusive one, where nobody holds: it leaves the live
pub exclusive_grant : (name : List ℕ) (live live' rest : List Numbered) (e : Numbered) (first holder : Option ℕ)
    → IsQueue live (waits_from first live) first holder → waits_from first live ≡ e ∷ rest
    → admits (name_queue_now name (waits_from first live) (holders_of holder live (waits_from first live))) e.1 ≡ true
    → is_exclusive e.1 ≡ true
    → ((x : Numbered) (l : List Numbered) → live ≡ x ∷ l → live' ≡ l)
    → Stepped live' (head_number (live_after e.0 live)) (Some e.0) rest
    (holders_of holder live (waits_from first live) ++ e ∷ [])
exclusive_grant name live live' rest e first holder is begins free mode popped = by holder is
    (sym (ap (λ b. cond b (is_empty (holders_of holder live waits))
    (not (excludes (holders_of holder live waits)))) mode)
    ∙ free)
  where
    waits : List Numbered
    waits = waits_from first live

    by : (h : Option ℕ) → IsQueue live waits first h → is_empty (holders_of h live waits) ≡ true
        → Stepped live' (head_number (live_after e.0 live)) (Some e.0) rest (holders_of h live waits ++ e ∷ [])
    by (Some n) was none = absurd (cc)
    by None was none =
        let front : was.front ≡ [] = empty was.front (ap is_empty (sym (holders_front live waits first was)) ∙ none) in
        let whole : live ≡ e ∷ rest = was.whole ∙ ap (λ f. f ++ waits) front ∙ begins in
        let left : live' ≡ rest = popped e rest whole in
        let next : IsQueue live' rest (head_number (live_after e.0 live)) (Some e.0) = record {
          front = [];
          whole = left;
          ordered = rw left (sorted_tail nat_cmp e.0 (keys_of rest)
              (subst (λ l. IsStrictlySortedBy nat_cmp (keys_of l)) whole was.ordered));
          leads = first_after_it live waits rest e first None was begins;
          shared = tt;
          alone = λ is_one. refl;
        } in
        let holds : (e.0, Exclusive) ∷ [] ≡ holders_of None live waits ++ e ∷ [] =
        ap (λ m. (e.0, m) ∷ []) (sym (exclusive_is e.1 mode))
        ∙ ap (λ h. h ++ e ∷ []) (sym (empty (holders_of None live waits) none)) in
        stepped live' rest (holders_of None live waits ++ e ∷ []) (head_number (live_after e.0 live)) (Some e.0) next
        holds

-- the first of those that wait, and the rest
pub record Begins (waits : List Numbered) (e : Numbered) : Type 0 where
  pub rest : List Numbered
  pub is : waits ≡ e ∷ rest

pub begun : (waits : List Numbered) (e : Numbered) → Some e ≡ slice_get waits 0 → Begins waits e
begun [] e is = absurd (cc)
begun (x ∷ waits) e is = record { rest = waits; is = ap (λ y. y ∷ waits) (sym (ap (λ o. unwrap_or o x) is)) }

-- what is left where the first has gone
pub tail_left : (live live' : List Numbered) (first : Option Numbered) → (IsSome first ↔ (0 < length live))
    → IfSome first (λ p. live ≡ p ∷ live') → (x : Numbered) (l : List Numbered) → live ≡ x ∷ l → live' ≡ l
tail_left live live' None variant removal x l is = absurd (let some =
    variant.1 (subst (λ v. 0 < length v) (sym is) (omega arith)) in cc)
tail_left live live' (Some p) variant removal x l is = ap tail (sym removal ∙ is)
  where
    tail : List Numbered → List Numbered
    tail [] = []
    tail (y ∷ ys) = ys

-- the queue after a grant
pub granted : (name : List ℕ) (waits rest holders : List Numbered) (e : Numbered) → waits ≡ e ∷ rest
    → admits (name_queue_now name waits holders) e.1 ≡ true
    → after_grant (name_queue_now name waits holders) ≡ name_queue_now name rest (holders ++ e ∷ [])
granted name waits rest holders e begins free = ap (without_admitted (name_queue_now name waits holders)) begins
    ∙ ap (λ b. cond b (name_queue_now name rest (holders ++ e ∷ [])) (name_queue_now name waits holders)) free
