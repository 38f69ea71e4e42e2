-- Requests by number, to each of which the same is done: all that stand at some of the numbers, one after another.
use Rattle.std.proofs.Common.{◌≡◌, ◌⊎◌, ℕ, suc, ◌<◌, ◌≤◌, ◌+◌, ◌==◌, Bool, true, false, cond, List, [], ◌∷◌, drop}
use Rattle.std.proofs.Common.{length, get_or, refl, sym, ap, subst, ◌∙◌, inl, inr, arith, drop-cons, add-one}
use Rattle.std.specs.Prelude.{Option, Some, None}
use Rattle.std.specs.List.{Contains}
use Rattle.std.specs.List.Sorted.{IsStrictlySortedBy}
use Rattle.std.specs.BTreeMap.{is_at}
use Rattle.std.specs.Option.{option_and_then}
use Rattle.std.specs.Ordering.{nat_cmp}
use Rattle.std.proofs.lemmas.Bool.Decides.{nat_tests}
use Rattle.std.proofs.lemmas.Map.Keys.{below_from_sorted}
use Rattle.std.proofs.lemmas.Map.Made.{Contains-tail}
use Rattle.wl_number_map.proofs.Keyed.{same_number}
use Rattle.wl_machine.proofs.Covers.{alike}
use Rattle.wl_world.specs.declared.requests.Request.{Request}
use Rattle.wl_world.specs.Requests.{has_ended}
use Rattle.wl_world.specs.inner.AgentIndex.{IsCovered, IsEach, IsEachAt, found, close_one, collect_one}

-- ---- one number

pub apart : (k n : ℕ) → (k == n) ≡ false → k ≡ n → ⊥
apart k n h e = grind (arith, nat_tests, h, e)

-- what was written at one number is what f makes of what stood there
pub each_at : (f : Request → Option Request) (n : ℕ) (before after : List (ℕ × Request)) (w : Option Request)
    → ((q : ℕ) → found q after ≡ cond (is_at (nat_cmp n) q) w (found q before)) → w ≡ option_and_then f (found n before)
    → IsEachAt f n before after
each_at f n before after w updates is q = updates q ∙ by (q == n) refl
  where
    by : (b : Bool) → (q == n) ≡ b → cond (is_at (nat_cmp n) q) w (found q before)
        ≡ cond (is_at (nat_cmp n) q) (option_and_then f (found q before)) (found q before)
    by true h = rw (same_number n q, h) (is ∙ ap (λ k. option_and_then f (found k before)) (sym (alike q n h)))
    by false h = rw (same_number n q, h) refl

-- nothing was written, since f does nothing there
pub each_at_same : (f : Request → Option Request) (n : ℕ) (live : List (ℕ × Request))
    → option_and_then f (found n live) ≡ found n live → IsEachAt f n live live
each_at_same f n live settled q = by (q == n) refl
  where
    by : (b : Bool) → (q == n) ≡ b → found q live ≡ cond (is_at (nat_cmp n) q) (option_and_then f (found q live))
        (found q live)
    by true h = rw (same_number n q, h) (subst (λ k. found k live ≡ option_and_then f (found k live))
        (sym (alike q n h)) (sym settled))
    by false h = rw (same_number n q, h) refl

-- ---- one number after another

-- f was done at some numbers, and these are the others at which it may do anything
pub record IsUnderWay (f : Request → Option Request) (start now : List (ℕ × Request)) (rest : List ℕ) : Type 0 where
  pub same : (q : ℕ) → option_and_then f (found q now) ≡ option_and_then f (found q start)
  pub covered : IsCovered f now rest

-- f done twice is f done once
abbrev pub IsIdempotent : (Request → Option Request) → Type 0
IsIdempotent f = (o : Option Request) → option_and_then f (option_and_then f o) ≡ option_and_then f o

pub one_more : (f : Request → Option Request) → IsIdempotent f
    → (n : ℕ) (rest : List ℕ) (start before after : List (ℕ × Request)) → IsUnderWay f start before (n ∷ rest)
    → IsEachAt f n before after → IsUnderWay f start after rest
one_more f once n rest start before after way each = record {
  same = λ q. same q (q == n) refl;
  covered = λ q. covered q (q == n) refl;
}
  where
    same : (q : ℕ) (b : Bool) → (q == n) ≡ b → option_and_then f (found q after) ≡ option_and_then f (found q start)
    same q true h =
        let is : found q after ≡ option_and_then f (found q before) = each q ∙ rw (same_number n q, h) refl in
        ap (option_and_then f) is ∙ once (found q before) ∙ way.same q
    same q false h =
        let is : found q after ≡ found q before = each q ∙ rw (same_number n q, h) refl in
        ap (option_and_then f) is ∙ way.same q

    covered : (q : ℕ) (b : Bool) → (q == n) ≡ b → (option_and_then f (found q after) ≡ found q after) ⊎ Contains rest q
    covered q true h =
        let is : found q after ≡ option_and_then f (found q before) = each q ∙ rw (same_number n q, h) refl in
        inl (ap (option_and_then f) is ∙ once (found q before) ∙ sym is)
    covered q false h =
        let is : found q after ≡ found q before = each q ∙ rw (same_number n q, h) refl in
        elim (way.covered q) [
          | inl settled ↦ inl (ap (option_and_then f) is ∙ settled ∙ sym is)
          | inr has ↦ inr (Contains-tail n rest q (λ e. apart q n h (sym e)) has)
        ]

-- the next of them
pub one_more_of : (f : Request → Option Request) → IsIdempotent f
    → (n i : ℕ) (numbers : List ℕ) (start before after : List (ℕ × Request)) → i < length numbers
    → n ≡ get_or numbers i 0
    → IsUnderWay f start before (drop i numbers) → IsEachAt f n before after
    → IsUnderWay f start after (drop (i + 1) numbers)
one_more_of f once n i numbers start before after within is way each =
    let turn : drop i numbers ≡ n ∷ drop (i + 1) numbers = rw add-one
    (drop-cons numbers i 0 within ∙ ap (λ k. k ∷ drop (suc i) numbers) (sym is)) in
    one_more f once n (drop (i + 1) numbers) start before after (subst (IsUnderWay f start before) turn way) each

-- at the numbers from a place on nothing was done yet
abbrev pub IsUntouchedFrom : ℕ → List ℕ → List (ℕ × Request) → List (ℕ × Request) → Type 0
IsUntouchedFrom i numbers start now = (k : ℕ) → i ≤ k → k < length numbers
    → found (get_or numbers k 0) now ≡ found (get_or numbers k 0) start

-- nor was it by the step at that place, where the numbers rise
pub untouched_more : (f : Request → Option Request) (n i : ℕ) (numbers : List ℕ)
    (start before after : List (ℕ × Request)) → IsStrictlySortedBy nat_cmp numbers → n ≡ get_or numbers i 0
    → IsEachAt f n before after → IsUntouchedFrom i numbers start before → IsUntouchedFrom (i + 1) numbers start after
untouched_more f n i numbers start before after sorted is each untouched k from within =
    let low : n < get_or numbers k 0 = subst (λ m. m < get_or numbers k 0) (sym is)
    (below_from_sorted numbers i k 0 sorted (omega (arith, from)) within) in
    let other : (get_or numbers k 0 == n) ≡ false = grind (arith, nat_tests, low) in
    let same : found (get_or numbers k 0) after ≡ found (get_or numbers k 0) before = each (get_or numbers k 0)
    ∙ rw (same_number n (get_or numbers k 0), other) refl in
    same ∙ untouched k (omega (arith, from)) within

-- all are done
pub all_done : (f : Request → Option Request) (start now : List (ℕ × Request)) → IsUnderWay f start now []
    → IsEach f start now
all_done f start now way q = elim (way.covered q) [
  | inl settled ↦ sym settled
      ∙ way.same q
  | inr has ↦ absurd (omega (arith, has.1))
]

-- where f does nothing, it was done
pub none_left : (f : Request → Option Request) (live : List (ℕ × Request)) → IsCovered f live [] → IsEach f live live
none_left f live covered = all_done f live live (record { same = λ q. refl; covered = covered })

pub collect_twice : (agent : ℕ) → IsIdempotent (collect_one agent)
collect_twice agent None = refl
collect_twice agent (Some r) = by (has_ended agent r) (r.agent == agent) refl
  where
    by : (b c : Bool) → (r.agent == agent) ≡ c → option_and_then (collect_one agent)
        (cond b None (Some (cond c (record r { changed = None }) r)))
        ≡ cond b None (Some (cond c (record r { changed = None }) r))
    by true c h = refl
    by false true h = rw h refl
    by false false h = rw h refl

pub left_twice : (agent : ℕ) → IsIdempotent (close_one agent)
left_twice agent None = refl
left_twice agent (Some r) = by (r.agent == agent) refl
  where
    by : (b : Bool) → (r.agent == agent) ≡ b → option_and_then (close_one agent) (cond b None (Some r))
        ≡ cond b None (Some r)
    by true h = refl
    by false h = rw h refl
