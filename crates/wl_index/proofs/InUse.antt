-- The queues by their places: one changed, one more, and one less.
use Rattle.std.proofs.Common.{◌≡◌, ℕ, ◌<◌, ◌==◌, Bool, true, false, cond, List, [], ◌∷◌, ◌++◌, refl, ap, subst, sym}
use Rattle.std.proofs.Common.{◌∙◌, arith}
use Rattle.std.specs.Prelude.{not, ◌&&◌, filter, Option, Some, None}
use Rattle.std.specs.Option.{unwrap_or, IfNone, IfSome}
use Rattle.std.specs.Result.{OnErr}
use Rattle.std.specs.declared.result.Result.{Result}
use Rattle.std.specs.declared.result.Result.TheVariants.{Ok, Err}
use Rattle.std.specs.Str.{bytes_eq}
use Rattle.std.specs.List.{AllByRecursion}
use Rattle.std.specs.List.Sorted.{IsStrictlySortedBy}
use Rattle.std.specs.Map.{keys_of, lookup, set_value}
use Rattle.std.specs.BTreeMap.{is_at}
use Rattle.std.specs.Ordering.{nat_cmp}
use Rattle.std.specs.Cmp.Lexicographic.{same_text}
use Rattle.std.proofs.lemmas.Bool.Decides.{nat_tests}
use Rattle.std.proofs.lemmas.List.{map-append}
use Rattle.std.proofs.lemmas.Option.{none-some}
use Rattle.wl_machine.proofs.Lists.{other_bytes, same_bytes}
use Rattle.wl_number_map.proofs.Keyed.{found, number_same, same_number, set_same}
use Rattle.wl_index.specs.inner.NameQueue.{Numbered, Waiting, admits, after_grant, if_admitted, is_busy, next_grant}
use Rattle.wl_index.specs.inner.NameQueue.{without_admitted}
use Rattle.wl_index.specs.inner.Queues.{Placed, names_of, place_of, queue_of, at_place, changed, with_updated, stays}
use Rattle.wl_index.specs.inner.Queues.{without_idle, Differs, Apart, AreQueues, IsNames}
use Rattle.wl_index.proofs.Lists.{all_append, all_back, all_filter, all_map, all_weaker, filter_whole}

-- ---- one place is one name

abbrev pub SameAs : List ℕ → ℕ → Placed → Type 0
SameAs name place e = (e.0 == place) ≡ bytes_eq e.1.name name

-- what the first queue says of a look-up by name
seen : (name : List ℕ) (place : ℕ) (e : Placed) (l : List Placed) (b : Bool) → bytes_eq e.1.name name ≡ b
    → place_of name (e ∷ l) ≡ Some place → cond b (Some e.0) (place_of name l) ≡ Some place
seen name place e l b h at = sym (ap (λ c. cond c (Some e.0) (place_of name l)) h) ∙ at

place_apart : (name : List ℕ) (place n : ℕ) (l : List Placed) → place_of name l ≡ Some place
    → AllByRecursion (λ (x : Placed). (x.0 == n) ≡ false) l → (place == n) ≡ false
place_apart name place n [] at apart = absurd (none-some place at)
place_apart name place n (e ∷ l) at apart = by (bytes_eq e.1.name name) refl (place_apart name place n l)
  where
    by : (b : Bool) → bytes_eq e.1.name name ≡ b → (place_of name l ≡ Some place
        → AllByRecursion (λ (x : Placed). (x.0 == n) ≡ false) l → (place == n) ≡ false) → (place == n) ≡ false
    by true h rest = ap (λ k. k == n) (sym (ap (λ o. unwrap_or o place) (seen name place e l true h at))) ∙ apart.0
    by false h rest = rest (seen name place e l false h at) apart.1

name_apart : (name : List ℕ) (place : ℕ) (m : List ℕ) (l : List Placed) → place_of name l ≡ Some place
    → AllByRecursion (λ (x : Placed). bytes_eq x.1.name m ≡ false) l → bytes_eq name m ≡ false
name_apart name place m [] at apart = absurd (none-some place at)
name_apart name place m (e ∷ l) at apart = by (bytes_eq e.1.name name) refl (name_apart name place m l)
  where
    by : (b : Bool) → bytes_eq e.1.name name ≡ b → (place_of name l ≡ Some place
        → AllByRecursion (λ (x : Placed). bytes_eq x.1.name m ≡ false) l → bytes_eq name m ≡ false)
        → bytes_eq name m ≡ false
    by true h rest = ap (λ n. bytes_eq n m) (sym (same_text e.1.name name (sym h))) ∙ apart.0
    by false h rest = rest (seen name place e l false h at) apart.1

-- a queue has the name just where it is at the name's place
pub one_place : (name : List ℕ) (place : ℕ) (l : List Placed) → Apart l → place_of name l ≡ Some place
    → AllByRecursion (SameAs name place) l
one_place name place [] apart at = tt
one_place name place (e ∷ l) apart at = by (bytes_eq e.1.name name) refl (one_place name place l apart.1)
  where
    others : e.0 ≡ place → e.1.name ≡ name → AllByRecursion (SameAs name place) l
    others number named = all_weaker (Differs e) (SameAs name place) l
        (λ x d. ap (λ k. x.0 == k) (sym number) ∙ d.0 ∙ sym (ap (bytes_eq x.1.name) (sym named) ∙ d.1)) apart.0

    by : (b : Bool) → bytes_eq e.1.name name ≡ b → (place_of name l ≡ Some place → AllByRecursion (SameAs name place) l)
        → AllByRecursion (SameAs name place) (e ∷ l)
    by true h rest =
        let number : e.0 ≡ place = ap (λ o. unwrap_or o place) (seen name place e l true h at) in
        (ap (λ k. k == place) number ∙ number_same place ∙ sym h, others number (same_text e.1.name name (sym h)))
    by false h rest =
        let later = seen name place e l false h at in
        let no = place_apart name place e.0 l later (all_weaker (Differs e) (λ (x : Placed). (x.0 == e.0) ≡ false) l
        (λ x d. d.0) apart.0) in
        let other : (e.0 == place) ≡ false = grind (arith, nat_tests, no) in
        (other ∙ sym h, rest later)

-- a queue at a place is found by its name
pub place_here : (place : ℕ) (w : Waiting) (l : List Placed) → Apart l → at_place place l ≡ Some w
    → place_of w.name l ≡ Some place
place_here place w [] apart at = absurd (none-some w at)
place_here place w (e ∷ l) apart at = by (e.0 == place) refl (place_here place w l apart.1)
  where
    here : (b : Bool) → (e.0 == place) ≡ b → cond b (Some e.1) (at_place place l) ≡ Some w
    here b h = sym (ap (λ c. cond c (Some e.1) (at_place place l)) (same_number place e.0 ∙ h)) ∙ at

    is_it : (e.0 == place) ≡ true → e.0 ≡ place
    is_it h = grind (arith, nat_tests, h)

    by : (b : Bool) → (e.0 == place) ≡ b → (at_place place l ≡ Some w → place_of w.name l ≡ Some place)
        → cond (bytes_eq e.1.name w.name) (Some e.0) (place_of w.name l) ≡ Some place
    by true h rest =
        let same : e.1 ≡ w = ap (λ o. unwrap_or o w) (here true h) in
        ap (λ (v : Waiting). cond (bytes_eq v.name w.name) (Some e.0) (place_of w.name l)) same
        ∙ ap (λ b. cond b (Some e.0) (place_of w.name l)) (same_bytes w.name) ∙ ap Some (is_it h)
    by false h rest =
        let later = rest (here false h) in
        let no = name_apart w.name place e.1.name l later (all_weaker (Differs e)
        (λ (x : Placed). bytes_eq x.1.name e.1.name ≡ false) l (λ x d. d.1) apart.0) in
        ap (λ b. cond b (Some e.0) (place_of w.name l)) (other_bytes e.1.name w.name no) ∙ later

-- what stands at a name's place is its queue
pub queue_there : (name : List ℕ) (place : ℕ) (l : List Placed) → Apart l → place_of name l ≡ Some place
    → at_place place l ≡ queue_of name l
queue_there name place [] apart at = refl
queue_there name place (e ∷ l) apart at = by (bytes_eq e.1.name name) refl (queue_there name place l apart.1)
  where
    same : (e.0 == place) ≡ bytes_eq e.1.name name
    same = (one_place name place (e ∷ l) apart at).0

    by : (b : Bool) → bytes_eq e.1.name name ≡ b → (place_of name l ≡ Some place → at_place place l ≡ queue_of name l)
        → cond (is_at (nat_cmp place) e.0) (Some e.1) (at_place place l)
        ≡ cond (bytes_eq e.1.name name) (Some e.1) (queue_of name l)
    by true h rest = rw (same_number place e.0, same, h) refl
    by false h rest = rw (same_number place e.0, same, h) (rest (seen name place e l false h at))

pub no_queue : (name : List ℕ) (l : List Placed) → place_of name l ≡ None → queue_of name l ≡ None
no_queue name [] none = refl
no_queue name (e ∷ l) none = by (bytes_eq e.1.name name) refl (no_queue name l)
  where
    by : (b : Bool) → bytes_eq e.1.name name ≡ b → (place_of name l ≡ None → queue_of name l ≡ None)
        → cond (bytes_eq e.1.name name) (Some e.1) (queue_of name l) ≡ None
    by true h rest = absurd (none-some e.0 (sym none ∙ ap (λ c. cond c (Some e.0) (place_of name l)) h))
    by false h rest = rw h (rest (sym (ap (λ c. cond c (Some e.0) (place_of name l)) h) ∙ none))

-- ---- a queue changed, and its name not

module _ (place : ℕ) (f : Waiting → Waiting) (keeps : (w : Waiting) → (f w).name ≡ w.name) where
  pub name_changed : (e : Placed) → (changed place f e).1.name ≡ e.1.name
  name_changed e = by (e.0 == place)
    where
      by : (b : Bool) → (cond b (f e.1) e.1).name ≡ e.1.name
      by true = keeps e.1
      by false = refl

  pub names_updated : (l : List Placed) → names_of (with_updated place f l) ≡ names_of l
  names_updated [] = refl
  names_updated (e ∷ l) = ap (λ n. n ∷ names_of (with_updated place f l)) (name_changed e)
      ∙ ap (λ t. e.1.name ∷ t) (names_updated l)

  pub place_updated : (name : List ℕ) (l : List Placed) → place_of name (with_updated place f l) ≡ place_of name l
  place_updated name [] = refl
  place_updated name (e ∷ l) = ap (λ n. cond (bytes_eq n name) (Some e.0) (place_of name (with_updated place f l)))
      (name_changed e) ∙ ap (λ o. cond (bytes_eq e.1.name name) (Some e.0) o) (place_updated name l)

  keys_updated : (l : List Placed) → keys_of (with_updated place f l) ≡ keys_of l
  keys_updated [] = refl
  keys_updated (e ∷ l) = ap (λ t. e.0 ∷ t) (keys_updated l)

  apart_updated : (l : List Placed) → Apart l → Apart (with_updated place f l)
  apart_updated [] apart = tt
  apart_updated (e ∷ l) apart = (
    all_map (Differs (changed place f e)) (changed place f) l
        (all_weaker (Differs e) (λ x. Differs (changed place f e) (changed place f x)) l
        (λ x d. (
          d.0,
          ap (λ n. bytes_eq n (changed place f e).1.name) (name_changed x)
              ∙ ap (bytes_eq x.1.name) (name_changed e) ∙ d.1,
        )) apart.0),
    apart_updated l apart.1,
  )

  pub are_updated : (l : List Placed) → AreQueues l → AreQueues (with_updated place f l)
  are_updated l are = record {
    ordered = subst (IsStrictlySortedBy nat_cmp) (sym (keys_updated l)) are.ordered;
    apart = apart_updated l are.apart;
  }

  pub is_updated : (l : List Placed) (find : List ℕ → Option ℕ) → IsNames l find → IsNames (with_updated place f l) find
  is_updated l find is = record {
    are = are_updated l is.are;
    found = λ name. is.found name ∙ sym (place_updated name l);
  }

-- ---- a queue written where it was found

untouched : (place : ℕ) (f : Waiting → Waiting) (l : List Placed)
    → AllByRecursion (λ (e : Placed). (e.0 == place) ≡ false) l → with_updated place f l ≡ l
untouched place f [] apart = refl
untouched place f (e ∷ l) apart = ap (λ b. (e.0, cond b (f e.1) e.1) ∷ with_updated place f l) apart.0
    ∙ ap (λ t. e ∷ t) (untouched place f l apart.1)

pub set_updated : (place : ℕ) (f : Waiting → Waiting) (l : List Placed) (w : Waiting)
    → IsStrictlySortedBy nat_cmp (keys_of l) → at_place place l ≡ Some w
    → set_value (is_at (nat_cmp place)) l (f w) ≡ with_updated place f l
set_updated place f l w sorted at =
    let o = found place l w sorted at in
    o.set (f w) ∙ sym (
    ap (with_updated place f) o.whole ∙ map-append (changed place f) o.front ((place, w) ∷ o.back)
    ∙ ap (λ front. front ++ with_updated place f ((place, w) ∷ o.back)) (untouched place f o.front o.low)
    ∙ ap (λ b. o.front ++ (place, cond b (f w) w) ∷ with_updated place f o.back) (number_same place)
    ∙ ap (λ back. o.front ++ (place, f w) ∷ back) (untouched place f o.back o.high))

pub none_at : (place : ℕ) (l : List Placed) → at_place place l ≡ None
    → AllByRecursion (λ (e : Placed). (e.0 == place) ≡ false) l
none_at place [] none = tt
none_at place (e ∷ l) none = by (e.0 == place) refl (none_at place l)
  where
    here : (b : Bool) → (e.0 == place) ≡ b → cond b (Some e.1) (at_place place l) ≡ None
    here b h = sym (ap (λ c. cond c (Some e.1) (at_place place l)) (same_number place e.0 ∙ h)) ∙ none

    by : (b : Bool) → (e.0 == place) ≡ b → (at_place place l ≡ None
        → AllByRecursion (λ (e : Placed). (e.0 == place) ≡ false) l)
        → AllByRecursion (λ (e : Placed). (e.0 == place) ≡ false) (e ∷ l)
    by true h rest = absurd (none-some e.1 (sym (here true h)))
    by false h rest = (h, rest (here false h))

pub none_updated : (place : ℕ) (f : Waiting → Waiting) (l : List Placed) → at_place place l ≡ None
    → with_updated place f l ≡ l
none_updated place f l none = untouched place f l (none_at place l none)

-- what holds of each queue holds of that at a place
pub queue_at : (P : Placed → Type 0) (place : ℕ) (w : Waiting) (l : List Placed)
    → IsStrictlySortedBy nat_cmp (keys_of l) → at_place place l ≡ Some w → AllByRecursion P l → P (place, w)
queue_at P place w l sorted at all = let o = found place l w sorted at
    in (all_back P o.front ((place, w) ∷ o.back) (subst (AllByRecursion P) o.whole all)).0

-- a queue that took no request is written over itself
pub unless_pushed : {T E X : Type 0} (p : ℕ → Bool) (old new : List (ℕ × X)) (w name_queue : X) (result : Result T E)
    → lookup p old ≡ Some w → new ≡ set_value p old name_queue → OnErr result (name_queue ≡ w)
    → OnErr result (new ≡ old)
unless_pushed p old new w name_queue (Ok u) there set err = err
unless_pushed p old new w name_queue (Err e) there set err = set ∙ ap (set_value p old) err ∙ set_same p old w there

-- ---- a name that comes into use

not_first : (name : List ℕ) (e : Placed) (l : List Placed) → place_of name (e ∷ l) ≡ None
    → (bytes_eq e.1.name name ≡ false) × (place_of name l ≡ None)
not_first name e l none = by (bytes_eq e.1.name name) refl
  where
    by : (b : Bool) → bytes_eq e.1.name name ≡ b → (bytes_eq e.1.name name ≡ false) × (place_of name l ≡ None)
    by true h = absurd (none-some e.0 (sym none ∙ ap (λ c. cond c (Some e.0) (place_of name l)) h))
    by false h = (h, sym (ap (λ c. cond c (Some e.0) (place_of name l)) h) ∙ none)

pub place_last : (name : List ℕ) (l : List Placed) (x : Placed) → place_of name l ≡ None
    → place_of name (l ++ x ∷ []) ≡ cond (bytes_eq x.1.name name) (Some x.0) None
place_last name [] x none = refl
place_last name (e ∷ l) x none = let n = not_first name e l none
    in ap (λ b. cond b (Some e.0) (place_of name (l ++ x ∷ []))) n.0 ∙ place_last name l x n.1

pub place_before : (name : List ℕ) (place : ℕ) (l : List Placed) (x : Placed) → place_of name l ≡ Some place
    → place_of name (l ++ x ∷ []) ≡ Some place
place_before name place [] x at = absurd (none-some place at)
place_before name place (e ∷ l) x at = by (bytes_eq e.1.name name) refl (place_before name place l x)
  where
    by : (b : Bool) → bytes_eq e.1.name name ≡ b → (place_of name l ≡ Some place
        → place_of name (l ++ x ∷ []) ≡ Some place) → cond (bytes_eq e.1.name name) (Some e.0)
        (place_of name (l ++ x ∷ [])) ≡ Some place
    by true h rest = ap (λ b. cond b (Some e.0) (place_of name (l ++ x ∷ []))) h ∙ seen name place e l true h at
    by false h rest = ap (λ b. cond b (Some e.0) (place_of name (l ++ x ∷ []))) h
        ∙ rest (seen name place e l false h at)

apart_more : (l : List Placed) (number : ℕ) (w : Waiting) → AllByRecursion (λ (e : Placed). e.0 < number) l
    → place_of w.name l ≡ None → Apart l → Apart (l ++ (number, w) ∷ [])
apart_more [] number w below none apart = (tt, tt)
apart_more (e ∷ l) number w below none apart =
    let n = not_first w.name e l none in
    let less = below.0 in
    let other : (number == e.0) ≡ false = grind (arith, nat_tests, less) in (
      all_append (Differs e) l ((number, w) ∷ []) apart.0 ((other, other_bytes w.name e.1.name n.0), tt),
      apart_more l number w below.1 n.1 apart.1,
    )

pub is_more : (l : List Placed) (number : ℕ) (w : Waiting) (find more : List ℕ → Option ℕ)
    → AllByRecursion (λ (e : Placed). e.0 < number) l → place_of w.name l ≡ None → IsNames l find
    → IsStrictlySortedBy nat_cmp (keys_of (l ++ (number, w) ∷ []))
    → ((q : List ℕ) → more q ≡ cond (bytes_eq w.name q) (Some number) (find q)) → IsNames (l ++ (number, w) ∷ []) more
is_more l number w find more below none is sorted updates = record {
  are = record { ordered = sorted; apart = apart_more l number w below none is.are.apart };
  found = λ name. updates name ∙ ap (λ o. cond (bytes_eq w.name name) (Some number) o) (is.found name)
      ∙ by name (place_of name l) refl;
}
  where
    other : (name : List ℕ) (place : ℕ) → place_of name l ≡ Some place → (b : Bool) → bytes_eq w.name name ≡ b
        → b ≡ false
    other name place at true h = absurd (none-some place (sym
        (ap (λ n. place_of n l) (sym (same_text w.name name (sym h))) ∙ none) ∙ at))
    other name place at false h = refl

    by : (name : List ℕ) (o : Option ℕ) → place_of name l ≡ o
        → cond (bytes_eq w.name name) (Some number) (place_of name l) ≡ place_of name (l ++ (number, w) ∷ [])
    by name None at = ap (λ o. cond (bytes_eq w.name name) (Some number) o) at ∙ sym (place_last name l (number, w) at)
    by name (Some place) at = ap (λ b. cond b (Some number) (place_of name l))
        (other name place at (bytes_eq w.name name) refl) ∙ at ∙ sym (place_before name place l (number, w) at)

-- ---- a name that goes out of use

apart_filter : (p : Placed → Bool) (l : List Placed) → Apart l → Apart (filter p l)
apart_filter p [] apart = tt
apart_filter p (e ∷ l) apart = by (p e) (apart_filter p l apart.1)
  where
    by : (b : Bool) → Apart (filter p l) → Apart (cond b (e ∷ filter p l) (filter p l))
    by true rest = (all_filter (Differs e) p l apart.0, rest)
    by false rest = rest

both_none : (b : Bool) (o : Option ℕ) → o ≡ cond b o o
both_none true o = refl
both_none false o = refl

pub place_without : (name m : List ℕ) (place : ℕ) (l : List Placed) → AllByRecursion (SameAs name place) l
    → place_of m (filter (λ e. not (e.0 == place)) l) ≡ cond (bytes_eq name m) None (place_of m l)
place_without name m place [] same = both_none (bytes_eq name m) None
place_without name m place (e ∷ l) same = by (bytes_eq e.1.name name) refl (place_without name m place l same.1)
  where
    rest_of : List Placed
    rest_of = filter (λ e. not (e.0 == place)) l

    own : (b : Bool) → bytes_eq name m ≡ b → e.1.name ≡ name
        → cond b None (place_of m l) ≡ cond b None (cond (bytes_eq e.1.name m) (Some e.0) (place_of m l))
    own true h named = refl
    own false h named = sym (ap (λ c. cond c (Some e.0) (place_of m l)) (ap (λ n. bytes_eq n m) named ∙ h))

    others : (b : Bool) → bytes_eq e.1.name m ≡ b → bytes_eq e.1.name name ≡ false
        → place_of m rest_of ≡ cond (bytes_eq name m) None (place_of m l)
        → cond b (Some e.0) (place_of m rest_of) ≡ cond (bytes_eq name m) None (cond b (Some e.0) (place_of m l))
    others true h differs rest = let no : bytes_eq name m ≡ false =
        other_bytes name m (ap (λ n. bytes_eq n name) (sym (same_text e.1.name m (sym h))) ∙ differs) in rw no refl
    others false h differs rest = rest

    by : (b : Bool) → bytes_eq e.1.name name ≡ b → place_of m rest_of ≡ cond (bytes_eq name m) None (place_of m l)
        → place_of m (cond (not (e.0 == place)) (e ∷ rest_of) rest_of)
        ≡ cond (bytes_eq name m) None (cond (bytes_eq e.1.name m) (Some e.0) (place_of m l))
    by true h rest = ap (λ b. place_of m (cond (not b) (e ∷ rest_of) rest_of)) (same.0 ∙ h) ∙ rest
        ∙ own (bytes_eq name m) refl (same_text e.1.name name (sym h))
    by false h rest = ap (λ b. place_of m (cond (not b) (e ∷ rest_of) rest_of)) (same.0 ∙ h)
        ∙ others (bytes_eq e.1.name m) refl h rest

pub is_less : (place : ℕ) (w : Waiting) (l : List Placed) (find less : List ℕ → Option ℕ) → IsNames l find
    → at_place place l ≡ Some w → IsStrictlySortedBy nat_cmp (keys_of (filter (λ (e : Placed). not (e.0 == place)) l))
    → ((q : List ℕ) → less q ≡ cond (bytes_eq w.name q) None (find q))
    → IsNames (filter (λ (e : Placed). not (e.0 == place)) l) less
is_less place w l find less is at sorted updates = record {
  are = record { ordered = sorted; apart = apart_filter (λ (e : Placed). not (e.0 == place)) l is.are.apart };
  found = λ name. updates name ∙ ap (λ o. cond (bytes_eq w.name name) None o) (is.found name)
      ∙ sym (place_without w.name name place l (one_place w.name place l is.are.apart
      (place_here place w l is.are.apart at)));
}

-- ---- the queue at a place leaves, if it is idle

filter_same : (p q : Placed → Bool) (l : List Placed) → AllByRecursion (λ e. p e ≡ q e) l → filter p l ≡ filter q l
filter_same p q [] all = refl
filter_same p q (e ∷ l) all = ap (λ b. cond b (e ∷ filter p l) (filter p l)) all.0
    ∙ ap (λ t. cond (q e) (e ∷ t) t) (filter_same p q l all.1)

-- what holds of a queue at its place holds at each queue there
pub at_its_place : (P : Waiting → Type 0) (place : ℕ) (w : Waiting) (l : List Placed)
    → IsStrictlySortedBy nat_cmp (keys_of l) → at_place place l ≡ Some w → P w
    → AllByRecursion (λ (e : Placed). (e.0 == place) ≡ true → P e.1) l
at_its_place P place w l sorted at is =
    let o = found place l w sorted at in
    let Q : Placed → Type 0 = λ e. (e.0 == place) ≡ true → P e.1 in
    let others : (e : Placed) → (e.0 == place) ≡ false → Q e = λ e no yes. absurd (cc (no, yes)) in
    subst (AllByRecursion Q) (sym o.whole) (all_append Q o.front ((place, w) ∷ o.back)
    (all_weaker (λ (e : Placed). (e.0 == place) ≡ false) Q o.front others o.low)
    ((λ yes. is), all_weaker (λ (e : Placed). (e.0 == place) ≡ false) Q o.back others o.high))

pub idle_leaves : (place : ℕ) (w : Waiting) (l : List Placed) → IsStrictlySortedBy nat_cmp (keys_of l)
    → at_place place l ≡ Some w → is_busy w ≡ false → without_idle place l
    ≡ filter (λ (e : Placed). not (e.0 == place)) l
idle_leaves place w l sorted at idle =
    filter_same (stays place) (λ (e : Placed). not (e.0 == place)) l
    (all_weaker (λ (e : Placed). (e.0 == place) ≡ true → is_busy e.1 ≡ false)
    (λ (e : Placed). stays place e ≡ not (e.0 == place)) l (λ e is. by e (e.0 == place) refl is)
    (at_its_place (λ v. is_busy v ≡ false) place w l sorted at idle))
  where
    by : (e : Placed) (b : Bool) → (e.0 == place) ≡ b → ((e.0 == place) ≡ true → is_busy e.1 ≡ false)
        → not (b && not (is_busy e.1)) ≡ not b
    by e true h is = ap (λ c. not (not c)) (is h)
    by e false h is = refl

pub busy_stays : (place : ℕ) (w : Waiting) (l : List Placed) → IsStrictlySortedBy nat_cmp (keys_of l)
    → at_place place l ≡ Some w → is_busy w ≡ true → without_idle place l ≡ l
busy_stays place w l sorted at busy =
    filter_whole (stays place) l (all_weaker (λ (e : Placed). (e.0 == place) ≡ true → is_busy e.1 ≡ true)
    (λ (e : Placed). stays place e ≡ true) l (λ e is. by e (e.0 == place) refl is)
    (at_its_place (λ v. is_busy v ≡ true) place w l sorted at busy))
  where
    by : (e : Placed) (b : Bool) → (e.0 == place) ≡ b → ((e.0 == place) ≡ true → is_busy e.1 ≡ true)
        → not (b && not (is_busy e.1)) ≡ true
    by e true h is = ap (λ c. not (not c)) (is h)
    by e false h is = refl

pub none_leaves : (place : ℕ) (l : List Placed) → at_place place l ≡ None → without_idle place l ≡ l
none_leaves place l none = filter_whole (stays place) l (all_weaker (λ (e : Placed). (e.0 == place) ≡ false)
    (λ (e : Placed). stays place e ≡ true) l (λ e no. ap (λ b. not (b && not (is_busy e.1))) no) (none_at place l none))

-- ---- a queue that grants nothing stays

pub none_grants : (w : Waiting) → next_grant w ≡ None → after_grant w ≡ w
none_grants w none = by w.waits none
  where
    at : (e : Numbered) (l : List Numbered) (b : Bool) → cond b (Some e.0) None ≡ None
        → cond b (record w { waits = l; holders = w.holders ++ e ∷ [] }) w ≡ w
    at e l true none = absurd (none-some e.0 (sym none))
    at e l false none = refl

    by : (l : List Numbered) → if_admitted w l ≡ None → without_admitted w l ≡ w
    by [] none = refl
    by (e ∷ l) none = at e l (admits w e.1) none

pub if_some : {X : Type 0} (P : Type 0) (o : Option X) → P → IfSome o (λ x. P)
if_some P None p = tt
if_some P (Some x) p = p

pub if_none : {X : Type 0} (P : Type 0) (o : Option X) → (o ≡ None → P) → IfNone o P
if_none P None p = p refl
if_none P (Some x) p = tt

-- a grant keeps the name
pub grant_keeps : (w : Waiting) → (after_grant w).name ≡ w.name
grant_keeps w = by w.waits
  where
    at : (e : Numbered) (l : List Numbered) (b : Bool) → (cond b (record w { waits = l; holders = w.holders ++ e ∷ [] })
        w).name ≡ w.name
    at e l true = refl
    at e l false = refl

    by : (l : List Numbered) → (without_admitted w l).name ≡ w.name
    by [] = refl
    by (e ∷ l) = at e l (admits w e.1)

-- a look says that the queue at a place is busy
pub stays_busy : (place : ℕ) (b : Bool) (l : List Placed) → IsStrictlySortedBy nat_cmp (keys_of l)
    → IfSome (at_place place l) (λ w. b ≡ is_busy w) → b ≡ true → without_idle place l ≡ l
stays_busy place b l sorted says busy = by (at_place place l) refl says
  where
    by : (o : Option Waiting) → at_place place l ≡ o → IfSome o (λ w. b ≡ is_busy w) → without_idle place l ≡ l
    by None none is = none_leaves place l none
    by (Some w) at is = busy_stays place w l sorted at (sym is ∙ busy)
