-- The locks of a name end, one after the other.
use Rattle.std.proofs.Common.{◌≡◌, ℕ, ◌==◌, Bool, true, false, cond, List, [], ◌∷◌, ◌++◌, map, refl, ap, subst, sym}
use Rattle.std.proofs.Common.{◌∙◌}
use Rattle.std.specs.Prelude.{not, ◌&&◌, ◌||◌, filter, Option, Some, None, slice_get}
use Rattle.std.specs.Str.{bytes_eq}
use Rattle.std.specs.List.{list_any, AllByRecursion}
use Rattle.std.specs.List.Sorted.{IsStrictlySortedBy}
use Rattle.std.specs.Map.{keys_of, lookup}
use Rattle.std.specs.BTreeMap.{is_at}
use Rattle.std.specs.Ordering.{nat_cmp}
use Rattle.std.proofs.lemmas.Map.Keys.{sorted_head, sorted_tail}
use Rattle.std.proofs.lemmas.List.Elements.{filter-append}
use Rattle.wl_types.specs.declared.phases.Phase.TheVariants.{Stolen}
use Rattle.wl_machine.specs.declared.rows.HeldRow.{HeldRow}
use Rattle.wl_machine.specs.Grants.{locks}
use Rattle.wl_machine.specs.Step.{lock_ends}
use Rattle.wl_machine.proofs.Lists.{any_filter, filters_commute, any_map}
use Rattle.wl_index.specs.declared.request.Request.{Request}
use Rattle.wl_index.specs.inner.GrantOrder.{by_grant_seq}
use Rattle.wl_index.specs.inner.Rows.{Entry, other, holds, holding, grant_seq_of, lock_row, held_of}
use Rattle.wl_index.specs.inner.Locks.{no_lock_on}
use Rattle.wl_index.proofs.Lists.{filter_out, filter_none, filter_whole, all_weaker, any_by_grant_seq}
use Rattle.wl_number_map.proofs.Keyed.{Found, found, same_number, number_same, above_apart}
use Rattle.wl_index.proofs.Rows.{held_filter}
use Rattle.wl_index.proofs.Ends.{other_lock, held_without}

none_among : (id : ℕ) (es : List Entry) → AllByRecursion (λ (e : Entry). (e.0 == id) ≡ false) es
    → list_any (λ e. e.0 == id) (filter holding es) ≡ false
none_among id [] apart = refl
none_among id (e ∷ es) apart = by (holding e) (none_among id es apart.1)
  where
    by : (b : Bool) → list_any (λ e. e.0 == id) (filter holding es) ≡ false
        → list_any (λ e. e.0 == id) (cond b (e ∷ filter holding es) (filter holding es)) ≡ false
    by true rest = rw apart.0 rest
    by false rest = rest

held_in : (id : ℕ) (es : List Entry) → IsStrictlySortedBy nat_cmp (keys_of es)
    → list_any (λ e. e.0 == id) (filter holding es) ≡ true → (r : Request) × (lookup (is_at (nat_cmp id)) es ≡ Some r)
    × (holds r.stage ≡ true)
held_in id [] sorted there = absurd (cc)
held_in id (e ∷ es) sorted there = by (e.0 == id) refl (holding e) refl
    (held_in id es (sorted_tail nat_cmp e.0 (keys_of es) sorted))
  where
    seen : (b : Bool) → holding e ≡ b → list_any (λ e. e.0 == id) (cond b (e ∷ filter holding es) (filter holding es))
        ≡ true
    seen b h = sym (ap (λ c. list_any (λ e. e.0 == id) (cond c (e ∷ filter holding es) (filter holding es))) h) ∙ there

    here : (b : Bool) → (e.0 == id) ≡ b → cond (is_at (nat_cmp id) e.0) (Some e.1) (lookup (is_at (nat_cmp id)) es)
        ≡ cond b (Some e.1) (lookup (is_at (nat_cmp id)) es)
    here b h = ap (λ c. cond c (Some e.1) (lookup (is_at (nat_cmp id)) es)) (same_number id e.0 ∙ h)

    by : (b : Bool) → (e.0 == id) ≡ b → (w : Bool) → holding e ≡ w
        → (list_any (λ e. e.0 == id) (filter holding es) ≡ true
        → (r : Request) × (lookup (is_at (nat_cmp id)) es ≡ Some r) × (holds r.stage ≡ true))
        → (r : Request) × (cond (is_at (nat_cmp id) e.0) (Some e.1) (lookup (is_at (nat_cmp id)) es) ≡ Some r)
        × (holds r.stage ≡ true)
    by true h true w rest = (e.1, here true h, w)
    by true h false w rest = absurd (let none = none_among id es
        (above_apart id e.0 es h (sorted_head nat_cmp e.0 (keys_of es) sorted)) in let some = seen false w
        in cc (none, some))
    by false h true w rest =
        let later : list_any (λ e. e.0 == id) (filter holding es)
        ≡ true = sym (ap (λ c. c || list_any (λ e. e.0 == id) (filter holding es)) h) ∙ seen true w in
        let f = rest later in
        (f.0, here false h ∙ f.1, f.2)
    by false h false w rest = let f = rest (seen false w) in (f.0, here false h ∙ f.1, f.2)

-- the number of a lock is that of an entry that holds
pub held_there : (id : ℕ) (es : List Entry) → IsStrictlySortedBy nat_cmp (keys_of es)
    → list_any (λ (l : HeldRow). l.number == id) (held_of es) ≡ true
    → (r : Request) × (lookup (is_at (nat_cmp id)) es ≡ Some r) × (holds r.stage ≡ true)
held_there id es sorted there =
    held_in id es sorted (sym (any_map (λ (l : HeldRow). l.number == id) lock_row
    (by_grant_seq grant_seq_of (filter holding es)) ∙ any_by_grant_seq grant_seq_of (λ e. e.0 == id)
    (filter holding es)) ∙ there)

one_lock : (id : ℕ) (es : List Entry) (r : Request) → Found id es r → holds r.stage ≡ true
    → filter (λ (l : HeldRow). l.number == id) (held_of es) ≡ lock_row (id, r) ∷ []
one_lock id es r f holds_now =
    let q : Entry → Bool = λ e. e.0 == id in
    let one : filter q es ≡ (id, r) ∷ [] = ap (filter q) f.whole ∙ filter-append q f.front ((id, r) ∷ f.back)
    ∙ rw (filter_none q f.front f.low, number_same id, filter_none q f.back f.high) refl in
    sym (held_filter (λ (l : HeldRow). l.number == id) es) ∙ ap held_of one ∙ rw holds_now refl

none_passes : {X : Type 0} (p : X → Bool) (l : List X) → filter p l ≡ [] → list_any p l ≡ false
none_passes p [] none = refl
none_passes p (x ∷ l) none = by (p x) refl (none_passes p l)
  where
    by : (b : Bool) → p x ≡ b → (filter p l ≡ [] → list_any p l ≡ false) → (p x || list_any p l) ≡ false
    by true h rest = absurd (let no : (x ∷ filter p l) ≡ [] = sym (ap (λ b. cond b (x ∷ filter p l) (filter p l)) h)
        ∙ none in cc)
    by false h rest = rw h (rest (sym (ap (λ b. cond b (x ∷ filter p l) (filter p l)) h) ∙ none))

-- the first lock of a name ends
pub record Theft (name : List ℕ) (id : ℕ) (es : List Entry) (more : List HeldRow) : Type 0 where
  pub request : Request
  pub there : lookup (is_at (nat_cmp id)) es ≡ Some request
  pub stolen : no_lock_on name (id, request) ≡ false
  pub rest : locks name (held_of (filter (other id) es)) ≡ more

abbrev tail : List HeldRow → List HeldRow
tail [] = []
tail (x ∷ xs) = xs

theft_at : (name : List ℕ) (es : List Entry) (lock : HeldRow) (more : List HeldRow) (r : Request)
    → IsStrictlySortedBy nat_cmp (keys_of es) → locks name (held_of es) ≡ lock ∷ more
    → lookup (is_at (nat_cmp lock.number)) es ≡ Some r → holds r.stage ≡ true → Theft name lock.number es more
theft_at name es lock more r sorted first there holds_now =
    let id = lock.number in
    let f = found id es r sorted there in
    let p : HeldRow → Bool = λ l. l.number == id in
    let one = one_lock id es r f holds_now in
    let mine : filter p (lock ∷ more) ≡ locks name (lock_row (id, r) ∷ []) = sym (ap (filter p) first)
    ∙ filters_commute p (λ (l : HeldRow). bytes_eq l.name name) (held_of es) ∙ ap (locks name) one in
    let split : lock ∷ filter p more ≡ locks name (lock_row (id, r) ∷ []) =
    sym (ap (λ b. cond b (lock ∷ filter p more) (filter p more)) (number_same id)) ∙ mine in
    let own = named (bytes_eq r.name name) refl split in
    let none : filter p more ≡ [] = ap tail split ∙ ap (λ b. tail (cond b (lock_row (id, r) ∷ []) [])) own in
    record {
      request = r;
      there = there;
      stolen = ap (λ b. not (b && bytes_eq r.name name)) holds_now ∙ ap not own;
      rest = ap (locks name) (held_without id es) ∙ filters_commute (λ (l : HeldRow). bytes_eq l.name name)
          (other_lock id) (held_of es) ∙ ap (filter (other_lock id)) first
          ∙ ap (λ b. cond (not b) (lock ∷ filter (other_lock id) more) (filter (other_lock id) more)) (number_same id)
          ∙ filter_out p more (none_passes p more none);
    }
  where
    named : (b : Bool) → bytes_eq r.name name ≡ b → lock ∷ filter (λ (l : HeldRow). l.number == lock.number) more
        ≡ locks name (lock_row (lock.number, r) ∷ []) → bytes_eq r.name name ≡ true
    named true h split = h
    named false h split = absurd (let no : lock ∷ filter (λ (l : HeldRow). l.number == lock.number) more ≡ [] = split
        ∙ ap (λ b. cond b (lock_row (lock.number, r) ∷ []) []) h in cc)

first_number : (id : ℕ) (l : List HeldRow) → Some id ≡ slice_get (map (λ (x : HeldRow). x.number) l) 0
    → (lock : HeldRow) × (more : List HeldRow) × (l ≡ lock ∷ more) × (lock.number ≡ id)
first_number id [] is = absurd (cc)
first_number id (lock ∷ more) is = (lock, more, refl, sym (ap (λ o. or_else o id) is))
  where
    or_else : Option ℕ → ℕ → ℕ
    or_else None d = d
    or_else (Some n) d = n

pub no_number : (l : List HeldRow) → None ≡ slice_get (map (λ (x : HeldRow). x.number) l) 0 → l ≡ []
no_number [] is = refl
no_number (lock ∷ more) is = absurd (cc)

-- the lock whose number a queue tells
pub record Stealing (name : List ℕ) (id : ℕ) (es : List Entry) : Type 0 where
  pub more : List HeldRow
  pub theft : Theft name id es more
  pub told : lock_ends Stolen (locks name (held_of es)) ≡ record { id = id; phase = Stolen } ∷ lock_ends Stolen more

pub stealing : (name : List ℕ) (id : ℕ) (es : List Entry) → IsStrictlySortedBy nat_cmp (keys_of es)
    → Some id ≡ slice_get (map (λ (x : HeldRow). x.number) (locks name (held_of es))) 0 → Stealing name id es
stealing name id es sorted is =
    let n = first_number id (locks name (held_of es)) is in
    let among : list_any (λ (l : HeldRow). l.number == n.0.number) (held_of es) ≡ true = any_of n.0 n.1 n.2 in
    let r = held_there n.0.number es sorted among in
    let theft = theft_at name es n.0 n.1 r.0 sorted n.2 r.1 r.2 in
    record {
      more = n.1;
      theft = subst (λ k. Theft name k es n.1) n.3 theft;
      told = ap (lock_ends Stolen) n.2 ∙ ap (λ k. record { id = k; phase = Stolen } ∷ lock_ends Stolen n.1) n.3;
    }
  where
    any_of : (lock : HeldRow) (more : List HeldRow) → locks name (held_of es) ≡ lock ∷ more
        → list_any (λ (l : HeldRow). l.number == lock.number) (held_of es) ≡ true
    any_of lock more first = any_filter (λ (l : HeldRow). l.number == lock.number) (λ l. bytes_eq l.name name)
        (held_of es) (ap (list_any (λ (l : HeldRow). l.number == lock.number)) first
        ∙ ap (λ b. b || list_any (λ (l : HeldRow). l.number == lock.number) more) (number_same lock.number))

-- the entries but for the locks of a name: without the first of those
pub theft_entries : (name : List ℕ) (id : ℕ) (es : List Entry) (r : Request) → Found id es r
    → no_lock_on name (id, r) ≡ false → filter (no_lock_on name) (filter (other id) es) ≡ filter (no_lock_on name) es
theft_entries name id es r f stolen =
    let p = no_lock_on name in
    let left : filter (other id) es ≡ f.front ++ f.back = ap (filter (other id)) f.whole
    ∙ filter-append (other id) f.front ((id, r) ∷ f.back)
    ∙ rw (
      filter_whole (other id) f.front (all_weaker (λ (e : Entry). (e.0 == id) ≡ false) (λ e. other id e ≡ true)
          f.front (λ e no. rw no refl) f.low),
      number_same id,
      filter_whole (other id) f.back
          (all_weaker (λ (e : Entry). (e.0 == id) ≡ false) (λ e. other id e ≡ true) f.back (λ e no. rw no refl) f.high),
    )
    refl in
    ap (filter p) left ∙ filter-append p f.front f.back
    ∙ sym (ap (filter p) f.whole ∙ filter-append p f.front ((id, r) ∷ f.back)
    ∙ ap (λ b. filter p f.front ++ cond b ((id, r) ∷ filter p f.back) (filter p f.back)) stolen)

any_both : {X : Type 0} (p q : X → Bool) (l : List X) → list_any (λ x. p x && q x) l ≡ list_any q (filter p l)
any_both p q [] = refl
any_both p q (x ∷ l) = by (p x) (any_both p q l)
  where
    by : (b : Bool) → list_any (λ x. p x && q x) l ≡ list_any q (filter p l)
        → ((b && q x) || list_any (λ x. p x && q x) l) ≡ list_any q (cond b (x ∷ filter p l) (filter p l))
    by true rest = ap (λ c. q x || c) rest
    by false rest = rest

-- where a name has no lock, they are all
pub no_theft : (name : List ℕ) (es : List Entry) → locks name (held_of es) ≡ [] → filter (no_lock_on name) es ≡ es
no_theft name es none =
    filter_out (λ (e : Entry). holding e && bytes_eq e.1.name name) es (
    any_both holding (λ (e : Entry). bytes_eq e.1.name name) es
    ∙ sym (any_map (λ (l : HeldRow). bytes_eq l.name name) lock_row (by_grant_seq grant_seq_of (filter holding es))
    ∙ any_by_grant_seq grant_seq_of (λ (e : Entry). bytes_eq e.1.name name) (filter holding es))
    ∙ none_passes (λ (l : HeldRow). bytes_eq l.name name) (held_of es) none)
