-- A request or a lock ends, or takes its name: what its queue, and the names, then say.
use Rattle.std.proofs.Common.{◌≡◌, ℕ, suc, ◌+◌, ◌==◌, Bool, true, false, cond, List, [], ◌∷◌, ◌++◌, length, map, refl}
use Rattle.std.proofs.Common.{ap, subst, sym, ◌∙◌, append-nil, arith}
use Rattle.std.specs.Prelude.{not, filter, Option, Some, None}
use Rattle.std.specs.Option.{IsSome}
use Rattle.std.specs.Str.{bytes_eq}
use Rattle.std.specs.List.{list_any, AllByRecursion}
use Rattle.std.specs.List.Sorted.{IsStrictlySortedBy}
use Rattle.std.specs.Map.{keys_of, lookup}
use Rattle.std.specs.BTreeMap.{is_at}
use Rattle.std.specs.Ordering.{nat_cmp}
use Rattle.std.proofs.lemmas.List.{length-append}
use Rattle.std.proofs.lemmas.List.Elements.{filter-append}
use Rattle.wl_types.specs.declared.words.Mode.TheVariants.{Exclusive}
use Rattle.wl_machine.specs.declared.rows.HeldRow.{HeldRow}
use Rattle.wl_machine.specs.declared.rows.PendingRow.{PendingRow}
use Rattle.wl_machine.specs.Grants.{granted_lock, locks, queue}
use Rattle.wl_machine.proofs.Lists.{same_bytes, filters_commute, filter_map}
use Rattle.wl_number_map.proofs.Keyed.{Found, found, number_same}
use Rattle.wl_index.specs.declared.request.Request.{Request}
use Rattle.wl_index.specs.inner.GrantOrder.{by_grant_seq}
use Rattle.wl_index.proofs.GrantOrder.{by_grant_seq_all}
use Rattle.wl_index.specs.inner.Rows.{Entry, other, waiting, holding, grant_seq_of, request_row, lock_row, held_of}
use Rattle.wl_index.specs.inner.Rows.{pending_of}
use Rattle.wl_index.specs.inner.NameQueue.{Waiting, Matches, without, other_than, number_and_mode, lock_and_mode}
use Rattle.wl_index.specs.inner.NameQueue.{after_seize}
use Rattle.wl_index.specs.inner.Queues.{Placed, place_of, with_updated}
use Rattle.wl_index.specs.inner.Locks.{Stands, WaitsAlone}
use Rattle.wl_index.proofs.Lists.{filter_whole, all_weaker, all_append, all_filter, all_map}
use Rattle.wl_index.proofs.Rows.{is_request, pending_filter, held_filter, pending_there, live_count}
use Rattle.wl_index.proofs.Grants.{pending_one}
use Rattle.wl_index.proofs.Standing.{one_touched}

abbrev pub other_lock : ℕ → HeldRow → Bool
other_lock number lock = not (lock.number == number)

abbrev pub other_request : ℕ → PendingRow → Bool
other_request number request = not (request.number == number)

-- ---- of one number there is one name

one_name : (number : ℕ) (r : Request) (es : List Entry) → Found number es r
    → AllByRecursion (λ (e : Entry). (e.0 == number) ≡ true → e.1.name ≡ r.name) es
one_name number r es f =
    let P : Entry → Type 0 = λ e. (e.0 == number) ≡ true → e.1.name ≡ r.name in
    let apart : (e : Entry) → (e.0 == number) ≡ false → P e = λ e no yes. absurd (cc (no, yes)) in
    rw f.whole (all_append P f.front ((number, r) ∷ f.back)
    (all_weaker (λ (e : Entry). (e.0 == number) ≡ false) P f.front apart f.low)
    ((λ yes. refl), all_weaker (λ (e : Entry). (e.0 == number) ≡ false) P f.back apart f.high))

held_one_name : (number : ℕ) (r : Request) (es : List Entry) → Found number es r
    → AllByRecursion (λ (lock : HeldRow). (lock.number == number) ≡ true → lock.name ≡ r.name) (held_of es)
held_one_name number r es f =
    all_map (λ (lock : HeldRow). (lock.number == number) ≡ true → lock.name ≡ r.name) lock_row
    (by_grant_seq grant_seq_of (filter holding es))
    (by_grant_seq_all grant_seq_of (λ (e : Entry). (e.0 == number) ≡ true → e.1.name ≡ r.name) (filter holding es)
    (all_filter (λ (e : Entry). (e.0 == number) ≡ true → e.1.name ≡ r.name) holding es (one_name number r es f)))

pending_one_name : (number : ℕ) (r : Request) (es : List Entry) → Found number es r
    → AllByRecursion (λ (request : PendingRow). (request.number == number) ≡ true → request.name ≡ r.name)
    (pending_of es)
pending_one_name number r es f =
    all_map (λ (request : PendingRow). (request.number == number) ≡ true → request.name ≡ r.name) request_row
    (filter waiting es)
    (all_filter (λ (e : Entry). (e.0 == number) ≡ true → e.1.name ≡ r.name) waiting es (one_name number r es f))

-- the lists of another name stay
stays_of : {X : Type 0} (number : X → ℕ) (name : X → List ℕ) (id : ℕ) (named m : List ℕ) (l : List X)
    → bytes_eq named m ≡ false → AllByRecursion (λ x. (number x == id) ≡ true → name x ≡ named) l
    → filter (λ x. bytes_eq (name x) m) (filter (λ x. not (number x == id)) l) ≡ filter (λ x. bytes_eq (name x) m) l
stays_of number name id named m [] differs all = refl
stays_of {X} number name id named m (x ∷ l) differs all = by (number x == id) refl
    (stays_of number name id named m l differs all.1)
  where
    by : (b : Bool) → (number x == id) ≡ b → filter (λ x. bytes_eq (name x) m) (filter (λ x. not (number x == id)) l)
        ≡ filter (λ x. bytes_eq (name x) m) l
        → filter (λ x. bytes_eq (name x) m) (cond (not (number x == id)) (x ∷ filter (λ x. not (number x == id)) l)
        (filter (λ x. not (number x == id)) l)) ≡ cond (bytes_eq (name x) m) (x ∷ filter (λ x. bytes_eq (name x) m) l)
        (filter (λ x. bytes_eq (name x) m) l)
    by true h rest = let no : bytes_eq (name x) m ≡ false = ap (λ n. bytes_eq n m) (all.0 h) ∙ differs
        in rw (h, no) rest
    by false h rest = rw h (ap (λ t. cond (bytes_eq (name x) m) (x ∷ t) t) rest)

pub locks_apart : (number : ℕ) (r : Request) (es : List Entry) (m : List ℕ) → Found number es r
    → bytes_eq r.name m ≡ false → locks m (filter (other_lock number) (held_of es)) ≡ locks m (held_of es)
locks_apart number r es m f differs = stays_of (λ (lock : HeldRow). lock.number) (λ lock. lock.name) number r.name m
    (held_of es) differs (held_one_name number r es f)

pub queue_apart : (number : ℕ) (r : Request) (es : List Entry) (m : List ℕ) → Found number es r
    → bytes_eq r.name m ≡ false → queue m (filter (other_request number) (pending_of es)) ≡ queue m (pending_of es)
queue_apart number r es m f differs = stays_of (λ (request : PendingRow). request.number) (λ request. request.name)
    number r.name m (pending_of es) differs (pending_one_name number r es f)

-- a queue without a number says what the lists say without it
pub without_matches : (w : Waiting) (number : ℕ) (held : List HeldRow) (pending : List PendingRow)
    → Matches w held pending → Matches (without number w) (filter (other_lock number) held)
    (filter (other_request number) pending)
without_matches w number held pending matches = record {
  waits = ap (filter (other_than number)) matches.waits ∙ filter_map (other_than number) number_and_mode
      (queue w.name pending) ∙ ap (map number_and_mode) (filters_commute (other_request number)
      (λ (x : PendingRow). bytes_eq x.name w.name) pending);
  holders = ap (filter (other_than number)) matches.holders
      ∙ filter_map (other_than number) lock_and_mode (locks w.name held)
      ∙ ap (map lock_and_mode) (filters_commute (other_lock number) (λ (x : HeldRow). bytes_eq x.name w.name) held);
}

pub held_without : (number : ℕ) (es : List Entry) → held_of (filter (other number) es)
    ≡ filter (other_lock number) (held_of es)
held_without number es = held_filter (other_lock number) es

pub pending_without : (number : ℕ) (es : List Entry) → pending_of (filter (other number) es)
    ≡ filter (other_request number) (pending_of es)
pending_without number es = pending_filter (other_request number) es

-- a live request's name has a queue
pub live_named : (number : ℕ) (r : Request) (es : List Entry) (queues : List Placed) (touched : List ℕ)
    → Found number es r → Stands queues (held_of es) (pending_of es) touched → IsSome (place_of r.name queues)
live_named number r es queues touched f stands = by (place_of r.name queues) refl
  where
    N : Entry → Bool
    N e = bytes_eq e.1.name r.name

    some_live : length (filter N es) ≡ length (filter N f.front) + suc (length (filter N f.back))
    some_live = ap (λ l. length (filter N l)) f.whole ∙ ap length
        (filter-append N f.front ((number, r) ∷ f.back) ∙ rw (same_bytes r.name) refl)
        ∙ length-append (filter N f.front) ((number, r) ∷ filter N f.back)

    by : (o : Option ℕ) → place_of r.name queues ≡ o → IsSome (place_of r.name queues)
    by (Some place) at = subst IsSome (sym at) refl
    by None none = absurd (
        let k = stands.known r.name none in
        let no_locks : length (held_of (filter N es)) ≡ 0 =
        ap length (held_filter (λ (l : HeldRow). bytes_eq l.name r.name) es ∙ k.0) in
        let no_queue : length (pending_of (filter N es)) ≡ 0 =
        ap length (pending_filter (λ (q : PendingRow). bytes_eq q.name r.name) es ∙ k.1) in
        let count = live_count (filter N es) in
        let some = some_live in
        omega (arith, no_locks, no_queue, count, some))

pub without_keeps : (number : ℕ) (w : Waiting) → (without number w).name ≡ w.name
without_keeps number w = refl

-- the request or the lock of this number ends
pub one_ended : (number : ℕ) (r : Request) (place : ℕ) (es : List Entry) (queues : List Placed) (touched : List ℕ)
    → Found number es r → place_of r.name queues ≡ Some place → Stands queues (held_of es) (pending_of es) touched
    → Stands (with_updated place (without number) queues) (held_of (filter (other number) es))
    (pending_of (filter (other number) es)) (place ∷ touched)
one_ended number r place es queues touched f at stands =
    rw (held_without number es, pending_without number es)
    (one_touched r.name place (without number) queues (held_of es) (filter (other_lock number) (held_of es))
    (pending_of es) (filter (other_request number) (pending_of es)) touched (without_keeps number)
    (λ m differs. (locks_apart number r es m f differs, queue_apart number r es m f differs)) at
    (λ w named matches. without_matches w number (held_of es) (pending_of es) matches) stands)

-- ---- a request takes its name

-- the request that waits alone
pub record Waiter (number : ℕ) (name : List ℕ) (es : List Entry) : Type 0 where
  pub request : Request
  pub there : lookup (is_at (nat_cmp number)) es ≡ Some request
  pub named : request.name ≡ name
  pub mode : request.mode ≡ Exclusive
  pub only : filter (is_request number) (pending_of es) ≡ request_row (number, request) ∷ []

pub any_from : {X : Type 0} (p : X → Bool) (l : List X) (x : X) → filter p l ≡ x ∷ [] → list_any p l ≡ true
any_from p [] x only = absurd (cc)
any_from p (y ∷ l) x only = by (p y) refl (any_from p l x)
  where
    by : (b : Bool) → p y ≡ b → (filter p l ≡ x ∷ [] → list_any p l ≡ true) → list_any p (y ∷ l) ≡ true
    by true h rest = rw h refl
    by false h rest = rw h (rest (rw h at only))

pub waiter : (number : ℕ) (name : List ℕ) (es : List Entry) → IsStrictlySortedBy nat_cmp (keys_of es)
    → WaitsAlone number name (pending_of es) → Waiter number name es
waiter number name es sorted w =
    let t = pending_there number es sorted (any_from (is_request number) (pending_of es) w.row w.only) in
    let f = found number es t.0 sorted t.1 in
    let only : filter (is_request number) (pending_of es) ≡ request_row (number, t.0)
    ∷ [] = ap (λ l. filter (is_request number) (pending_of l)) f.whole
    ∙ pending_one f.front f.back number t.0 t.2 f.low f.high in
    let same : request_row (number, t.0) ≡ w.row = first_same (request_row (number, t.0)) w.row (sym only ∙ w.only) in
    record {
      request = t.0;
      there = t.1;
      named = ap (λ (r : PendingRow). r.name) same ∙ w.named;
      mode = ap (λ (r : PendingRow). r.mode) same ∙ w.mode;
      only = only;
    }
  where
    first_same : (x y : PendingRow) → x ∷ [] ≡ y ∷ [] → x ≡ y
    first_same x y e = cc (e)

pub seized_keeps : (number : ℕ) (w : Waiting) → (after_seize number w).name ≡ w.name
seized_keeps number w = refl

pub one_seized : (number place : ℕ) (name : List ℕ) (es es' : List Entry) (queues : List Placed) (touched : List ℕ)
    → IsStrictlySortedBy nat_cmp (keys_of es) → Waiter number name es → place_of name queues ≡ Some place
    → locks name (held_of es) ≡ []
    → held_of es' ≡ held_of es ++ map granted_lock (filter (is_request number) (pending_of es))
    → pending_of es' ≡ filter (other_request number) (pending_of es)
    → Stands queues (held_of es) (pending_of es) touched
    → Stands (with_updated place (after_seize number) queues) (held_of es') (pending_of es') (place ∷ touched)
one_seized number place name es es' queues touched sorted w at gone held pending stands =
    let f = found number es w.request sorted w.there in
    let row = request_row (number, w.request) in
    let held_is : held_of es' ≡ held_of es ++ granted_lock row ∷ [] = held
    ∙ ap (λ l. held_of es ++ map granted_lock l) w.only in
    let one : locks name (held_of es') ≡ granted_lock row ∷ [] = ap (locks name) held_is
    ∙ filter-append (λ (l : HeldRow). bytes_eq l.name name) (held_of es) (granted_lock row ∷ [])
    ∙ ap (λ l. l ++ locks name (granted_lock row ∷ [])) gone
    ∙ ap (λ b. cond b (granted_lock row ∷ []) []) (ap (λ n. bytes_eq n name) w.named ∙ same_bytes name) in
    one_touched name place (after_seize number) queues (held_of es) (held_of es') (pending_of es) (pending_of es')
    touched (seized_keeps number)
    (λ m differs. (
      ap (locks m) held_is ∙ filter-append (λ (l : HeldRow). bytes_eq l.name m) (held_of es) (granted_lock row ∷ [])
          ∙ ap (λ b. locks m (held_of es) ++ cond b (granted_lock row ∷ []) [])
          (ap (λ n. bytes_eq n m) w.named ∙ differs)
          ∙ append-nil (locks m (held_of es)),
      ap (queue m) pending ∙ queue_apart number w.request es m f (ap (λ n. bytes_eq n m) w.named ∙ differs),
    ))
    at
    (λ v named matches. record {
      waits = (without_matches v number (held_of es) (pending_of es) matches).waits
          ∙ ap (λ p. map number_and_mode (queue v.name p)) (sym pending);
      holders = sym (ap (λ n. map lock_and_mode (locks n (held_of es'))) named ∙ ap (map lock_and_mode) one
          ∙ ap (λ m. (number, m) ∷ []) w.mode);
    })
    stands

-- ---- counts

-- one is fewer
pub one_fewer : (number : ℕ) (r : Request) (es : List Entry) → Found number es r
    → length (filter (other number) es) + 1 ≡ length es
one_fewer number r es f =
    let rest : filter (other number) es ≡ f.front ++ f.back = ap (filter (other number)) f.whole
    ∙ filter-append (other number) f.front ((number, r) ∷ f.back)
    ∙ rw (
      filter_whole (other number) f.front (all_weaker (λ (e : Entry). (e.0 == number) ≡ false)
          (λ e. other number e ≡ true) f.front (λ e no. rw no refl) f.low),
      number_same number,
      filter_whole (other number) f.back (all_weaker (λ (e : Entry). (e.0 == number) ≡ false)
          (λ e. other number e ≡ true) f.back (λ e no. rw no refl) f.high),
    ) refl in
    let less = ap length rest in
    let sum = length-append f.front f.back in
    let all = ap length f.whole in
    let more = length-append f.front ((number, r) ∷ f.back) in
    omega (arith, less, sum, all, more)
