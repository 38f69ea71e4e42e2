-- What a walk over numbers finds in the table: all rows of the requests and locks that have these numbers.
use Rattle.std.proofs.Common.{◌≡◌, ℕ, ◌==◌, false, List, [], ◌∷◌, map, refl, ap, sym, ◌∙◌, arith}
use Rattle.std.specs.Prelude.{filter, Option, Some, None}
use Rattle.std.specs.Option.{IsSome, IfSome}
use Rattle.std.specs.Str.{bytes_eq}
use Rattle.std.specs.List.{flat_map, AllByRecursion}
use Rattle.std.specs.List.Sorted.{IsStrictlySortedBy}
use Rattle.std.specs.Map.{keys_of, lookup}
use Rattle.std.specs.BTreeMap.{is_at}
use Rattle.std.specs.Ordering.{nat_cmp}
use Rattle.std.specs.declared.cmp.Ordering.TheVariants.{Less}
use Rattle.std.proofs.lemmas.Bool.Decides.{nat_tests}
use Rattle.std.proofs.lemmas.Map.Keys.{sorted_head, sorted_tail}
use Rattle.wl_types.specs.declared.infos.LockInfo.{LockInfo}
use Rattle.wl_machine.specs.Grants.{queue}
use Rattle.wl_machine.specs.Step.{lock_info, request_info}
use Rattle.wl_machine.proofs.Lists.{filter_map, map_twice}
use Rattle.wl_index.specs.declared.request.Request.{Request}
use Rattle.wl_index.specs.inner.NameQueue.{Numbered, number_and_mode}
use Rattle.wl_index.specs.inner.GrantOrder.{by_grant_seq}
use Rattle.wl_index.proofs.GrantOrder.{by_grant_seq_all}
use Rattle.wl_index.specs.inner.Rows.{Entry, waiting, holding, grant_seq_of, request_row, lock_row, pending_of, held_of}
use Rattle.wl_index.proofs.Lists.{all_filter}
use Rattle.wl_number_map.proofs.Keyed.{same_number, number_same}

-- a request or a lock as a snapshot shows it
abbrev pub info : Entry → LockInfo
info e = record { name = e.1.name; mode = e.1.mode; client = e.1.agent }

-- whether the table has the number
abbrev pub Stands : List Entry → ℕ → Type 0
Stands es number = IsSome (lookup (is_at (nat_cmp number)) es)

-- whether the table has the entry
abbrev pub Finds : List Entry → Entry → Type 0
Finds es e = lookup (is_at (nat_cmp e.0)) es ≡ Some e.1

abbrev pub said : {X : Type 0} → (Entry → X) → ℕ → Option Request → List X
said f number None = []
said f number (Some r) = f (number, r) ∷ []

-- what f says of the entries of these numbers
abbrev pub found_at : {X : Type 0} → (Entry → X) → List Entry → List ℕ → List X
found_at f es numbers = flat_map (λ n. said f n (lookup (is_at (nat_cmp n)) es)) numbers

pub said_one : {X : Type 0} (f : Entry → X) (number : ℕ) (x : X) (o : Option Request) → IsSome o
    → IfSome o (λ r. x ≡ f (number, r)) → said f number o ≡ x ∷ []
said_one f number x None some is = absurd (cc)
said_one f number x (Some r) some is = ap (λ y. y ∷ []) (sym is)

-- ---- each entry is found

lookup_later : (x : Entry) (es rest : List Entry) → AllByRecursion (λ y. nat_cmp x.0 y ≡ Less) (keys_of rest)
    → AllByRecursion (Finds es) rest → AllByRecursion (Finds (x ∷ es)) rest
lookup_later x es [] above found = tt
lookup_later x es (e ∷ rest) above found =
    let apart : (x.0 == e.0) ≡ false = grind (arith, nat_tests, above.0) in
    (rw (same_number e.0 x.0, apart) found.0, lookup_later x es rest above.1 found.1)

pub all_found : (es : List Entry) → IsStrictlySortedBy nat_cmp (keys_of es) → AllByRecursion (Finds es) es
all_found [] sorted = tt
all_found (x ∷ es) sorted = (
  rw (same_number x.0 x.0, number_same x.0) refl,
  lookup_later x es es (sorted_head nat_cmp x.0 (keys_of es) sorted)
      (all_found es (sorted_tail nat_cmp x.0 (keys_of es) sorted)),
)

-- ---- entries by their numbers

pub numbers_stand : (es some : List Entry) → AllByRecursion (Finds es) some
    → AllByRecursion (Stands es) (map (λ e. e.0) some)
numbers_stand es [] found = tt
numbers_stand es (e ∷ some) found = (rw found.0 refl, numbers_stand es some found.1)

pub numbers_say : {X : Type 0} (f : Entry → X) (es some : List Entry) → AllByRecursion (Finds es) some
    → found_at f es (map (λ e. e.0) some) ≡ map f some
numbers_say f es [] found = refl
numbers_say f es (e ∷ some) found = rw found.0 (ap (λ l. f e ∷ l) (numbers_say f es some found.1))

-- ---- a name's queue

abbrev queued : List ℕ → List Entry → List Entry
queued name es = filter (λ e. bytes_eq (request_row e).name name) (filter waiting es)

queue_is : (name : List ℕ) (es : List Entry) → queue name (pending_of es) ≡ map request_row (queued name es)
queue_is name es = filter_map (λ request. bytes_eq request.name name) request_row (filter waiting es)

queue_numbers : (name : List ℕ) (es : List Entry) → keys_of (map number_and_mode (queue name (pending_of es)))
    ≡ map (λ e. e.0) (queued name es)
queue_numbers name es =
    ap (λ l. keys_of (map number_and_mode l)) (queue_is name es)
    ∙ ap keys_of (map_twice number_and_mode request_row (queued name es))
    ∙ map_twice (λ (n : Numbered). n.0) (λ e. number_and_mode (request_row e)) (queued name es)

queued_found : (name : List ℕ) (es : List Entry) → IsStrictlySortedBy nat_cmp (keys_of es)
    → AllByRecursion (Finds es) (queued name es)
queued_found name es sorted = all_filter (Finds es) (λ e. bytes_eq (request_row e).name name) (filter waiting es)
    (all_filter (Finds es) waiting es (all_found es sorted))

pub queue_stands : (name : List ℕ) (es : List Entry) → IsStrictlySortedBy nat_cmp (keys_of es)
    → AllByRecursion (Stands es) (keys_of (map number_and_mode (queue name (pending_of es))))
queue_stands name es sorted = rw (queue_numbers name es) (numbers_stand es (queued name es)
    (queued_found name es sorted))

pub queue_shown : (name : List ℕ) (es : List Entry) → IsStrictlySortedBy nat_cmp (keys_of es)
    → found_at info es (keys_of (map number_and_mode (queue name (pending_of es))))
    ≡ map request_info (queue name (pending_of es))
queue_shown name es sorted =
    ap (found_at info es) (queue_numbers name es) ∙ numbers_say info es (queued name es) (queued_found name es sorted)
    ∙ sym (ap (map request_info) (queue_is name es) ∙ map_twice request_info request_row (queued name es))

-- ---- the locks

abbrev granted : List Entry → List Entry
granted es = by_grant_seq grant_seq_of (filter holding es)

lock_numbers : (es : List Entry) → map (λ lock. lock.number) (held_of es) ≡ map (λ e. e.0) (granted es)
lock_numbers es = map_twice (λ lock. lock.number) lock_row (granted es)

granted_found : (es : List Entry) → IsStrictlySortedBy nat_cmp (keys_of es) → AllByRecursion (Finds es) (granted es)
granted_found es sorted = by_grant_seq_all grant_seq_of (Finds es) (filter holding es)
    (all_filter (Finds es) holding es (all_found es sorted))

pub locks_stand : (es : List Entry) → IsStrictlySortedBy nat_cmp (keys_of es)
    → AllByRecursion (Stands es) (map (λ lock. lock.number) (held_of es))
locks_stand es sorted = rw (lock_numbers es) (numbers_stand es (granted es) (granted_found es sorted))

pub locks_shown : (es : List Entry) → IsStrictlySortedBy nat_cmp (keys_of es)
    → found_at info es (map (λ lock. lock.number) (held_of es)) ≡ map lock_info (held_of es)
locks_shown es sorted =
    ap (found_at info es) (lock_numbers es) ∙ numbers_say info es (granted es) (granted_found es sorted)
    ∙ sym (map_twice lock_info lock_row (granted es))

pub locks_copied : (es : List Entry) → IsStrictlySortedBy nat_cmp (keys_of es)
    → found_at lock_row es (map (λ lock. lock.number) (held_of es)) ≡ held_of es
locks_copied es sorted = ap (found_at lock_row es) (lock_numbers es)
    ∙ numbers_say lock_row es (granted es) (granted_found es sorted)
