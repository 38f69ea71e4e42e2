-- Settling a name, one grant at a time.
use Rattle.std.proofs.Common.{◌≡◌, ℕ, suc, zero, ◌+◌, ◌==◌, Bool, true, false, cond, List, [], ◌∷◌, ◌++◌, length, drop}
use Rattle.std.proofs.Common.{map, refl, ap, subst, sym, ◌∙◌, append_assoc, append-nil, arith}
use Rattle.std.specs.Prelude.{not, ◌||◌, filter, Option, Some, None}
use Rattle.std.specs.Str.{bytes_eq}
use Rattle.std.specs.List.{list_any, AllByRecursion}
use Rattle.std.specs.Cmp.Lexicographic.{same_text}
use Rattle.std.proofs.lemmas.Bool.Decides.{nat_tests}
use Rattle.std.proofs.lemmas.List.{length-append, map-append}
use Rattle.std.proofs.lemmas.List.Elements.{filter-append}
use Rattle.wl_machine.specs.declared.rows.HeldRow.{HeldRow}
use Rattle.wl_machine.specs.declared.rows.PendingRow.{PendingRow}
use Rattle.wl_machine.specs.Grants.{is_exclusive, any_exclusive, is_empty, granted_lock, grant_change, grants, locks}
use Rattle.wl_machine.specs.Grants.{queue, without_first, Lists, process_queue}
use Rattle.wl_machine.specs.Laws.{is_grantable, granted_in_turn}
use Rattle.wl_machine.proofs.InTurn.{in_turn}
use Rattle.wl_machine.proofs.Quiet.{queue_without, queue_other}
use Rattle.wl_index.proofs.Counting.{length-filter-not}
use Rattle.wl_types.specs.declared.phases.Phase.TheVariants.{Granted}
use Rattle.wl_index.specs.inner.Rows.{Apart}
use Rattle.wl_index.specs.inner.NameQueue.{Waiting, admits, next_grant, if_admitted, without_admitted, after_grant}
use Rattle.wl_index.specs.inner.NameQueue.{excludes, number_and_mode, lock_and_mode, Matches}
use Rattle.wl_index.proofs.Lists.{filter_whole, filter_none, filter_passed, all_weaker}
use Rattle.wl_index.proofs.Rows.{is_request}
use Rattle.wl_index.proofs.Local.{process_quiet}
use Rattle.wl_index.proofs.Standing.{Differ}

-- the lists after the first request of a name was granted
abbrev pub with_grant : Lists → List ℕ → PendingRow → Lists
with_grant lists name r = record {
  held = lists.held ++ granted_lock r ∷ [];
  pending = without_first name 1 lists.pending;
  changes = lists.changes ++ grant_change r ∷ [];
}

-- the first of a name's queue has that name
pub first_named : (name : List ℕ) (pending rest : List PendingRow) (r : PendingRow) → queue name pending ≡ r ∷ rest
    → bytes_eq r.name name ≡ true
first_named name pending rest r is = (subst (AllByRecursion (λ (x : PendingRow). bytes_eq x.name name ≡ true)) is
    (filter_passed (λ (x : PendingRow). bytes_eq x.name name) pending)).0

pub locks_more : (name : List ℕ) (held : List HeldRow) (r : PendingRow) → bytes_eq r.name name ≡ true
    → locks name (held ++ granted_lock r ∷ []) ≡ locks name held ++ granted_lock r ∷ []
locks_more name held r named = filter-append (λ (l : HeldRow). bytes_eq l.name name) held (granted_lock r ∷ [])
    ∙ rw named refl

without_more : (name : List ℕ) (count : ℕ) (xs : List PendingRow)
    → without_first name count (without_first name 1 xs) ≡ without_first name (suc count) xs
without_more name zero xs = refl
without_more name (suc count) [] = refl
without_more name (suc count) (x ∷ xs) = by (bytes_eq x.name name) refl (without_more name (suc count) xs)
  where
    by : (b : Bool) → bytes_eq x.name name ≡ b → without_first name (suc count) (without_first name 1 xs)
        ≡ without_first name (suc (suc count)) xs
        → without_first name (suc count) (cond b (without_first name 0 xs) (x ∷ without_first name 1 xs))
        ≡ cond b (without_first name (suc count) xs) (x ∷ without_first name (suc (suc count)) xs)
    by true h rest = refl
    by false h rest = rw h (ap (λ l. x ∷ l) rest)

-- a grant of the first leaves the rest to be granted
pub process_more : (lists : Lists) (name : List ℕ) (r : PendingRow) (rest : List PendingRow)
    → queue name lists.pending ≡ r ∷ rest → is_grantable (locks name lists.held) r ≡ true
    → process_queue lists name ≡ process_queue (with_grant lists name r) name
process_more lists name r rest is free =
    let named = first_named name lists.pending rest r is in
    let more : List PendingRow = granted_in_turn (locks name lists.held ++ granted_lock r ∷ []) rest in
    let now : grants (locks name lists.held) (queue name lists.pending)
    ≡ r ∷ more = ap (grants (locks name lists.held)) is ∙ sym (in_turn (locks name lists.held) (r ∷ rest))
    ∙ rw free refl in
    let left : queue name (without_first name 1 lists.pending) ≡ rest = queue_without name 1 lists.pending
    ∙ ap (drop 1) is in
    let then : grants (locks name (lists.held ++ granted_lock r ∷ [])) (queue name (without_first name 1 lists.pending))
    ≡ more = rw (locks_more name lists.held r named, left)
    (sym (in_turn (locks name lists.held ++ granted_lock r ∷ []) rest)) in
    rw (
      now,
      then,
      append_assoc lists.held (granted_lock r ∷ []) (map granted_lock more),
      append_assoc lists.changes (grant_change r ∷ []) (map grant_change more),
      without_more name (length more) lists.pending,
    ) refl

-- nothing waits, or the first may not be granted
pub process_still : (lists : Lists) (name : List ℕ) (r : PendingRow) (rest : List PendingRow)
    → queue name lists.pending ≡ r ∷ rest → is_grantable (locks name lists.held) r ≡ false
    → process_queue lists name ≡ lists
process_still lists name r rest is free = process_quiet lists name
    (ap (grants (locks name lists.held)) is ∙ sym (in_turn (locks name lists.held) (r ∷ rest)) ∙ rw free refl)

pub process_empty : (lists : Lists) (name : List ℕ) → queue name lists.pending ≡ [] → process_queue lists name ≡ lists
process_empty lists name is = process_quiet lists name (ap (grants (locks name lists.held)) is
    ∙ sym (in_turn (locks name lists.held) []))

-- ---- the first of a queue by its number

pub first_listed : (name : List ℕ) (pending rest : List PendingRow) (r : PendingRow) → queue name pending ≡ r ∷ rest
    → list_any (is_request r.number) pending ≡ true
first_listed name [] rest r is = absurd (cc)
first_listed name (x ∷ xs) rest r is = by (bytes_eq x.name name) refl (first_listed name xs rest r)
  where
    seen : (b : Bool) → bytes_eq x.name name ≡ b → cond b (x ∷ queue name xs) (queue name xs) ≡ r ∷ rest
    seen b h = sym (ap (λ c. cond c (x ∷ queue name xs) (queue name xs)) h) ∙ is

    or_true : (b : Bool) → (b || true) ≡ true
    or_true true = refl
    or_true false = refl

    same_number : (n m : ℕ) → n ≡ m → (n == m) ≡ true
    same_number n m e = grind (arith, nat_tests, e)

    first : x ∷ queue name xs ≡ r ∷ rest → x ≡ r
    first e = ap (λ l. head l x) e
      where
        head : List PendingRow → PendingRow → PendingRow
        head [] d = d
        head (y ∷ ys) d = y

    by : (b : Bool) → bytes_eq x.name name ≡ b → (queue name xs ≡ r ∷ rest → list_any (is_request r.number) xs ≡ true)
        → ((x.number == r.number) || list_any (is_request r.number) xs) ≡ true
    by true h later = ap (λ b. b || list_any (is_request r.number) xs)
        (same_number x.number r.number (ap (λ (y : PendingRow). y.number) (first (seen true h))))
    by false h later = ap (λ b. (x.number == r.number) || b) (later (seen false h)) ∙ or_true (x.number == r.number)

-- a first request and what is without it, where numbers differ
pub record First (name : List ℕ) (pending : List PendingRow) (r : PendingRow) : Type 0 where
  pub only : filter (is_request r.number) pending ≡ r ∷ []
  pub others : filter (λ (request : PendingRow). not (request.number == r.number)) pending
      ≡ without_first name 1 pending

pub first_alone : (name : List ℕ) (pending rest : List PendingRow) (r : PendingRow) → Apart pending
    → queue name pending ≡ r ∷ rest → First name pending r
first_alone name [] rest r apart is = absurd (cc)
first_alone name (x ∷ xs) rest r apart is = by (bytes_eq x.name name) refl (λ e. first_listed name xs rest r e)
    (first_alone name xs rest r apart.1)
  where
    seen : (b : Bool) → bytes_eq x.name name ≡ b → cond b (x ∷ queue name xs) (queue name xs) ≡ r ∷ rest
    seen b h = sym (ap (λ c. cond c (x ∷ queue name xs) (queue name xs)) h) ∙ is

    head : List PendingRow → PendingRow → PendingRow
    head [] d = d
    head (y ∷ ys) d = y

    same : (n : ℕ) → (n == n) ≡ true
    same n = grind (arith, nat_tests)

    own : Apart (x ∷ xs) → First name (x ∷ xs) x → x ≡ r → First name (x ∷ xs) r
    own all first e = subst (First name (x ∷ xs)) e first

    at_head : bytes_eq x.name name ≡ true → First name (x ∷ xs) x
    at_head h = record {
      only = rw (same x.number, filter_none (is_request x.number) xs apart.0) refl;
      others = rw (same x.number, h) (filter_whole (λ (request : PendingRow). not (request.number == x.number)) xs
          (all_weaker (λ (y : PendingRow). (y.number == x.number) ≡ false) (λ y. not (y.number == x.number) ≡ true) xs
          (λ y no. rw no refl) apart.0));
    }

    differs : list_any (is_request r.number) xs ≡ true → AllByRecursion
        (λ (y : PendingRow). (y.number == x.number) ≡ false) xs → (x.number == r.number) ≡ false
    differs there all = apart_from xs there all
      where
        apart_from : (l : List PendingRow) → list_any (is_request r.number) l ≡ true
            → AllByRecursion (λ (y : PendingRow). (y.number == x.number) ≡ false) l → (x.number == r.number) ≡ false
        apart_from [] none all = absurd (cc)
        apart_from (y ∷ l) some all = at (y.number == r.number) refl (apart_from l)
          where
            at : (b : Bool) → (y.number == r.number) ≡ b → (list_any (is_request r.number) l ≡ true
                → AllByRecursion (λ (y : PendingRow). (y.number == x.number) ≡ false) l
                → (x.number == r.number) ≡ false)
                → (x.number == r.number) ≡ false
            at true h later = let no = all.0 in grind (arith, nat_tests, h, no)
            at false h later = later (sym (ap (λ b. b || list_any (is_request r.number) l) h) ∙ some) all.1

    by : (b : Bool) → bytes_eq x.name name ≡ b → (queue name xs ≡ r ∷ rest → list_any (is_request r.number) xs ≡ true)
        → (queue name xs ≡ r ∷ rest → First name xs r) → First name (x ∷ xs) r
    by true h listed later = own apart (at_head h) (ap (λ l. head l x) (seen true h))
    by false h listed later =
        let tail = seen false h in
        let f = later tail in
        let no = differs (listed tail) apart.0 in
        record {
          only = rw no f.only;
          others = rw (no, h) (ap (λ l. x ∷ l) f.others);
        }

-- ---- a queue and the lists

pub empty_map : {X Y : Type 0} (f : X → Y) (l : List X) → is_empty (map f l) ≡ is_empty l
empty_map f [] = refl
empty_map f (x ∷ l) = refl

excludes_map : (l : List HeldRow) → excludes (map lock_and_mode l) ≡ any_exclusive l
excludes_map [] = refl
excludes_map (x ∷ l) = ap (λ b. is_exclusive x.mode || b) (excludes_map l)

-- a queue tells what may be granted
pub admits_grantable : (w : Waiting) (held : List HeldRow) (pending : List PendingRow) (r : PendingRow)
    → Matches w held pending → admits w r.mode ≡ is_grantable (locks w.name held) r
admits_grantable w held pending r matches = rw (
  matches.holders,
  empty_map lock_and_mode (locks w.name held),
  excludes_map (locks w.name held),
) refl

-- after a grant that it admits, the queue still matches
pub grant_matches : (w : Waiting) (lists : Lists) (r : PendingRow) (rest : List PendingRow)
    → Matches w lists.held lists.pending → queue w.name lists.pending ≡ r ∷ rest → admits w r.mode ≡ true
    → Matches (record w { waits = map number_and_mode rest; holders = w.holders ++ number_and_mode r ∷ [] })
    (with_grant lists w.name r).held (with_grant lists w.name r).pending
grant_matches w lists r rest matches is free =
    let named = first_named w.name lists.pending rest r is in
    let more = locks_more w.name lists.held r named in
    record {
      waits = sym (ap (map number_and_mode) (queue_without w.name 1 lists.pending ∙ ap (drop 1) is));
      holders = ap (λ l. l ++ number_and_mode r ∷ []) matches.holders
          ∙ sym (ap (map lock_and_mode) more ∙ map-append lock_and_mode (locks w.name lists.held)
          (granted_lock r ∷ []));
    }

-- ---- what the queue's next grant says of the lists

-- a grant's number is that of the first of the queue
pub record Next (w : Waiting) (lists : Lists) (granted : ℕ) : Type 0 where
  pub request : PendingRow
  pub rest : List PendingRow
  pub is : queue w.name lists.pending ≡ request ∷ rest
  pub number : request.number ≡ granted
  pub free : admits w request.mode ≡ true
  pub after : after_grant w ≡ record w {
    waits = map number_and_mode rest;
    holders = w.holders ++ number_and_mode request ∷ [];
  }

some_same : {X : Type 0} (x y : X) → Some x ≡ Some y → x ≡ y
some_same x y e = ap (λ o. or_else o x) e
  where
    or_else : {X : Type 0} → Option X → X → X
    or_else None d = d
    or_else (Some v) d = v

pub next_granted : (w : Waiting) (lists : Lists) (number : ℕ) → Matches w lists.held lists.pending
    → next_grant w ≡ Some number → Next w lists number
next_granted w lists number matches next = at_queue (queue w.name lists.pending) refl
  where
    at_queue : (q : List PendingRow) → queue w.name lists.pending ≡ q → Next w lists number
    at_queue [] is = absurd (let none : next_grant w ≡ None =
        ap (if_admitted w) (matches.waits ∙ ap (map number_and_mode) is) in cc (none, next))
    at_queue (r ∷ rest) is = at_mode (admits w r.mode) refl
      where
        waits : w.waits ≡ (r.number, r.mode) ∷ map number_and_mode rest
        waits = matches.waits ∙ ap (map number_and_mode) is

        found : cond (admits w r.mode) (Some r.number) None ≡ Some number
        found = sym (ap (if_admitted w) waits) ∙ next

        at_mode : (b : Bool) → admits w r.mode ≡ b → Next w lists number
        at_mode true h = record {
          request = r;
          rest = rest;
          is = is;
          number = some_same r.number number (sym (ap (λ b. cond b (Some r.number) None) h) ∙ found);
          free = h;
          after = ap (without_admitted w) waits ∙ ap (λ b. cond b
              (record w { waits = map number_and_mode rest; holders = w.holders ++ number_and_mode r ∷ [] }) w) h;
        }
        at_mode false h = absurd (let none : None ≡ Some number = sym (ap (λ b. cond b (Some r.number) None) h) ∙ found
            in cc)

-- where the queue grants none, its name is processed
pub none_granted : (w : Waiting) (lists : Lists) → Matches w lists.held lists.pending → next_grant w ≡ None
    → process_queue lists w.name ≡ lists
none_granted w lists matches next = at_queue (queue w.name lists.pending) refl
  where
    at_queue : (q : List PendingRow) → queue w.name lists.pending ≡ q → process_queue lists w.name ≡ lists
    at_queue [] is = process_empty lists w.name is
    at_queue (r ∷ rest) is = at_mode (admits w r.mode) refl
      where
        waits : w.waits ≡ (r.number, r.mode) ∷ map number_and_mode rest
        waits = matches.waits ∙ ap (map number_and_mode) is

        found : cond (admits w r.mode) (Some r.number) None ≡ None
        found = sym (ap (if_admitted w) waits) ∙ next

        at_mode : (b : Bool) → admits w r.mode ≡ b → process_queue lists w.name ≡ lists
        at_mode true h = absurd (let some : Some r.number ≡ None = sym (ap (λ b. cond b (Some r.number) None) h) ∙ found
            in cc)
        at_mode false h = process_still lists w.name r rest is
            (sym (admits_grantable w lists.held lists.pending r matches) ∙ h)

pub next_listed : (w : Waiting) (lists : Lists) (number : ℕ) → Matches w lists.held lists.pending
    → next_grant w ≡ Some number → list_any (is_request number) lists.pending ≡ true
next_listed w lists number matches next =
    let n = next_granted w lists number matches next in
    subst (λ k. list_any (is_request k) lists.pending ≡ true) n.number
    (first_listed w.name lists.pending n.rest n.request n.is)

-- one grant on the way to a processed name
pub record Step (w after : Waiting) (before now : Lists) : Type 0 where
  pub processed : process_queue now after.name ≡ process_queue before w.name
  pub matches : Matches after now.held now.pending
  pub name : after.name ≡ w.name
  pub differ : Differ w.name before.held now.held before.pending now.pending
  pub fewer : length now.pending + 1 ≡ length before.pending
  pub more : length now.held ≡ length before.held + 1

pub step_meets : (w after : Waiting) (before now : Lists) (number : ℕ) → Matches w before.held before.pending
    → next_grant w ≡ Some number → after ≡ after_grant w → Apart before.pending
    → now.held ≡ before.held ++ map granted_lock (filter (is_request number) before.pending)
    → now.pending ≡ filter (λ (request : PendingRow). not (request.number == number)) before.pending
    → now.changes ≡ before.changes ++ record { id = number; phase = Granted } ∷ [] → Step w after before now
step_meets w after before now number matches next after_is apart held pending changes =
    let n = next_granted w before number matches next in
    let alone = first_alone w.name before.pending n.rest n.request apart n.is in
    let only : filter (is_request number) before.pending ≡ n.request
    ∷ [] = subst (λ k. filter (is_request k) before.pending ≡ n.request ∷ []) n.number alone.only in
    let others : filter (λ (request : PendingRow). not (request.number == number)) before.pending
    ≡ without_first w.name 1 before.pending = subst (λ k. filter (λ (request : PendingRow). not (request.number == k))
    before.pending ≡ without_first w.name 1 before.pending) n.number alone.others in
    let free : is_grantable (locks w.name before.held) n.request
    ≡ true = sym (admits_grantable w before.held before.pending n.request matches) ∙ n.free in
    let lists : now ≡ with_grant before w.name n.request =
    lists_same now (with_grant before w.name n.request) (held ∙ ap (λ l. before.held ++ map granted_lock l) only)
    (pending ∙ others) (changes ∙ ap (λ k. before.changes ++ record { id = k; phase = Granted } ∷ []) (sym n.number))
    in
    let is : after ≡ record w {
      waits = map number_and_mode n.rest;
      holders = w.holders ++ number_and_mode n.request ∷ [];
    } = after_is ∙ n.after in
    let name : after.name ≡ w.name = ap (λ (x : Waiting). x.name) is in
    let both = length-filter-not (is_request number) before.pending in
    let one : length (filter (is_request number) before.pending) ≡ 1 = ap length only in
    let left : length now.pending ≡ length (filter (λ (request : PendingRow). not (request.number == number))
    before.pending) = ap length pending in
    record {
      processed = rw (lists, name) (sym (process_more before w.name n.request n.rest n.is free));
      matches = rw (is, lists) (grant_matches w before n.request n.rest matches n.is n.free);
      name = name;
      differ = λ m differs. (
        ap (λ (l : Lists). locks m l.held) lists ∙ filter-append (λ (l : HeldRow). bytes_eq l.name m) before.held
            (granted_lock n.request ∷ [])
            ∙ ap (λ b. locks m before.held ++ cond b (granted_lock n.request ∷ []) [])
            (ap (λ k. bytes_eq k m) (same_text n.request.name w.name
            (sym (first_named w.name before.pending n.rest n.request n.is))) ∙ differs)
            ∙ append-nil (locks m before.held),
        ap (λ (l : Lists). queue m l.pending) lists ∙ queue_other w.name m 1 before.pending differs,
      );
      fewer = omega (arith, both, one, left);
      more = ap length held ∙ length-append before.held (map granted_lock (filter (is_request number) before.pending))
          ∙ ap (λ l. length before.held + length (map granted_lock l)) only;
    }
  where
    lists_same : (a b : Lists) → a.held ≡ b.held → a.pending ≡ b.pending → a.changes ≡ b.changes → a ≡ b
    lists_same a b held pending changes = rw (← held, ← pending, ← changes) refl
