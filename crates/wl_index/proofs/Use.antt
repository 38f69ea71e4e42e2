-- Whether a name is in use, by its queue; and what processing another name leaves of it.
use Rattle.std.proofs.Common.{◌≡◌, ℕ, Bool, true, false, cond, List, [], ◌∷◌, length, map, refl, ap, sym, ◌∙◌}
use Rattle.std.specs.Prelude.{not, ◌&&◌, ◌||◌, filter}
use Rattle.std.specs.Str.{bytes_eq}
use Rattle.std.specs.List.{list_any}
use Rattle.std.specs.Cmp.Lexicographic.{same_text}
use Rattle.wl_machine.specs.declared.rows.HeldRow.{HeldRow}
use Rattle.wl_machine.specs.declared.rows.PendingRow.{PendingRow}
use Rattle.wl_machine.specs.Grants.{is_empty, grants, locks, queue, Lists, process_queue, process_queues, in_use}
use Rattle.wl_machine.proofs.Quiet.{locks_unprocessed, queue_other}
use Rattle.wl_machine.proofs.Lists.{or_false, other_bytes}
use Rattle.wl_index.specs.inner.NameQueue.{Waiting, Matches, is_busy, lock_and_mode, number_and_mode}
use Rattle.wl_index.proofs.Local.{process_quiet}

any_own : {X : Type 0} (p : X → Bool) (l : List X) → list_any p (filter p l) ≡ list_any p l
any_own p [] = refl
any_own p (x ∷ l) = by (p x) refl (any_own p l)
  where
    by : (b : Bool) → p x ≡ b → list_any p (filter p l) ≡ list_any p l
        → list_any p (cond b (x ∷ filter p l) (filter p l)) ≡ (p x || list_any p l)
    by true h rest = rw h refl
    by false h rest = rw h rest

pub in_use_same : (m : List ℕ) (held other_held : List HeldRow) (pending other_pending : List PendingRow)
    → locks m held ≡ locks m other_held → queue m pending ≡ queue m other_pending
    → in_use held pending m ≡ in_use other_held other_pending m
in_use_same m held other_held pending other_pending same_locks same_queue =
    let one : list_any (λ lock. bytes_eq lock.name m) held ≡ list_any (λ lock. bytes_eq lock.name m) other_held =
    sym (any_own (λ (lock : HeldRow). bytes_eq lock.name m) held)
    ∙ ap (list_any (λ (lock : HeldRow). bytes_eq lock.name m)) same_locks
    ∙ any_own (λ (lock : HeldRow). bytes_eq lock.name m) other_held in
    let two : list_any (λ request. bytes_eq request.name m) pending
    ≡ list_any (λ request. bytes_eq request.name m) other_pending =
    sym (any_own (λ (request : PendingRow). bytes_eq request.name m) pending)
    ∙ ap (list_any (λ (request : PendingRow). bytes_eq request.name m)) same_queue
    ∙ any_own (λ (request : PendingRow). bytes_eq request.name m) other_pending in
    rw (one, two) refl

filter_empty : {X : Type 0} (p : X → Bool) (l : List X) → list_any p l ≡ false → filter p l ≡ []
filter_empty p [] none = refl
filter_empty p (x ∷ l) none = by (p x) refl (filter_empty p l)
  where
    by : (b : Bool) → p x ≡ b → (list_any p l ≡ false → filter p l ≡ []) → cond b (x ∷ filter p l) (filter p l) ≡ []
    by true h rest = absurd (let no : true ≡ false = sym (ap (λ b. b || list_any p l) h) ∙ none in cc)
    by false h rest = rest (sym (ap (λ b. b || list_any p l) h) ∙ none)

pub unused_empty : (m : List ℕ) (held : List HeldRow) (pending : List PendingRow) → in_use held pending m ≡ false
    → (locks m held ≡ []) × (queue m pending ≡ [])
unused_empty m held pending none =
    let parts = or_false (list_any (λ lock. bytes_eq lock.name m) held)
    (list_any (λ request. bytes_eq request.name m) pending) none in (
      filter_empty (λ (lock : HeldRow). bytes_eq lock.name m) held parts.0,
      filter_empty (λ (request : PendingRow). bytes_eq request.name m) pending parts.1,
    )

-- ---- processing one name, seen from another

pub process_queue_other : (lists : Lists) (name m : List ℕ) → bytes_eq name m ≡ false
    → queue m (process_queue lists name).pending ≡ queue m lists.pending
process_queue_other lists name m differs = queue_other name m
    (length (grants (locks name lists.held) (queue name lists.pending))) lists.pending differs

pub use_other : (lists : Lists) (name m : List ℕ) → bytes_eq m name ≡ false
    → in_use (process_queue lists name).held (process_queue lists name).pending m ≡ in_use lists.held lists.pending m
use_other lists name m differs =
    in_use_same m (process_queue lists name).held lists.held (process_queue lists name).pending lists.pending
    (locks_unprocessed lists name m (other_bytes name m differs))
    (process_queue_other lists name m (other_bytes name m differs))

-- ---- by the queue

busy_held : (h : List HeldRow) (q : List PendingRow) → not (is_empty (map lock_and_mode h)
    && is_empty (map number_and_mode q)) ≡ (list_any (λ lock. true) h || list_any (λ request. true) q)
busy_held [] [] = refl
busy_held [] (r ∷ q) = refl
busy_held (l ∷ h) q = refl

any_passed : {X : Type 0} (p : X → Bool) (l : List X) → list_any (λ x. true) (filter p l) ≡ list_any p l
any_passed p [] = refl
any_passed p (x ∷ l) = by (p x) (any_passed p l)
  where
    by : (b : Bool) → list_any (λ x. true) (filter p l) ≡ list_any p l
        → list_any (λ x. true) (cond b (x ∷ filter p l) (filter p l)) ≡ (b || list_any p l)
    by true rest = refl
    by false rest = rest

pub busy_in_use : (w : Waiting) (held : List HeldRow) (pending : List PendingRow) → Matches w held pending
    → is_busy w ≡ in_use held pending w.name
busy_in_use w held pending matches =
    rw (
      matches.waits,
      matches.holders,
      busy_held (locks w.name held) (queue w.name pending),
      any_passed (λ (lock : HeldRow). bytes_eq lock.name w.name) held,
      any_passed (λ (request : PendingRow). bytes_eq request.name w.name) pending,
    ) refl

-- a name out of use stays so
pub stays_unused : (names : List (List ℕ)) (lists : Lists) (m : List ℕ) → in_use lists.held lists.pending m ≡ false
    → in_use (process_queues lists names).held (process_queues lists names).pending m ≡ false
stays_unused [] lists m unused = unused
stays_unused (n ∷ names) lists m unused = stays_unused names (process_queue lists n) m (by (bytes_eq m n) refl)
  where
    by : (b : Bool) → bytes_eq m n ≡ b → in_use (process_queue lists n).held (process_queue lists n).pending m ≡ false
    by true h =
        let same : m ≡ n = same_text m n (sym h) in
        let empty = unused_empty m lists.held lists.pending unused in
        let none : grants (locks n lists.held) (queue n lists.pending)
        ≡ [] = ap (λ k. grants (locks k lists.held) (queue k lists.pending)) (sym same)
        ∙ ap (λ h. grants h (queue m lists.pending)) empty.0 ∙ ap (grants []) empty.1 in
        ap (λ (l : Lists). in_use l.held l.pending m) (process_quiet lists n none) ∙ unused
    by false h = use_other lists n m h ∙ unused
