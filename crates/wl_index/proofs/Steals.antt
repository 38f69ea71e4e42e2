-- A steal is processed at its own name alone.
use Rattle.std.proofs.Common.{◌≡◌, ℕ, Bool, true, false, cond, List, [], ◌∷◌, ◌++◌, refl, ap, subst, sym, ◌∙◌}
use Rattle.std.proofs.Common.{append-nil}
use Rattle.std.specs.Prelude.{not, ◌&&◌, ◌||◌, filter, Option, Some, None, is_some}
use Rattle.std.specs.Str.{bytes_eq}
use Rattle.std.specs.List.{AllByRecursion}
use Rattle.std.specs.Cmp.Lexicographic.{same_text}
use Rattle.std.proofs.lemmas.Bool.{not-true}
use Rattle.std.proofs.lemmas.List.Elements.{filter-append}
use Rattle.wl_types.specs.declared.words.Mode.{Mode}
use Rattle.wl_types.specs.declared.words.Mode.TheVariants.{Exclusive, Shared}
use Rattle.wl_types.specs.declared.phases.Phase.TheVariants.{Stolen}
use Rattle.wl_types.specs.declared.refusal.Refusal.{Refusal}
use Rattle.wl_types.specs.declared.refusal.Refusal.TheVariants.{StealShared, ReservedName, StealIfAvailable}
use Rattle.wl_types.specs.declared.refusal.Refusal.TheVariants.{SignalCombined}
use Rattle.wl_types.specs.declared.ask.Ask.{Ask}
use Rattle.wl_types.specs.Refusals.{refuse_if, first_refusal}
use Rattle.wl_types.specs.Names.{is_reserved}
use Rattle.wl_types.specs.Asks.{is_shared}
use Rattle.wl_machine.specs.declared.rows.HeldRow.{HeldRow}
use Rattle.wl_machine.specs.declared.rows.PendingRow.{PendingRow}
use Rattle.wl_machine.specs.declared.command.Command.TheVariants as command
use Rattle.wl_machine.specs.declared.command.Reply.TheVariants as reply
use Rattle.wl_machine.specs.State.{State}
use Rattle.wl_machine.specs.Refusals.{refusal}
use Rattle.wl_machine.specs.Grants.{any_exclusive, grants, locks, queue, granted_lock, grant_change, Lists, lists_of}
use Rattle.wl_machine.specs.Grants.{process_queue, process_queues}
use Rattle.wl_machine.specs.Step.{Gives, with_name, new_request, steal_locks, lock_ends}
use Rattle.wl_machine.proofs.Reachable.{among_added}
use Rattle.wl_machine.proofs.Quiet.{quiet, grants_behind}
use Rattle.wl_machine.proofs.Lists.{same_bytes, other_bytes, filters_commute}
use Rattle.wl_index.proofs.Accepted.{first_none, request_accepted}
use Rattle.wl_index.proofs.Lists.{filter_whole, filter_none, all_weaker, filter_passed}
use Rattle.wl_index.proofs.Local.{process_one_name, process_all_quiet}
use Rattle.wl_index.proofs.Events.{with_lists, processed_is}

abbrev pub without_name : List ℕ → List HeldRow → List HeldRow
without_name name held = filter (λ lock. not (bytes_eq lock.name name)) held

others_apart : (name m : List ℕ) (l : List HeldRow) → bytes_eq m name ≡ false
    → AllByRecursion (λ (x : HeldRow). bytes_eq x.name m ≡ true) l
    → AllByRecursion (λ (x : HeldRow). not (bytes_eq x.name name) ≡ true) l
others_apart name m l differs all = all_weaker (λ (x : HeldRow). bytes_eq x.name m ≡ true)
    (λ x. not (bytes_eq x.name name) ≡ true) l (λ x own. ap (λ n. not (bytes_eq n name)) (same_text x.name m (sym own))
    ∙ ap not differs) all

locks_others : (name m : List ℕ) (held : List HeldRow) → bytes_eq m name ≡ false
    → locks m (without_name name held) ≡ locks m held
locks_others name m held differs =
    filters_commute (λ (x : HeldRow). bytes_eq x.name m) (λ x. not (bytes_eq x.name name)) held
    ∙ filter_whole (λ (x : HeldRow). not (bytes_eq x.name name)) (locks m held)
    (others_apart name m (locks m held) differs (filter_passed (λ (x : HeldRow). bytes_eq x.name m) held))

pub locks_own : (name : List ℕ) (held : List HeldRow) → locks name (without_name name held) ≡ []
locks_own name held =
    filter_none (λ (x : HeldRow). bytes_eq x.name name) (without_name name held)
    (all_weaker (λ (x : HeldRow). not (bytes_eq x.name name) ≡ true) (λ x. bytes_eq x.name name ≡ false)
    (without_name name held) (λ x no. not-true (bytes_eq x.name name) no)
    (filter_passed (λ (x : HeldRow). not (bytes_eq x.name name)) held))

queue_others : (pending : List PendingRow) (r : PendingRow) (m : List ℕ) → bytes_eq r.name m ≡ false
    → queue m (r ∷ pending) ≡ queue m pending
queue_others pending r m differs = rw differs refl

-- the lists where the request is first in its queue, and where it holds
abbrev pub before_steal : List HeldRow → List PendingRow → PendingRow → Lists
before_steal held pending r = lists_of (without_name r.name held) (r ∷ pending) (lock_ends Stolen (locks r.name held))

abbrev pub after_steal : List HeldRow → List PendingRow → PendingRow → Lists
after_steal held pending r = lists_of (without_name r.name held ++ granted_lock r ∷ []) pending
    (lock_ends Stolen (locks r.name held) ++ grant_change r ∷ [])

own_processed : (held : List HeldRow) (pending : List PendingRow) (r : PendingRow) → r.mode ≡ Exclusive
    → process_queue (before_steal held pending r) r.name ≡ after_steal held pending r
own_processed held pending r mode =
    let own = same_bytes r.name in
    let first : grants (locks r.name (without_name r.name held)) (queue r.name (r ∷ pending))
    ≡ r ∷ [] = rw (locks_own r.name held, own, mode) refl in
    rw (first, own) refl

-- processing all is processing the name
pub steal_processed : (names : List (List ℕ)) (held : List HeldRow) (pending : List PendingRow) (r : PendingRow)
    → r.mode ≡ Exclusive → ((m : List ℕ) → grants (locks m held) (queue m pending) ≡ [])
    → process_queues (after_steal held pending r) (with_name r.name names)
    ≡ process_queues (before_steal held pending r) (with_name r.name names)
steal_processed names held pending r mode still =
    process_all_quiet (with_name r.name names) (after_steal held pending r)
    (λ m. after_still m (bytes_eq m r.name) refl) ∙ sym (own_processed held pending r mode)
    ∙ sym (process_one_name r.name (with_name r.name names) (before_steal held pending r) (among_added r.name names)
    before_still)
  where
    before_still : (m : List ℕ) → bytes_eq m r.name ≡ false → quiet (before_steal held pending r) m ≡ []
    before_still m differs = ap (λ h. grants h (queue m (r ∷ pending))) (locks_others r.name m held differs)
        ∙ ap (grants (locks m held)) (queue_others pending r m (other_bytes r.name m differs)) ∙ still m

    after_still : (m : List ℕ) (b : Bool) → bytes_eq m r.name ≡ b → quiet (after_steal held pending r) m ≡ []
    after_still m true is =
        let same : m ≡ r.name = same_text m r.name (sym is) in
        let mine : locks r.name (without_name r.name held ++ granted_lock r ∷ [])
        ≡ granted_lock r ∷ [] = filter-append (λ (l : HeldRow). bytes_eq l.name r.name) (without_name r.name held)
        (granted_lock r ∷ []) ∙ rw (locks_own r.name held, same_bytes r.name) refl in
        let some : any_exclusive (locks r.name (without_name r.name held ++ granted_lock r ∷ []))
        ≡ true = ap any_exclusive mine ∙ rw mode refl in
        subst (λ n. quiet (after_steal held pending r) n ≡ []) (sym same)
        (grants_behind (locks r.name (without_name r.name held ++ granted_lock r ∷ [])) (queue r.name pending) some)
    after_still m false is =
        let other : locks m (without_name r.name held ++ granted_lock r ∷ [])
        ≡ locks m held = filter-append (λ (l : HeldRow). bytes_eq l.name m) (without_name r.name held)
        (granted_lock r ∷ []) ∙ rw (other_bytes r.name m is) (append-nil (locks m (without_name r.name held)))
        ∙ locks_others r.name m held is in
        ap (λ h. grants h (queue m pending)) other ∙ still m

pub steal_gives : (s : State) (agent : ℕ) (ask : Ask) (lists : Lists) → refusal s (command.Request agent ask) ≡ None
    → ask.steal ≡ true → ask.mode ≡ Exclusive → ((m : List ℕ) → grants (locks m s.held) (queue m s.pending) ≡ [])
    → lists ≡ process_queues (after_steal s.held s.pending (new_request s agent ask)) (with_name ask.name s.names)
    → Gives s (command.Request agent ask) (with_lists (steal_locks s (new_request s agent ask)) lists)
    (reply.Request s.next.request) lists.changes
steal_gives s agent ask lists accepted steals mode still is =
    let r = new_request s agent ask in
    rw (accepted, steals) (processed_is (steal_locks s r) (lock_ends Stolen (locks r.name s.held))
    (reply.Request s.next.request) lists (is ∙ steal_processed s.names s.held s.pending r mode still))

-- ---- a request that steals, and that nothing refuses, is exclusive

third_none : (a b c : Option Refusal) (rest : List (Option Refusal)) → first_refusal (a ∷ b ∷ c ∷ rest) ≡ None
    → c ≡ None
third_none a b c rest none = (first_none c rest (first_none b (c ∷ rest) (first_none a (b ∷ c ∷ rest) none).1).1).0

pub steal_exclusive : (s : State) (agent : ℕ) (ask : Ask) → refusal s (command.Request agent ask) ≡ None
    → ask.steal ≡ true → ask.mode ≡ Exclusive
steal_exclusive s agent ask accepted steals =
    let asked = (request_accepted s agent ask accepted).allowed in
    let mode : refuse_if (ask.steal && is_shared ask.mode) StealShared
    ≡ None = third_none (refuse_if (is_reserved ask.name) ReservedName)
    (refuse_if (ask.steal && ask.if_available) StealIfAvailable)
    (refuse_if (ask.steal && is_shared ask.mode) StealShared)
    (refuse_if (is_some ask.signal && (ask.steal || ask.if_available)) SignalCombined ∷ []) asked in
    by ask.mode refl mode
  where
    by : (m : Mode) → ask.mode ≡ m → cond (ask.steal && is_shared ask.mode) (Some StealShared) None ≡ None
        → ask.mode ≡ Exclusive
    by Exclusive h none = h
    by Shared h none = absurd (
        let both : (ask.steal && is_shared ask.mode) ≡ true = rw (steals, h) refl in
        let no : Some StealShared ≡ None = sym (ap (λ (b : Bool). cond b (Some StealShared) None) both) ∙ none in
        cc (no))
