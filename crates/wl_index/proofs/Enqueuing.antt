-- A request comes: whether it may be granted at once, and what is then said of its number.
use Rattle.std.proofs.Common.{◌≡◌, ℕ, ◌<◌, ◌==◌, Bool, true, false, cond, List, [], ◌∷◌, ◌++◌, refl, ap, sym, ◌∙◌}
use Rattle.std.proofs.Common.{append-nil, arith}
use Rattle.std.specs.Prelude.{not, ◌&&◌, filter, Some}
use Rattle.std.specs.Str.{bytes_eq}
use Rattle.std.specs.List.{AllByRecursion}
use Rattle.std.specs.Map.{lookup}
use Rattle.std.specs.BTreeMap.{is_at}
use Rattle.std.specs.Ordering.{nat_cmp}
use Rattle.std.proofs.lemmas.Bool.Decides.{nat_tests}
use Rattle.std.proofs.lemmas.List.Elements.{filter-append}
use Rattle.wl_machine.specs.declared.rows.HeldRow.{HeldRow}
use Rattle.wl_machine.specs.declared.rows.PendingRow.{PendingRow}
use Rattle.wl_machine.specs.Grants.{is_exclusive, is_empty, grants, locks, queue}
use Rattle.wl_machine.specs.Laws.{is_grantable}
use Rattle.wl_machine.proofs.InTurn.{in_turn}
use Rattle.wl_number_map.proofs.Keyed.{same_number, number_same}
use Rattle.wl_index.specs.inner.GrantOrder.{by_grant_seq}
use Rattle.wl_index.proofs.GrantOrder.{by_grant_seq_all}
use Rattle.wl_index.specs.inner.Rows.{Entry, other, grant_seq_of, waiting, holding, request_row, lock_row, held_of}
use Rattle.wl_index.specs.inner.Rows.{pending_of}
use Rattle.wl_index.specs.inner.NameQueue.{Numbered, Waiting, Matches, admits, number_and_mode, lock_and_mode}
use Rattle.wl_index.specs.inner.Queues.{Placed, IsBelow}
use Rattle.wl_index.specs.inner.Locks.{QueueStands}
use Rattle.wl_index.proofs.Lists.{all_filter, all_map, all_weaker, filter_none, filter_whole}
use Rattle.wl_index.proofs.QueueProcessing.{admits_grantable, empty_map}

-- the numbers of each queue are those of live requests
pub queues_below : (next : ℕ) (es : List Entry) (touched : List ℕ) (queues : List Placed)
    → AllByRecursion (λ (e : Entry). e.0 < next) es → AllByRecursion (QueueStands (held_of es) (pending_of es) touched)
    queues → AllByRecursion (λ (e : Placed). IsBelow next e.1) queues
queues_below next es touched [] below all = tt
queues_below next es touched (e ∷ queues) below all =
    let waits = all_map (λ (n : Numbered). n.0 < next) number_and_mode (queue e.1.name (pending_of es))
    (all_filter (λ (q : PendingRow). q.number < next) (λ q. bytes_eq q.name e.1.name) (pending_of es)
    (all_map (λ (q : PendingRow). q.number < next) request_row (filter waiting es)
    (all_filter (λ (x : Entry). x.0 < next) waiting es below))) in
    let holders = all_map (λ (n : Numbered). n.0 < next) lock_and_mode (locks e.1.name (held_of es))
    (all_filter (λ (q : HeldRow). q.number < next) (λ q. bytes_eq q.name e.1.name) (held_of es)
    (all_map (λ (q : HeldRow). q.number < next) lock_row (by_grant_seq grant_seq_of (filter holding es))
    (by_grant_seq_all grant_seq_of (λ (x : Entry). x.0 < next) (filter holding es)
    (all_filter (λ (x : Entry). x.0 < next) holding es below)))) in
    ((rw all.0.matched.waits waits, rw all.0.matched.holders holders), queues_below next es touched queues below all.1)

-- ---- whether a request is available

grants_one : (held : List HeldRow) (row : PendingRow) → not (is_empty (grants held (row ∷ []))) ≡ is_grantable held row
grants_one held row = ap (λ l. not (is_empty l)) (sym (in_turn held (row ∷ []))) ∙ by (is_grantable held row)
  where
    by : (b : Bool) → not (is_empty (cond b (row ∷ []) [])) ≡ b
    by true = refl
    by false = refl

pub available_at : (w : Waiting) (held : List HeldRow) (pending : List PendingRow) (row : PendingRow)
    → Matches w held pending → w.name ≡ row.name → (is_empty w.waits && admits w row.mode)
    ≡ (is_empty (queue row.name pending) && not (is_empty (grants (locks row.name held) (row ∷ []))))
available_at w held pending row matches named =
    let q : is_empty w.waits ≡ is_empty (queue row.name pending) = ap is_empty matches.waits
    ∙ empty_map number_and_mode (queue w.name pending) ∙ ap (λ n. is_empty (queue n pending)) named in
    let a : admits w row.mode ≡ not (is_empty (grants (locks row.name held) (row ∷ []))) =
    admits_grantable w held pending row matches ∙ ap (λ n. is_grantable (locks n held) row) named
    ∙ sym (grants_one (locks row.name held) row) in
    rw (q, a) refl

pub available_new : (held : List HeldRow) (pending : List PendingRow) (row : PendingRow) → locks row.name held ≡ []
    → queue row.name pending ≡ [] → true ≡ (is_empty (queue row.name pending)
    && not (is_empty (grants (locks row.name held) (row ∷ []))))
available_new held pending row none empty = rw (none, empty) (sym (grants_one [] row ∙ by (is_exclusive row.mode)))
  where
    by : (b : Bool) → cond b true true ≡ true
    by true = refl
    by false = refl

-- ---- the last request

pub last_there : (es : List Entry) (e : Entry) → AllByRecursion (λ (x : Entry). x.0 < e.0) es
    → lookup (is_at (nat_cmp e.0)) (es ++ e ∷ []) ≡ Some e.1
last_there [] e below = rw (same_number e.0 e.0, number_same e.0) refl
last_there (x ∷ es) e below = let no : (x.0 == e.0) ≡ false = (let less = below.0 in grind (arith, nat_tests, less))
    in rw (same_number e.0 x.0, no) (last_there es e below.1)

pub last_gone : (es : List Entry) (e : Entry) → AllByRecursion (λ (x : Entry). x.0 < e.0) es
    → filter (other e.0) (es ++ e ∷ []) ≡ es
last_gone [] e below = rw (number_same e.0) refl
last_gone (x ∷ es) e below = let no : (x.0 == e.0) ≡ false = (let less = below.0 in grind (arith, nat_tests, less))
    in rw no (ap (λ l. x ∷ l) (last_gone es e below.1))

-- the last request is the only one of its number
pub last_waits : (es : List Entry) (r : PendingRow) → AllByRecursion (λ (x : Entry). x.0 < r.number) es
    → (filter (λ (q : PendingRow). q.number == r.number) (pending_of es ++ r ∷ []) ≡ r ∷ [])
    × (filter (λ (q : PendingRow). not (q.number == r.number)) (pending_of es ++ r ∷ []) ≡ pending_of es)
last_waits es r below =
    let apart : AllByRecursion (λ (q : PendingRow). (q.number == r.number) ≡ false) (pending_of es) =
    all_map (λ (q : PendingRow). (q.number == r.number) ≡ false) request_row (filter waiting es)
    (all_filter (λ (x : Entry). (x.0 == r.number) ≡ false) waiting es
    (all_weaker (λ (x : Entry). x.0 < r.number) (λ x. (x.0 == r.number) ≡ false) es
    (λ x less. grind (arith, nat_tests, less)) below)) in (
      filter-append (λ (q : PendingRow). q.number == r.number) (pending_of es) (r ∷ [])
          ∙ rw (
            filter_none (λ (q : PendingRow). q.number == r.number) (pending_of es) apart,
            number_same r.number,
          ) refl,
      filter-append (λ (q : PendingRow). not (q.number == r.number)) (pending_of es) (r ∷ [])
          ∙ rw (
            filter_whole (λ (q : PendingRow). not (q.number == r.number)) (pending_of es)
                (all_weaker (λ (q : PendingRow). (q.number == r.number) ≡ false)
                (λ q. not (q.number == r.number) ≡ true)
                (pending_of es) (λ q no. rw no refl) apart),
            number_same r.number,
          ) (append-nil (pending_of es)),
    )
