-- A lock is taken: nothing else changes.
use Rattle.std.proofs.Common.{◌≡◌, ℕ, ◌==◌, Bool, true, false, List, [], ◌∷◌, map, refl, ap, sym, ◌∙◌}
use Rattle.std.specs.Prelude.{not, ◌&&◌, ◌||◌}
use Rattle.std.specs.Str.{bytes_eq}
use Rattle.std.specs.List.{list_any}
use Rattle.wl_machine.specs.declared.rows.HeldRow.{HeldRow}
use Rattle.wl_machine.specs.declared.rows.PendingRow.{PendingRow}
use Rattle.wl_machine.specs.Grants.{any_exclusive, grants, in_use, is_empty, is_exclusive, locks, queue}
use Rattle.wl_machine.specs.Step.{is_untaken, with_taken}
use Rattle.wl_machine.proofs.Lists.{filter_map}
use Rattle.wl_index.specs.inner.NameQueue.{lock_and_mode}
use Rattle.wl_index.specs.inner.Queues.{Placed}
use Rattle.wl_index.specs.inner.Locks.{IsQuiet, QueueStands, Stands}
use Rattle.wl_index.proofs.Lists.{all_weaker, filter_like}

taken_same : {X : Type 0} (f : HeldRow → X) (id : ℕ) (l : HeldRow) → ((b : Bool) → f (record l { taken = b }) ≡ f l)
    → f (with_taken id l) ≡ f l
taken_same f id l same = same (l.taken || (l.number == id))

pub locks_taken : (id : ℕ) (m : List ℕ) (held : List HeldRow)
    → locks m (map (with_taken id) held) ≡ map (with_taken id) (locks m held)
locks_taken id m held =
    filter_map (λ (l : HeldRow). bytes_eq l.name m) (with_taken id) held
    ∙ ap (map (with_taken id)) (filter_like (λ l. bytes_eq (with_taken id l).name m)
    (λ (l : HeldRow). bytes_eq l.name m) (λ l. ap (λ n. bytes_eq n m)
    (taken_same (λ (x : HeldRow). x.name) id l (λ b. refl))) held)

exclusive_taken : (id : ℕ) (l : List HeldRow) → any_exclusive (map (with_taken id) l) ≡ any_exclusive l
exclusive_taken id [] = refl
exclusive_taken id (x ∷ l) = rw (
  taken_same (λ (y : HeldRow). is_exclusive y.mode) id x (λ b. refl),
  exclusive_taken id l,
) refl

empty_taken : (id : ℕ) (l : List HeldRow) → is_empty (map (with_taken id) l) ≡ is_empty l
empty_taken id [] = refl
empty_taken id (x ∷ l) = refl

grants_taken : (id : ℕ) (h : List HeldRow) (q : List PendingRow) → grants (map (with_taken id) h) q ≡ grants h q
grants_taken id h q = rw (exclusive_taken id h, empty_taken id h) refl

use_taken : (id : ℕ) (held : List HeldRow) (pending : List PendingRow) (m : List ℕ)
    → in_use (map (with_taken id) held) pending m ≡ in_use held pending m
use_taken id held pending m = ap (λ b. b || list_any (λ request. bytes_eq request.name m) pending) (names_taken held)
  where
    names_taken : (l : List HeldRow) → list_any (λ lock. bytes_eq lock.name m) (map (with_taken id) l)
        ≡ list_any (λ lock. bytes_eq lock.name m) l
    names_taken [] = refl
    names_taken (x ∷ l) = rw (taken_same (λ (y : HeldRow). bytes_eq y.name m) id x (λ b. refl), names_taken l) refl

numbered_taken : (id : ℕ) (l : List HeldRow) → map lock_and_mode (map (with_taken id) l) ≡ map lock_and_mode l
numbered_taken id [] = refl
numbered_taken id (x ∷ l) = ap (λ t. lock_and_mode x ∷ t) (numbered_taken id l)

pub stands_taken : (id : ℕ) (queues : List Placed) (held : List HeldRow) (pending : List PendingRow) (touched : List ℕ)
    → Stands queues held pending touched → Stands queues (map (with_taken id) held) pending touched
stands_taken id queues held pending touched stands = record {
  are = stands.are;
  each = all_weaker (QueueStands held pending touched) (QueueStands (map (with_taken id) held) pending touched) queues
      (λ e q. record {
        matched = record {
          waits = q.matched.waits;
          holders = q.matched.holders ∙ sym (ap (map lock_and_mode) (locks_taken id e.1.name held)
              ∙ numbered_taken id (locks e.1.name held));
        };
        quiet = λ out. ap (λ h. grants h (queue e.1.name pending)) (locks_taken id e.1.name held)
            ∙ grants_taken id (locks e.1.name held) (queue e.1.name pending) ∙ q.quiet out;
        used = λ out. use_taken id held pending e.1.name ∙ q.used out;
      }) stands.each;
  known = λ m none. let k = stands.known m none in (locks_taken id m held ∙ ap (map (with_taken id)) k.0, k.1);
}

pub quiet_taken : (id : ℕ) (held : List HeldRow) (pending : List PendingRow) → IsQuiet held pending
    → IsQuiet (map (with_taken id) held) pending
quiet_taken id held pending quiet m = ap (λ h. grants h (queue m pending)) (locks_taken id m held)
    ∙ grants_taken id (locks m held) (queue m pending) ∙ quiet m

flag_stays : (here taken : Bool) → (here && not taken) ≡ false → (taken || here) ≡ taken
flag_stays true true none = refl
flag_stays true false none = absurd (cc)
flag_stays false true none = refl
flag_stays false false none = refl

-- where there is no such lock, nothing changes
pub taken_none : (id : ℕ) (held : List HeldRow) → list_any (is_untaken id) held ≡ false
    → map (with_taken id) held ≡ held
taken_none id [] none = refl
taken_none id (l ∷ held) none = by (is_untaken id l) refl (taken_none id held)
  where
    by : (b : Bool) → is_untaken id l ≡ b → (list_any (is_untaken id) held ≡ false → map (with_taken id) held ≡ held)
        → record l { taken = l.taken || (l.number == id) } ∷ map (with_taken id) held ≡ l ∷ held
    by true h rest = absurd (let no : true ≡ false = sym (ap (λ b. b || list_any (is_untaken id) held) h) ∙ none in cc)
    by false h rest = rw (
      flag_stays (l.number == id) l.taken h,
      rest (sym (ap (λ b. b || list_any (is_untaken id) held) h) ∙ none),
    ) refl
