-- An abort, lock by lock.
use Rattle.std.proofs.Common.{◌≡◌, ℕ, suc, ◌+◌, ◌<◌, ◌≤◌, nat_le, List, [], ◌∷◌, ◌++◌, length, map, refl, arith, true}
use Rattle.std.proofs.Common.{false, sym, ap, ◌∙◌, cond, eq-eqb, ne_eqb, append-nil, append_assoc, Bool, subst}
use Rattle.std.proofs.Common.{length-append}
use Rattle.std.specs.Prelude.{◌==◌, ◌&&◌, filter, not, Some, None}
use Rattle.std.proofs.Math.Bool.{or-true, or-false}
use Rattle.std.proofs.lemmas.Bool.Decides.{nat_tests}
use Rattle.std.proofs.lemmas.List.{length-map, map-append}
use Rattle.std.proofs.lemmas.List.Elements.{filter-append}
use native.Mathlib.Decide.{ℕ_discrete}
use Rattle.wl_types.specs.declared.words.Reason.{Reason}
use Rattle.wl_types.specs.declared.phases.Phase.TheVariants.{Granted, Taken, Aborted}
use Rattle.wl_types.specs.declared.answers.TakeAnswer.{TakeAnswer}
use Rattle.wl_types.specs.declared.answers.TakeAnswer.TheVariants as take_answer
use Rattle.wl_machine.specs.declared.command.Command.{Command}
use Rattle.wl_machine.specs.declared.command.Command.TheVariants.{Take}
use Rattle.wl_machine.specs.declared.command.Reply.TheVariants as reply
use Rattle.wl_machine.specs.State.{State}
use Rattle.wl_machine.specs.declared.rows.HeldRow.{HeldRow}
use Rattle.wl_machine.specs.Least.{IsLeast, above}
use Rattle.wl_machine.specs.Step.{StepResult, Gives, step, state_after, is_abortable, untaken_numbers}
use Rattle.wl_machine.specs.OneMove.{phases_in}
use Rattle.wl_machine.specs.Standing.{IsStanding, is_in}
use Rattle.wl_machine.proofs.Standing.{standing_by_step}
use Rattle.wl_machine.proofs.Least.{in_filter}
use Rattle.wl_machine.proofs.Untaken.{untaken_distinct, untaken_granted, taken_untaken, taken_phases, untaken_taken}
use Rattle.wl_journal.specs.declared.entry.Entry.{Entry}
use Rattle.wl_journal.specs.Books.{Book, Appends}
use Rattle.wl_journal.specs.History.{recorded}
use Rattle.wl_journal.proofs.Sums.{length-filter-le}
use Rattle.wl_manager.specs.Keepers.{Kept, phases_at, cells_at}
use Rattle.wl_manager.specs.Aborts.{Found, numbers_of, taken, take_entry}
use Rattle.wl_manager.specs.inner.Aborts.{aborted, Tried, TriedAll}
use Rattle.wl_manager.proofs.Trying.{up_to, none_rise, in_pushed, left_without, rising_fewer, aborted_left}
use Rattle.wl_manager.proofs.Trying.{none_untried, next_left, next_high, next_fresh, next_order}

-- one lock more was found
aborted_pushed : (found : Found) (id : ℕ) (b : Bool) → aborted (found ++ (id, b) ∷ [])
    ≡ aborted found ++ cond b [] (id ∷ [])
aborted_pushed found id b =
    ap (map (λ (lock : ℕ × Bool). lock.0)) (filter-append (λ (lock : ℕ × Bool). not lock.1) found ((id, b) ∷ []))
    ∙ map-append (λ (lock : ℕ × Bool). lock.0) (filter (λ lock. not lock.1) found)
    (filter (λ lock. not lock.1) ((id, b) ∷ [])) ∙ ap (λ (xs : List ℕ). aborted found ++ xs) (one b)
  where
    one : (b : Bool) → map (λ (lock : ℕ × Bool). lock.0) (filter (λ lock. not lock.1) ((id, b) ∷ []))
        ≡ cond b [] (id ∷ [])
    one true = refl
    one false = refl

taken_pushed : (found : Found) (id : ℕ) (b : Bool) → taken (found ++ (id, b) ∷ []) ≡ taken found ++ cond b (id ∷ []) []
taken_pushed found id b =
    ap (map (λ (lock : ℕ × Bool). lock.0)) (filter-append (λ (lock : ℕ × Bool). lock.1) found ((id, b) ∷ []))
    ∙ map-append (λ (lock : ℕ × Bool). lock.0) (filter (λ lock. lock.1) found) (filter (λ lock. lock.1) ((id, b) ∷ []))
    ∙ ap (λ (xs : List ℕ). taken found ++ xs) (one b)
  where
    one : (b : Bool) → map (λ (lock : ℕ × Bool). lock.0) (filter (λ lock. lock.1) ((id, b) ∷ [])) ≡ cond b (id ∷ []) []
    one true = refl
    one false = refl

one_more : (commands : List Command) (s : State) (command : Command)
    → state_after (commands ++ command ∷ []) s ≡ (step (state_after commands s) command).state
one_more [] s command = refl
one_more (c ∷ commands) s command = one_more commands (step s c).state command

-- nothing was tried
pub untried : (book : Book) (kept : Kept) (agent signal : ℕ) (reason : Reason) → IsStanding book.state
    → phases_in book.state 0 ≡ [] → ((id : ℕ) → phases_at id kept ≡ phases_in book.state id)
    → Tried book kept agent signal reason book kept [] (up_to 0 (untaken_numbers book.state agent signal))
untried book kept agent signal reason standing from_one published = record {
  order = record {
    rising = none_rise;
    same = λ id. sym (in_filter (λ n. nat_le n 0)
        (untaken_numbers book.state agent signal) id ∙ none_low id (ℕ_discrete id 0)
        (is_in id (untaken_numbers book.state agent signal)) refl);
  };
  left = sym (all_left (untaken_numbers book.state agent signal));
  state = refl;
  appends = record { base = refl; entries = sym (append-nil book.entries); total = omega arith };
  standing = standing;
  phases = published;
  cells = λ id. refl;
}
  where
    none_low : (id : ℕ) → Dec (id ≡ 0) → (b : Bool) → is_in id (untaken_numbers book.state agent signal) ≡ b
        → (b && nat_le id 0) ≡ false
    none_low id d false has = refl
    none_low id (no other) true has = let high : 0 < id = omega (arith, other) in grind (arith, nat_tests, high)
    none_low id (yes same) true has =
        let live : phases_in book.state id ≡ Granted ∷ [] =
        untaken_granted book.state agent signal id standing.numbered has in
        absurd (let wrong : [] ≡ Granted ∷ [] = sym from_one ∙ (ap (phases_in book.state) (sym same) ∙ live) in cc)

    all_left : (xs : List ℕ) → filter (λ id. not (is_in id [])) xs ≡ xs
    all_left [] = refl
    all_left (x ∷ xs) = ap (λ (l : List ℕ). x ∷ l) (all_left xs)

both_parts : (found : Found) → length (aborted found) + length (taken found) ≡ length (numbers_of found)
both_parts [] = refl
both_parts (lock ∷ found) = at_flag lock.1 (both_parts found)
  where
    at_flag : (b : Bool) → length (aborted found) + length (taken found) ≡ length (numbers_of found)
        → length (map (λ (lock : ℕ × Bool). lock.0) (cond (not b) (lock ∷ filter (λ lock. not lock.1) found)
        (filter (λ lock. not lock.1) found)))
        + length (map (λ (lock : ℕ × Bool). lock.0) (cond b (lock ∷ filter (λ lock. lock.1) found)
        (filter (λ lock. lock.1) found))) ≡ suc (length (numbers_of found))
    at_flag true is = omega (arith, is)
    at_flag false is = omega (arith, is)

-- some entries and then others
pub both_append : (old mid new : Book) (one two : List Entry) → Appends old mid one → Appends mid new two
    → Appends old new (one ++ two)
both_append old mid new one two first second = record {
  base = second.base ∙ first.base;
  entries = second.entries ∙ (ap (λ (es : List Entry). es ++ two) first.entries ∙ append_assoc old.entries one two);
  total = let a = first.total in let b = second.total in let l = length-append one two in omega (arith, a, b, l);
}

-- there are few locks to try
pub tried_few : (old : Book) (old_kept : Kept) (agent signal : ℕ) (reason : Reason) (new : Book) (new_kept : Kept)
    (found : Found) (locks : List ℕ) → Tried old old_kept agent signal reason new new_kept found locks
    → length locks ≤ length (untaken_numbers old.state agent signal)
    → IsStanding old.state → length (aborted found) + length (taken found) ≤ 65536
tried_few old old_kept agent signal reason new new_kept found locks tried among standing =
    let all = rising_fewer (numbers_of found) locks tried.order.rising (λ n has. sym (tried.order.same n) ∙ has) in
    let mapped = length-map (filter (is_abortable agent signal) old.state.held) (λ (lock : HeldRow). lock.number) in
    let held = length-filter-le (is_abortable agent signal) old.state.held in
    let few = standing.few in
    let parts = both_parts found in
    omega (arith, all, among, mapped, held, few, parts)

pub up_to_fewer : (after : ℕ) (numbers : List ℕ) → length (up_to after numbers) ≤ length numbers
up_to_fewer after numbers = length-filter-le (λ n. nat_le n after) numbers

-- those up to a number were tried, and this is the next
module _ (old : Book) (old_kept : Kept) (agent signal : ℕ) (reason : Reason) (new : Book) (new_kept : Kept)
    (found : Found) (after id : ℕ)
    (tried : Tried old old_kept agent signal reason new new_kept found
    (up_to after (untaken_numbers old.state agent signal)))
    (least : IsLeast (above after (untaken_numbers new.state agent signal)) (Some id)) where
  abbrev all : List ℕ
  all = untaken_numbers old.state agent signal

  abbrev left : List ℕ
  left = untaken_numbers new.state agent signal

  fresh : is_in id (aborted found) ≡ false
  fresh = next_fresh all left found after tried.order tried.left id least

  has : is_in id left ≡ true
  has = next_left all left found after tried.order tried.left id least

  pub next_above : after < id
  next_above = next_high all left found after tried.order tried.left id least

  -- its keeper is at Granted
  pub next_granted : phases_at id new_kept ≡ Granted ∷ []
  next_granted = tried.phases id ∙ ap (λ (b : Bool). cond b (Aborted reason ∷ []) (phases_in new.state id)) fresh
      ∙ untaken_granted new.state agent signal id tried.standing.numbered has

  -- one more was aborted
  pub tried_aborts : (now_kept : Kept) → ((j : ℕ) → phases_at j now_kept
      ≡ cond (j == id) (Aborted reason ∷ []) (phases_at j new_kept))
      → ((j : ℕ) → cells_at j now_kept ≡ cells_at j new_kept)
      → Tried old old_kept agent signal reason new now_kept (found ++ (id, false) ∷ []) (up_to id all)
  tried_aborts now_kept phases cells =
      let same : taken (found ++ (id, false) ∷ []) ≡ taken found = taken_pushed found id false
      ∙ append-nil (taken found) in
      let grown : aborted (found ++ (id, false) ∷ []) ≡ aborted found ++ id ∷ [] = aborted_pushed found id false in
      record {
        order = next_order all left found after tried.order tried.left id least false;
        left = tried.left ∙ ap (λ (ts : List ℕ). filter (λ n. not (is_in n ts)) all) (sym same);
        state = tried.state ∙ ap (λ (xs : List ℕ). state_after (map (λ n. Take n) xs) old.state) (sym same);
        appends = subst (λ (xs : List ℕ). Appends old new (map take_entry xs)) (sym same) tried.appends;
        standing = tried.standing;
        phases = λ j. phases j ∙ (at_number j (ℕ_discrete j id)
            ∙ ap (λ (xs : List ℕ). cond (is_in j xs) (Aborted reason ∷ []) (phases_in new.state j)) (sym grown));
        cells = λ j. cells j ∙ tried.cells j;
      }
    where
      at_number : (j : ℕ) → Dec (j ≡ id) → cond (j == id) (Aborted reason ∷ []) (phases_at j new_kept)
          ≡ cond (is_in j (aborted found ++ id ∷ [])) (Aborted reason ∷ []) (phases_in new.state j)
      at_number j (yes same) = rw (
        eq-eqb j id same,
        in_pushed (aborted found) id j,
        eq-eqb id j (sym same),
        or-true (is_in j (aborted found)),
      ) refl
      at_number j (no other) = rw (
        ne_eqb j id other,
        in_pushed (aborted found) id j,
        ne_eqb id j (λ e. other (sym e)),
        or-false (is_in j (aborted found)),
      ) (tried.phases j)

  -- one more was found taken
  pub tried_takes : (now : Book) (now_kept : Kept) (answer : TakeAnswer)
      → Gives new.state (Take id) now.state (reply.Took answer) now.recent
      → Appends new now (recorded (Take id) (reply.Took answer))
      → ((j : ℕ) → phases_at j now_kept ≡ cond (j == id) (Taken ∷ []) (phases_at j new_kept))
      → ((j : ℕ) → cells_at j now_kept ≡ cells_at j new_kept)
      → Tried old old_kept agent signal reason now now_kept (found ++ (id, true) ∷ []) (up_to id all)
  tried_takes now now_kept answer gives adds phases cells =
      let grown : taken (found ++ (id, true) ∷ []) ≡ taken found ++ id ∷ [] = taken_pushed found id true in
      let same : aborted (found ++ (id, true) ∷ []) ≡ aborted found = aborted_pushed found id true
      ∙ append-nil (aborted found) in
      let won : answer ≡ take_answer.Taken = untaken_taken new.state agent signal id now.state answer now.recent has
      gives in
      let added : Appends new now (take_entry id ∷ []) = subst
      (λ (a : TakeAnswer). Appends new now (recorded (Take id) (reply.Took a))) won adds in
      record {
        order = next_order all left found after tried.order tried.left id least true;
        left = taken_untaken new.state agent signal id now.state (reply.Took answer) now.recent tried.standing.numbered
            has gives
            ∙ (left_without all (taken found) id left (untaken_distinct new.state agent signal tried.standing.numbered)
            tried.left ∙ ap (λ (ts : List ℕ). filter (λ n. not (is_in n ts)) all) (sym grown));
        state = sym (ap (λ (o : StepResult). o.state) gives)
            ∙ (ap (λ (s : State). (step s (Take id)).state) tried.state
            ∙ (sym (one_more (map (λ n. Take n) (taken found)) old.state (Take id))
            ∙ ap (λ (cs : List Command). state_after cs old.state)
            (sym (ap (map (λ n. Take n)) grown ∙ map-append (λ n. Take n) (taken found) (id ∷ [])))));
        appends = subst (λ (es : List Entry). Appends old now es)
            (sym (ap (map take_entry) grown ∙ map-append take_entry (taken found) (id ∷ [])))
            (both_append old new now (map take_entry (taken found)) (take_entry id ∷ []) tried.appends added);
        standing = standing_by_step new.state (Take id) now.state (reply.Took answer) now.recent gives tried.standing;
        phases = λ j. phases j ∙ (at_number j (ℕ_discrete j id)
            ∙ ap (λ (xs : List ℕ). cond (is_in j xs) (Aborted reason ∷ []) (phases_in now.state j)) (sym same));
        cells = λ j. cells j ∙ tried.cells j;
      }
    where
      moved : (j : ℕ) → phases_in now.state j ≡ cond (j == id) (Taken ∷ []) (phases_in new.state j)
      moved j = taken_phases new.state agent signal id now.state (reply.Took answer) now.recent j
          tried.standing.numbered has gives

      at_number : (j : ℕ) → Dec (j ≡ id) → cond (j == id) (Taken ∷ []) (phases_at j new_kept)
          ≡ cond (is_in j (aborted found)) (Aborted reason ∷ []) (phases_in now.state j)
      at_number j (yes same) =
          let now_taken : phases_in now.state j ≡ Taken ∷ [] = moved j ∙ rw (eq-eqb j id same) refl in
          rw (eq-eqb j id same, ap (λ (n : ℕ). is_in n (aborted found)) same ∙ fresh, now_taken) refl
      at_number j (no other) =
          let as_before : phases_in now.state j ≡ phases_in new.state j = moved j ∙ rw (ne_eqb j id other) refl in
          rw (ne_eqb j id other, as_before) (tried.phases j)

-- there is no next
pub all_tried : (old : Book) (old_kept : Kept) (agent signal : ℕ) (reason : Reason) (new : Book) (new_kept : Kept)
    (found : Found) (after : ℕ)
    → Tried old old_kept agent signal reason new new_kept found (up_to after (untaken_numbers old.state agent signal))
    → IsLeast (above after (untaken_numbers new.state agent signal)) None
    → TriedAll old old_kept agent signal reason new new_kept found
all_tried old old_kept agent signal reason new new_kept found after tried none = record {
  order = none_untried (untaken_numbers old.state agent signal) (untaken_numbers new.state agent signal) found after
      tried.order tried.left none;
  left = tried.left;
  state = tried.state;
  appends = tried.appends;
  standing = tried.standing;
  phases = tried.phases;
  cells = tried.cells;
}

-- what is left to the abort is what was aborted
pub left_aborted : (old : Book) (old_kept : Kept) (agent signal : ℕ) (reason : Reason) (new : Book) (new_kept : Kept)
    (found : Found) → TriedAll old old_kept agent signal reason new new_kept found
    → (id : ℕ) → is_in id (untaken_numbers new.state agent signal) ≡ is_in id (aborted found)
left_aborted old old_kept agent signal reason new new_kept found tried id = ap (is_in id) tried.left
    ∙ aborted_left (untaken_numbers old.state agent signal) found id tried.order

pub taken_same : (found : Found) (id : ℕ) → length (taken (found ++ (id, false) ∷ [])) ≡ length (taken found)
taken_same found id = ap length (taken_pushed found id false ∙ append-nil (taken found))

pub taken_more : (found : Found) (id : ℕ) → length (taken (found ++ (id, true) ∷ [])) ≡ length (taken found) + 1
taken_more found id = ap length (taken_pushed found id true) ∙ length-append (taken found) (id ∷ [])

-- what an exchange found, by its answer
abbrev pub Exchanged : Bool → ℕ → Reason → Kept → Kept → Type 0
Exchanged answer id reason old new = (other : ℕ) → phases_at other new
    ≡ cond (other == id) (cond answer (Aborted reason) Taken ∷ []) (phases_at other old)

pub aborted_one : (answer : Bool) (id : ℕ) (reason : Reason) (old new : Kept) → Exchanged answer id reason old new
    → answer ≡ true → (j : ℕ) → phases_at j new ≡ cond (j == id) (Aborted reason ∷ []) (phases_at j old)
aborted_one answer id reason old new is said j = is j ∙ rw said refl

pub found_taken : (answer : Bool) (id : ℕ) (reason : Reason) (old new : Kept) → Exchanged answer id reason old new
    → answer ≡ false → (j : ℕ) → phases_at j new ≡ cond (j == id) (Taken ∷ []) (phases_at j old)
found_taken answer id reason old new is said j = is j ∙ rw said refl
