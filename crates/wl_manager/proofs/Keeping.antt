-- What holds under the lock, command by command.
use Rattle.std.proofs.Common.{◌≡◌, ◌≢◌, ℕ, ◌+◌, ◌<◌, ◌≤◌, nat_le, List, [], ◌∷◌, ◌++◌, length, refl, arith, true, false}
use Rattle.std.proofs.Common.{sym, ap, ◌∙◌, cond, eq-eqb, ne_eqb, append-nil, Bool, inl, inr, subst, length-append}
use Rattle.std.specs.Prelude.{◌==◌, ◌&&◌, ◌^◌, filter, not, IsTrue, Option, Some, None, Result, Ok, Err, OnErr}
use mathlib.Core.Logic.{dite}
use native.Mathlib.Decide.{ℕ_discrete}
use Rattle.wl_types.specs.Phases.{is_end}
use Rattle.wl_types.specs.declared.phases.Phase.{Phase}
use Rattle.wl_types.specs.declared.phases.Phase.TheVariants.{Pending}
use Rattle.wl_types.specs.declared.phases.Change.{Change}
use Rattle.wl_types.specs.declared.words.Reason.{Reason}
use Rattle.wl_types.specs.declared.refusal.Refusal.{Refusal}
use Rattle.wl_types.specs.declared.ask.Ask.{Ask}
use Rattle.wl_cell.specs.Seats.{KeeperSeat, may_settle}
use Rattle.wl_machine.specs.declared.command.Command.{Command}
use Rattle.wl_machine.specs.declared.command.Command.TheVariants.{Enter, SetActive, NewSignal, Request, Take, Release}
use Rattle.wl_machine.specs.declared.command.Command.TheVariants.{Abort, Terminate, Query}
use Rattle.wl_machine.specs.declared.command.Reply.{Reply}
use Rattle.wl_machine.specs.declared.command.Reply.TheVariants as reply
use Rattle.wl_machine.specs.State.{State}
use Rattle.wl_machine.specs.Refusals.{refusal}
use Rattle.wl_machine.specs.Step.{Gives, StepResult, request_step, new_request, available, unless_refused}
use Rattle.wl_machine.specs.Laws.{phases_of}
use Rattle.wl_machine.specs.OneMove.{phases_in, MovesOnce, is_plain_move, table_of, added_phases, is_take}
use Rattle.wl_machine.specs.Standing.{IsStanding}
use Rattle.wl_machine.proofs.OneMove.{is_refused, by_step, moves_by_step, numbers_by_step, entrants, askers, after_none}
use Rattle.wl_machine.proofs.OneMove.{no_change, no_phase_added}
use Rattle.wl_machine.proofs.Standing.{standing_by_step}
use Rattle.wl_core.proofs.Free.{request_unspent}
use Rattle.wl_journal.specs.Books.{Book, Appends}
use Rattle.wl_journal.specs.History.{recorded}
use Rattle.wl_manager.specs.Keepers.{Kept, seat_at, phases_of_seat, cells_of_seat, phases_at, cells_at}
use Rattle.wl_manager.specs.inner.Keepers.{ends_request, MayPublishAll, after}
use Rattle.wl_manager.specs.Locked.{Inner, IsKept, IsCut, ends_in, Does, Stays}
use Rattle.wl_manager.proofs.Cutting.{still_cut}

plain_publishes : (from to : Phase) → is_plain_move from to ≡ true → IsTrue (may_settle from to)
plain_publishes from to move = grind arith

-- what a request's one move asks of its keeper
pub may_follow : (before changes now : List Phase) → MovesOnce is_plain_move before changes now
    → MayPublishAll before changes
may_follow before changes now (inl e) = rw e.0 tt
may_follow before changes now (inr (from, to, was, gives, move, left)) =
    rw gives ((from, was, inr (plain_publishes from to move)), refl)

-- a keeper that followed stands at the phase that is left, or at the end
followed : (table : Phase → Phase → Bool) (before changes now : List Phase) → MovesOnce table before changes now
    → after changes before ≡ now ++ filter is_end changes
followed table before changes now (inl e) = rw (e.0, e.1) (sym (append-nil before))
followed table before changes now (inr (from, to, was, gives, move, left)) =
    rw (gives, left) (elim (is_end to) as (λ b. to ∷ [] ≡ cond b [] (to ∷ []) ++ cond b (to ∷ []) [])
    [ true ↦ refl | false ↦ refl ])

ends_none : (id : ℕ) (changes : List Change) → ends_request id changes ≡ false → ends_in id changes ≡ []
ends_none id [] none = refl
ends_none id (c ∷ changes) none = at_change (c.id == id) refl (is_end c.phase) refl (ends_none id changes)
  where
    at_change : (b : Bool) → (c.id == id) ≡ b → (e : Bool) → is_end c.phase ≡ e
        → (ends_request id changes ≡ false → ends_in id changes ≡ []) → ends_in id (c ∷ changes) ≡ []
    at_change true is true end rest = absurd (let wrong : true ≡ false = rw (is, end) at none in cc)
    at_change true is false end rest = rw is (rw end (rest (rw (is, end) at none)))
    at_change false is e end rest = rw is (rest (rw is at none))

ends_some : (id : ℕ) (changes : List Change) → ends_request id changes ≡ true → 1 ≤ length (ends_in id changes)
ends_some id [] some = absurd (cc)
ends_some id (c ∷ changes) some = at_change (c.id == id) refl (is_end c.phase) refl (ends_some id changes)
  where
    at_change : (b : Bool) → (c.id == id) ≡ b → (e : Bool) → is_end c.phase ≡ e
        → (ends_request id changes ≡ true → 1 ≤ length (ends_in id changes)) → 1 ≤ length (ends_in id (c ∷ changes))
    at_change true is true end rest = rw is (rw end (omega arith))
    at_change true is false end rest = rw is (rw end (rest (rw (is, end) at some)))
    at_change false is e end rest = rw is (rest (rw is at some))

one_at : (seat : Option KeeperSeat) → length (phases_of_seat seat) ≤ 1
one_at None = omega arith
one_at (Some seat) = omega arith

empty : (xs : List Phase) → length xs ≤ 0 → xs ≡ []
empty [] none = refl
empty (x ∷ xs) none = absurd (omega (arith, none))

-- where the last changes end a request, it isn't live
ended : (old : Option KeeperSeat) (phases ends : List Phase) → phases_of_seat old ≡ phases ++ ends → 1 ≤ length ends
    → phases ≡ []
ended old phases ends is some =
    let most : length (phases ++ ends) ≤ 1 = subst (λ (ps : List Phase). length ps ≤ 1) is (one_at old) in
    let both = length-append phases ends in
    empty phases (omega (arith, some, most, both))

-- without the keepers of ended requests, the keepers are those of the state
pub left_phases : (s : State) (changes : List Change) (id : ℕ) (old left : Option KeeperSeat)
    → phases_of_seat old ≡ phases_in s id ++ ends_in id changes → left ≡ cond (ends_request id changes) None old
    → phases_of_seat left ≡ phases_in s id
left_phases s changes id old left published is = at_ends (ends_request id changes) refl is
  where
    at_ends : (b : Bool) → ends_request id changes ≡ b → left ≡ cond b None old → phases_of_seat left ≡ phases_in s id
    at_ends true some is = rw is (sym (ended old (phases_in s id) (ends_in id changes) published
        (ends_some id changes some)))
    at_ends false none is = rw is (published ∙ rw (ends_none id changes none) (append-nil (phases_in s id)))

-- and a live request's keeper is not dropped
pub left_seat : (s : State) (changes : List Change) (id : ℕ) (phase : Phase) (old left : Option KeeperSeat)
    → phases_of_seat old ≡ phases_in s id ++ ends_in id changes → left ≡ cond (ends_request id changes) None old
    → phases_in s id ≡ phase ∷ [] → left ≡ old
left_seat s changes id phase old left published is live = at_ends (ends_request id changes) refl is
  where
    at_ends : (b : Bool) → ends_request id changes ≡ b → left ≡ cond b None old → left ≡ old
    at_ends true some is = absurd (let wrong : (phase ∷ []) ≡ [] = sym live
        ∙ ended old (phases_in s id) (ends_in id changes) published (ends_some id changes some) in cc)
    at_ends false none is = is

-- the keepers once those of ended requests were dropped, and before the changes of a command are published
pub record Ready (old : Inner) (command : Command) (mid : Kept) : Type 0 where
  pub phases : (id : ℕ) → phases_at id mid ≡ phases_in old.book.state id ++ added_phases old.book.state command id
  pub cells : (id : ℕ) (phase : Phase) → phases_in old.book.state id ≡ phase ∷ []
      → cells_at id mid ≡ cells_at id old.kept

abbrev pub Dropped : Inner → Kept → Type 0
Dropped old mid = (id : ℕ) → seat_at id mid ≡ cond (ends_request id old.book.recent) None (seat_at id old.kept)

pub ready_left : (counts keeps_all : Bool) (all : ℕ) (old : Inner) (mid : Kept) (command : Command)
    → IsKept counts keeps_all all old → Dropped old mid → ((id : ℕ) → added_phases old.book.state command id ≡ [])
    → Ready old command mid
ready_left counts keeps_all all old mid command kept left none = record {
  phases = λ id. left_phases old.book.state old.book.recent id (seat_at id old.kept) (seat_at id mid)
      (kept.published id) (left id) ∙ (sym (append-nil (phases_in old.book.state id))
      ∙ ap (λ (ps : List Phase). phases_in old.book.state id ++ ps) (sym (none id)));
  cells = λ id phase live. ap cells_of_seat (left_seat old.book.state old.book.recent id phase (seat_at id old.kept)
      (seat_at id mid) (kept.published id) (left id) live);
}

-- a request's keeper comes under the next number
pub ready_put : (counts keeps_all : Bool) (all : ℕ) (old : Inner) (put mid : Kept) (seat : KeeperSeat) (agent : ℕ)
    (ask : Ask) → IsKept counts keeps_all all old
    → ((id : ℕ) → seat_at id put ≡ cond (id == old.next) (Some seat) (seat_at id old.kept))
    → ((id : ℕ) → seat_at id mid ≡ cond (ends_request id old.book.recent) None (seat_at id put))
    → seat.phase ≡ Pending
    → Ready old (Request agent ask) mid × (cells_at old.next mid ≡ seat.cell ∷ [])
ready_put counts keeps_all all old put mid seat agent ask kept puts left pending =
    (record { phases = phases; cells = cells }, ap cells_of_seat new)
  where
    free : ends_request old.next old.book.recent ≡ false
    free = no_end (ends_request old.next old.book.recent) refl
      where
        no_end : (b : Bool) → ends_request old.next old.book.recent ≡ b → ends_request old.next old.book.recent ≡ false
        no_end false is = is
        no_end true is =
            let some = ends_some old.next old.book.recent is in
            let none : phases_of old.next old.book.recent ≡ [] =
            kept.fresh old.next (let same = kept.numbers in omega (arith, same)) in
            absurd (let few : 1 ≤ length (filter is_end []) =
            subst (λ (ps : List Phase). 1 ≤ length (filter is_end ps)) none some in omega (arith, few))

    new : seat_at old.next mid ≡ Some seat
    new = left old.next ∙ rw (free) (puts old.next ∙ rw (eq-eqb old.next old.next refl) refl)

    phases : (id : ℕ) → phases_at id mid ≡ phases_in old.book.state id
        ++ added_phases old.book.state (Request agent ask) id
    phases id = dite (ℕ_discrete id old.next)
        (λ same.
        let number : old.book.state.next.request ≡ id = sym kept.numbers ∙ sym same in
        rw (kept.standing.numbered.below id (omega (arith, number)), eq-eqb old.book.state.next.request id number)
        (ap (λ (n : ℕ). phases_at n mid) same ∙ (ap phases_of_seat new ∙ ap (λ (p : Phase). p ∷ []) pending)))
        (λ other.
        let apart : old.book.state.next.request ≢ id = λ e. other (sym (kept.numbers ∙ e)) in
        rw (ne_eqb old.book.state.next.request id apart, append-nil (phases_in old.book.state id))
        (left_phases old.book.state old.book.recent id (seat_at id old.kept) (seat_at id mid) (kept.published id)
        (left id ∙ ap (cond (ends_request id old.book.recent) None) (puts id ∙ rw (ne_eqb id old.next other) refl))))

    cells : (id : ℕ) (phase : Phase) → phases_in old.book.state id ≡ phase ∷ [] → cells_at id mid ≡ cells_at id old.kept
    cells id phase live =
        let other : id ≢ old.next = λ e. absurd (let none : phases_in old.book.state id
        ≡ [] = kept.standing.numbered.below id (let same = kept.numbers in omega (arith, same, e))
        in let wrong : (phase ∷ []) ≡ [] = sym live ∙ none in cc) in
        ap cells_of_seat (left_seat old.book.state old.book.recent id phase (seat_at id old.kept) (seat_at id mid)
        (kept.published id) (left id ∙ ap (cond (ends_request id old.book.recent) None)
        (puts id ∙ rw (ne_eqb id old.next other) refl)) live)

-- the changes of a command that doesn't abort may be published
pub may_all : (counts keeps_all : Bool) (all : ℕ) (old : Inner) (mid : Kept) (command : Command) (new : Book)
    (answer : Reply) (changes : List Change) → IsKept counts keeps_all all old → Ready old command mid
    → Gives old.book.state command new.state answer new.recent → is_refused answer ≡ false → is_take command ≡ false
    → table_of command ≡ is_plain_move → changes ≡ new.recent
    → (id : ℕ) → MayPublishAll (phases_at id mid) (phases_of id changes)
may_all counts keeps_all all old mid command new answer changes kept ready gives done other table recent id =
    rw (recent, ready.phases id)
    (may_follow (phases_in old.book.state id ++ added_phases old.book.state command id) (phases_of id new.recent)
    (phases_in new.state id)
    (subst (λ (t : Phase → Phase → Bool). MovesOnce t (phases_in old.book.state id
    ++ added_phases old.book.state command id) (phases_of id new.recent) (phases_in new.state id)) table
    (moves_by_step old.book.state command new.state answer new.recent id gives done kept.standing.numbered other)))

-- what holds of the journal, the numbers and the shares, wherever the keepers are
pub record Grounds (counts keeps_all : Bool) (all : ℕ) (l : Inner) : Type 0 where
  pub journal : IsCut keeps_all l.book
  pub standing : IsStanding l.book.state
  pub numbers : l.next ≡ l.book.state.next.request
  pub from_one : (1 ≤ l.next) × (phases_in l.book.state 0 ≡ [])
  pub agents : l.book.state.next.agent ≡ l.opened + 1
  pub counted : counts ≡ true → l.total ≡ l.book.total
  pub enough : counts ≡ true → 2 ^ 53 ≤ all

pub grounds : (counts keeps_all : Bool) (all : ℕ) (l : Inner) → IsKept counts keeps_all all l
    → Grounds counts keeps_all all l
grounds counts keeps_all all l kept = record {
  journal = kept.journal;
  standing = kept.standing;
  numbers = kept.numbers;
  from_one = kept.from_one;
  agents = kept.agents;
  counted = kept.counted;
  enough = kept.enough;
}

-- no command brings a request numbered 0
none_first : (s : State) (command : Command) → 1 ≤ s.next.request → phases_in s 0 ≡ []
    → phases_in s 0 ++ added_phases s command 0 ≡ []
none_first s (Request agent ask) high none = rw (none, ne_eqb s.next.request 0 (λ e. absurd (omega (arith, high, e))))
    refl
none_first s (Enter kind) high none = rw none refl
none_first s (SetActive agent active) high none = rw none refl
none_first s (NewSignal agent) high none = rw none refl
none_first s (Take taken) high none = rw none refl
none_first s (Release agent lock) high none = rw none refl
none_first s (Abort agent signal reason) high none = rw none refl
none_first s (Terminate agent) high none = rw none refl
none_first s (Query agent) high none = rw none refl

-- a command that is done keeps what holds
pub kept_on : (counts keeps_all : Bool) (all : ℕ) (old new : Inner) (command : Command) (answer : Reply)
    → Grounds counts keeps_all all old
    → Gives old.book.state command new.book.state answer new.book.recent → is_refused answer ≡ false
    → is_take command ≡ false → Appends old.book new.book (recorded command answer)
    → ((id : ℕ) → phases_at id new.kept ≡ after (phases_of id new.book.recent)
    (phases_in old.book.state id ++ added_phases old.book.state command id))
    → new.next ≡ old.next + askers command → new.opened ≡ old.opened + entrants command
    → (counts ≡ true → new.total ≡ old.total + length (recorded command answer))
    → (counts ≡ true → new.parts + new.opened ≡ all + new.handed)
    → IsKept counts keeps_all all new
kept_on counts keeps_all all old new command answer kept gives done other appends follow next opened count share =
    let numbers = numbers_by_step old.book.state command new.book.state answer new.book.recent gives done in
    let moves : (id : ℕ) → MovesOnce (table_of command) (phases_in old.book.state id
    ++ added_phases old.book.state command id) (phases_of id new.book.recent) (phases_in new.book.state id) =
    λ id. moves_by_step old.book.state command new.book.state answer new.book.recent id gives done
    kept.standing.numbered other in
    record {
      journal = still_cut keeps_all old.book new.book _ appends kept.journal;
      standing = standing_by_step old.book.state command new.book.state answer new.book.recent gives kept.standing;
      numbers = let a = kept.numbers in let b = numbers.1 in omega (arith, a, b, next);
      from_one = (
        let one = kept.from_one.0 in omega (arith, one, next),
        after_none (table_of command) (phases_in old.book.state 0 ++ added_phases old.book.state command 0)
            (phases_of 0 new.book.recent) (phases_in new.book.state 0) (moves 0)
            (none_first old.book.state command (let a = kept.numbers in let one = kept.from_one.0
            in omega (arith, a, one)) kept.from_one.1),
      );
      agents = let a = kept.agents in let b = numbers.0 in omega (arith, a, b, opened);
      published = λ id. follow id ∙ followed (table_of command)
          (phases_in old.book.state id ++ added_phases old.book.state command id) (phases_of id new.book.recent)
          (phases_in new.book.state id) (moves id);
      fresh = λ id high. no_change (table_of command) (phases_in old.book.state id
          ++ added_phases old.book.state command id) (phases_of id new.book.recent) (phases_in new.book.state id)
          (moves id)
          (no_phase_added old.book.state command id kept.standing.numbered
          (let b = numbers.1 in omega (arith, b, high)));
      counted = λ c. let a = count c in let b = kept.counted c in let d = appends.total in omega (arith, a, b, d);
      shared = share;
      enough = kept.enough;
    }

-- a command that is refused keeps it, without the keepers of ended requests
pub kept_off : (counts keeps_all : Bool) (all : ℕ) (old new : Inner) → IsKept counts keeps_all all old
    → new.book.state ≡ old.book.state → new.book.recent ≡ [] → Appends old.book new.book []
    → ((id : ℕ) → phases_at id new.kept ≡ phases_in old.book.state id) → new.next ≡ old.next → new.opened ≡ old.opened
    → new.total ≡ old.total → new.parts ≡ old.parts → new.handed ≡ old.handed
    → IsKept counts keeps_all all new
kept_off counts keeps_all all old new kept same quiet appends left next opened total parts handed = record {
  journal = still_cut keeps_all old.book new.book _ appends kept.journal;
  standing = rw same kept.standing;
  numbers = next ∙ (kept.numbers ∙ ap (λ (s : State). s.next.request) (sym same));
  from_one = (
    let one = kept.from_one.0 in omega (arith, one, next),
    ap (λ (s : State). phases_in s 0) same
        ∙ kept.from_one.1,
  );
  agents = ap (λ (s : State). s.next.agent) same ∙ (kept.agents ∙ ap (λ (n : ℕ). n + 1) (sym opened));
  published = λ id. left id ∙ rw (same, quiet) (sym (append-nil (phases_in old.book.state id)));
  fresh = λ id high. rw quiet refl;
  counted = λ c. let b = kept.counted c in let d = appends.total in omega (arith, total, b, d);
  shared = λ c. let b = kept.shared c in omega (arith, b, parts, opened, handed);
  enough = kept.enough;
}

-- the keepers of requests that some changes ended, which the book told, are dropped
abbrev pub DroppedBy : Inner → List Change → Kept → Type 0
DroppedBy old changes mid = (changes ≡ old.book.recent) × ((id : ℕ)
    → seat_at id mid ≡ cond (ends_request id changes) None (seat_at id old.kept))

dropped_by : (old : Inner) (mid : Kept) (changes : List Change) → DroppedBy old changes mid → Dropped old mid
dropped_by old mid changes left id = rw (← left.0) (left.1 id)

-- a command that is refused
pub kept_refused : (counts keeps_all : Bool) (all : ℕ) (old new : Inner) (changes : List Change)
    → IsKept counts keeps_all all old → DroppedBy old changes new.kept → new.book.state ≡ old.book.state
    → new.book.recent ≡ [] → Appends old.book new.book []
    → new.next ≡ old.next → new.opened ≡ old.opened → new.total ≡ old.total → new.parts ≡ old.parts
    → new.handed ≡ old.handed → IsKept counts keeps_all all new
kept_refused counts keeps_all all old new changes kept left same quiet appends =
    kept_off counts keeps_all all old new kept same quiet appends
    (λ id. left_phases old.book.state old.book.recent id (seat_at id old.kept) (seat_at id new.kept)
    (kept.published id) (dropped_by old new.kept changes left id))

pub stays_refused : (counts keeps_all : Bool) (all : ℕ) (old was new : Inner) (changes : List Change) → old ≡ was
    → IsKept counts keeps_all all old → DroppedBy old changes new.kept → new.book.state ≡ old.book.state
    → Appends old.book new.book []
    → new.next ≡ old.next → new.opened ≡ old.opened → new.handed ≡ old.handed → Stays was new
stays_refused counts keeps_all all old was new changes is kept left same appends next opened handed =
    subst (λ (o : Inner). Stays o new) is (record {
      state = same;
      appends = appends;
      next = next;
      opened = opened;
      handed = handed;
      cells = λ id phase live. ap cells_of_seat (left_seat old.book.state old.book.recent id phase (seat_at id old.kept)
          (seat_at id new.kept) (kept.published id) (dropped_by old new.kept changes left id) live);
    })

-- a command that asks for nothing new, and is done
pub publishes_done : (counts keeps_all : Bool) (all : ℕ) (old : Inner) (mid : Kept) (new : Book) (command : Command)
    (answer : Reply) (before changes : List Change) → IsKept counts keeps_all all old → DroppedBy old before mid
    → ((id : ℕ) → added_phases old.book.state command id ≡ [])
    → Gives old.book.state command new.state answer new.recent → is_refused answer ≡ false → is_take command ≡ false
    → table_of command ≡ is_plain_move → changes ≡ new.recent → (id : ℕ)
    → MayPublishAll (phases_at id mid) (phases_of id changes)
publishes_done counts keeps_all all old mid new command answer before changes kept left none gives done other table
    told =
    may_all counts keeps_all all old mid command new answer changes kept
    (ready_left counts keeps_all all old mid command kept (dropped_by old mid before left) none) gives done other
    table told

pub kept_done : (counts keeps_all : Bool) (all : ℕ) (old new : Inner) (mid : Kept) (command : Command) (answer : Reply)
    (before changes : List Change) → IsKept counts keeps_all all old → DroppedBy old before mid
    → ((id : ℕ) → added_phases old.book.state command id ≡ [])
    → Gives old.book.state command new.book.state answer new.book.recent → is_refused answer ≡ false
    → is_take command ≡ false → Appends old.book new.book (recorded command answer) → changes ≡ new.book.recent
    → ((id : ℕ) → phases_at id new.kept ≡ after (phases_of id changes) (phases_at id mid))
    → new.next ≡ old.next + askers command → new.opened ≡ old.opened + entrants command
    → (counts ≡ true → new.total ≡ old.total + length (recorded command answer))
    → (counts ≡ true → new.parts + new.opened ≡ all + new.handed)
    → IsKept counts keeps_all all new
kept_done counts keeps_all all old new mid command answer before changes kept left none gives done other appends told
    publishes =
    let ready = ready_left counts keeps_all all old mid command kept (dropped_by old mid before left) none in
    kept_on counts keeps_all all old new command answer (grounds counts keeps_all all old kept) gives done other appends
    (λ id. rw (← told, ← ready.phases id) (publishes id))

pub does_done : (counts keeps_all : Bool) (all : ℕ) (old was new : Inner) (mid : Kept) (command : Command)
    (answer : Reply) (before : List Change) → old ≡ was → IsKept counts keeps_all all old → DroppedBy old before mid
    → ((id : ℕ) → added_phases old.book.state command id ≡ [])
    → Gives old.book.state command new.book.state answer new.book.recent
    → Appends old.book new.book (recorded command answer) → ((id : ℕ) → cells_at id new.kept ≡ cells_at id mid)
    → Does was new command answer
does_done counts keeps_all all old was new mid command answer before is kept left none gives appends cells =
    let ready = ready_left counts keeps_all all old mid command kept (dropped_by old mid before left) none in
    subst (λ (o : Inner). Does o new command answer) is (record {
      gives = gives;
      appends = appends;
      cells = λ id phase live. cells id ∙ ready.cells id phase live;
    })

-- a request's number is the next one
request_number : (s : State) (agent : ℕ) (ask : Ask) (new : State) (id : ℕ) (changes : List Change)
    → Gives s (Request agent ask) new (reply.Request id) changes → s.next.request ≡ id
request_number s agent ask new id changes gives = number (ap (λ (o : StepResult). o.reply)
    (by_step s (Request agent ask) new (reply.Request id) changes gives refl))
  where
    if_reply : (b : Bool) (x y : StepResult) (r : Reply) → x.reply ≡ r → y.reply ≡ r → (cond b x y).reply ≡ r
    if_reply true x y r one two = one
    if_reply false x y r one two = two

    said : (request_step s agent ask).reply ≡ reply.Request s.next.request
    said = if_reply ask.steal _ _ (reply.Request s.next.request) refl
        (if_reply (ask.if_available && not (available s (new_request s agent ask))) _ _ (reply.Request s.next.request)
        refl refl)

    number : (request_step s agent ask).reply ≡ reply.Request id → s.next.request ≡ id
    number is = let same : reply.Request s.next.request ≡ reply.Request id = sym said ∙ is in cc

-- and another comes after it
pub request_small : (s : State) (agent : ℕ) (ask : Ask) (new : State) (id : ℕ) (changes : List Change)
    → Gives s (Request agent ask) new (reply.Request id) changes → id < 9007199254740992
request_small s agent ask new id changes gives =
    let number = request_number s agent ask new id changes gives in
    let unspent : nat_le 9007199254740992 s.next.request ≡ false =
    request_unspent s agent ask (free (refusal s (Request agent ask)) gives) in
    grind arith
  where
    free : (o : Option Refusal) → unless_refused o s (Request agent ask)
        ≡ record { state = new; reply = reply.Request id; changes = changes } → o ≡ None
    free None is = refl
    free (Some r) is = absurd (let wrong : reply.Refused r ≡ reply.Request id = ap (λ (o : StepResult). o.reply) is
        in cc)

-- a keeper was put under the next number, and those of ended requests were dropped
pub record Puts (old : Inner) (seat : KeeperSeat) (changes : List Change) (put mid : Kept) : Type 0 where
  pub told : changes ≡ old.book.recent
  pub puts : (id : ℕ) → seat_at id put ≡ cond (id == old.next) (Some seat) (seat_at id old.kept)
  pub left : (id : ℕ) → seat_at id mid ≡ cond (ends_request id changes) None (seat_at id put)

asked : (counts keeps_all : Bool) (all : ℕ) (old : Inner) (seat : KeeperSeat) (changes : List Change) (put mid : Kept)
    (agent : ℕ) (ask : Ask) → IsKept counts keeps_all all old → Puts old seat changes put mid → seat.phase ≡ Pending
    → Ready old (Request agent ask) mid × (cells_at old.next mid ≡ seat.cell ∷ [])
asked counts keeps_all all old seat changes put mid agent ask kept is =
    ready_put counts keeps_all all old put mid seat agent ask kept is.puts (λ id. rw (← is.told) (is.left id))

-- once that keeper is removed, those of ended requests were dropped, and nothing else
pub undone : (counts keeps_all : Bool) (all : ℕ) (old : Inner) (seat : KeeperSeat) (changes : List Change)
    (put mid removed : Kept) → IsKept counts keeps_all all old → Puts old seat changes put mid
    → ((id : ℕ) → seat_at id removed ≡ cond (id == old.next) None (seat_at id mid)) → DroppedBy old changes removed
undone counts keeps_all all old seat changes put mid removed kept is removes = (is.told, at_number)
  where
    no_seat : (seat : Option KeeperSeat) → phases_of_seat seat ≡ [] → seat ≡ None
    no_seat None none = refl
    no_seat (Some seat) none = absurd (cc)

    none : seat_at old.next old.kept ≡ None
    none = no_seat (seat_at old.next old.kept) (kept.published old.next
        ∙ rw (
          kept.standing.numbered.below old.next (let same = kept.numbers in omega (arith, same)),
          kept.fresh old.next (let same = kept.numbers in omega (arith, same)),
        ) refl)

    nothing : Option KeeperSeat
    nothing = None

    either : (b : Bool) → nothing ≡ cond b nothing nothing
    either true = refl
    either false = refl

    at_number : (id : ℕ) → seat_at id removed ≡ cond (ends_request id changes) None (seat_at id old.kept)
    at_number id = dite (ℕ_discrete id old.next)
        (λ same. removes id ∙ rw (eq-eqb id old.next same) (rw (ap (λ (n : ℕ). seat_at n old.kept) same ∙ none)
        (either (ends_request id changes))))
        (λ other. removes id ∙ rw (ne_eqb id old.next other)
        (is.left id ∙ ap (cond (ends_request id changes) None) (is.puts id ∙ rw (ne_eqb id old.next other) refl)))

-- a request that is let in
pub publishes_asked : (counts keeps_all : Bool) (all : ℕ) (old : Inner) (seat : KeeperSeat) (before : List Change)
    (put mid : Kept) (new : Book) (agent : ℕ) (ask : Ask) (id : ℕ) (changes : List Change)
    → IsKept counts keeps_all all old → Puts old seat before put mid → seat.phase ≡ Pending
    → Gives old.book.state (Request agent ask) new.state (reply.Request id) new.recent → changes ≡ new.recent
    → (other : ℕ) → MayPublishAll (phases_at other mid) (phases_of other changes)
publishes_asked counts keeps_all all old seat before put mid new agent ask id changes kept is pending gives told =
    may_all counts keeps_all all old mid (Request agent ask) new (reply.Request id) changes kept
    (asked counts keeps_all all old seat before put mid agent ask kept is pending).0 gives refl refl refl told

pub kept_asked : (counts keeps_all : Bool) (all : ℕ) (old new : Inner) (seat : KeeperSeat) (before : List Change)
    (put mid : Kept) (agent : ℕ) (ask : Ask) (id : ℕ) (changes : List Change) → IsKept counts keeps_all all old
    → Puts old seat before put mid → seat.phase ≡ Pending
    → Gives old.book.state (Request agent ask) new.book.state (reply.Request id) new.book.recent
    → Appends old.book new.book (recorded (Request agent ask) (reply.Request id)) → changes ≡ new.book.recent
    → ((other : ℕ) → phases_at other new.kept ≡ after (phases_of other changes) (phases_at other mid))
    → new.next ≡ id + 1 → new.opened ≡ old.opened
    → (counts ≡ true → new.total ≡ old.total + 1) → (counts ≡ true → new.parts + new.opened ≡ all + new.handed)
    → IsKept counts keeps_all all new
kept_asked counts keeps_all all old new seat before put mid agent ask id changes kept is
    pending gives appends told publishes next opened count share =
    let ready = (asked counts keeps_all all old seat before put mid agent ask kept is pending).0 in
    let number = request_number old.book.state agent ask new.book.state id new.book.recent gives in
    kept_on counts keeps_all all old new (Request agent ask) (reply.Request id) (grounds counts keeps_all all old kept)
    gives refl refl appends (λ other. rw (← told, ← ready.phases other) (publishes other))
    (let same = kept.numbers in omega (arith, number, same, next)) (omega (arith, opened)) count share

pub does_asked : (counts keeps_all : Bool) (all : ℕ) (old was new : Inner) (seat : KeeperSeat) (before : List Change)
    (put mid : Kept) (agent : ℕ) (ask : Ask) (id : ℕ) → old ≡ was → IsKept counts keeps_all all old
    → Puts old seat before put mid → seat.phase ≡ Pending
    → Gives old.book.state (Request agent ask) new.book.state (reply.Request id) new.book.recent
    → Appends old.book new.book (recorded (Request agent ask) (reply.Request id))
    → ((other : ℕ) → cells_at other new.kept ≡ cells_at other mid)
    → Does was new (Request agent ask) (reply.Request id) × (cells_at id new.kept ≡ seat.cell ∷ [])
does_asked counts keeps_all all old was new seat before put mid agent ask id same kept is pending gives appends cells =
    let ready = asked counts keeps_all all old seat before put mid agent ask kept is pending in
    let number : old.next ≡ id = kept.numbers ∙ request_number old.book.state agent ask new.book.state id
    new.book.recent gives in (
      subst (λ (o : Inner). Does o new (Request agent ask) (reply.Request id)) same
          (record {
            gives = gives;
            appends = appends;
            cells = λ other phase live. cells other
                ∙ ready.0.cells other phase live;
          }),
      cells id ∙ subst (λ (n : ℕ). cells_at n mid ≡ seat.cell ∷ []) number ready.1,
    )

-- what holds whatever a result is
pub on_err : {X Y : Type 0} (P : Type 0) (r : Result X Y) → P → OnErr r P
on_err P (Ok x) is = tt
on_err P (Err x) is = is

pub ready_abort : (counts keeps_all : Bool) (all : ℕ) (old : Inner) (mid : Kept) (agent signal : ℕ) (reason : Reason)
    (before : List Change) → IsKept counts keeps_all all old → DroppedBy old before mid
    → Ready old (Abort agent signal reason) mid
ready_abort counts keeps_all all old mid agent signal reason before kept left =
    ready_left counts keeps_all all old mid (Abort agent signal reason) kept (dropped_by old mid before left)
    (λ id. refl)
