-- What holds once a signal is aborted.
use Rattle.std.proofs.Common.{◌≡◌, ℕ, ◌+◌, List, [], ◌∷◌, ◌++◌, length, map, refl, arith, true, false, true≢false, sym}
use Rattle.std.proofs.Common.{ap, ◌∙◌, cond, eq-eqb, append-nil, Bool, inl, inr, subst}
use Rattle.std.specs.Prelude.{◌⊎◌, Result, Ok, Err, IfOk, IfErr, ◌==◌, ◌&&◌, not, Option, Some, is_some}
use Rattle.std.specs.List.{list_any}
use Rattle.std.proofs.lemmas.List.{length-map}
use Rattle.wl_types.specs.Refusals.{refuse_if, first_refusal}
use Rattle.wl_types.specs.declared.words.Reason.{Reason}
use Rattle.wl_types.specs.declared.refusal.Refusal.{Refusal}
use Rattle.wl_types.specs.declared.refusal.Refusal.TheVariants.{NoSuchAgent, NoSuchSignal}
use Rattle.wl_types.specs.declared.phases.Phase.TheVariants as phase
use Rattle.wl_types.specs.declared.phases.Change.{Change}
use Rattle.wl_types.specs.declared.answers.AbortAnswer.{AbortAnswer}
use Rattle.wl_types.specs.declared.answers.AbortAnswer.TheVariants as abort_answer
use Rattle.wl_machine.specs.declared.rows.AgentRow.{AgentRow}
use Rattle.wl_machine.specs.declared.rows.SignalRow.{SignalRow}
use Rattle.wl_machine.specs.declared.command.Command.TheVariants.{Take, Abort}
use Rattle.wl_machine.specs.declared.command.Reply.TheVariants as reply
use Rattle.wl_machine.specs.State.{State}
use Rattle.wl_machine.specs.Refusals.{refusal, has_agent, has_signal, reason_in}
use Rattle.wl_machine.specs.Step.{StepResult, Gives, step, abort_step, state_after, untaken_numbers}
use Rattle.wl_machine.specs.Laws.{phases_of}
use Rattle.wl_machine.specs.OneMove.{phases_in, MovesOnce, is_plain_move, taken_from}
use Rattle.wl_machine.specs.Standing.{IsStanding, is_in, is_abortable_signal}
use Rattle.wl_machine.proofs.OneMove.{by_step, take_lists, take_takes_one}
use Rattle.wl_machine.proofs.Standing.{aborted_have_none}
use Rattle.wl_machine.proofs.Untaken.{abort_ends_untaken}
use Rattle.wl_journal.specs.Books.{Book, Appends}
use Rattle.wl_journal.specs.History.{recorded}
use Rattle.wl_manager.specs.Keepers.{Kept, phases_at, cells_at}
use Rattle.wl_manager.specs.inner.Keepers.{MayPublishAll, after}
use Rattle.wl_manager.specs.Agents.{entries_of_abort}
use Rattle.wl_manager.specs.Locked.{Inner, IsKept, Stays}
use Rattle.wl_manager.specs.Aborts.{Found, numbers_of, taken, take_entry, with_takes, Aborts}
use Rattle.wl_manager.specs.inner.Aborts.{aborted, TriedAll}
use Rattle.wl_manager.proofs.Aborting.{both_append, left_aborted}
use Rattle.wl_manager.proofs.Cutting.{still_cut}
use Rattle.wl_manager.proofs.Keeping.{DroppedBy, Grounds, ready_abort, kept_on, kept_off, may_follow}

-- takes leave all but the locks
record Same (s t : State) : Type 0 where
  agents : t.agents ≡ s.agents
  signals : t.signals ≡ s.signals
  next : t.next ≡ s.next

takes_leave : (ids : List ℕ) (s : State) → Same s (state_after (map (λ id. Take id) ids) s)
takes_leave [] s = record { agents = refl; signals = refl; next = refl }
takes_leave (id ∷ ids) s =
    let rest = takes_leave ids (step s (Take id)).state in
    let one = take_lists s id in
    record {
      agents = rest.agents ∙ ap (λ (t : State). t.agents) one;
      signals = rest.signals ∙ ap (λ (t : State). t.signals) one;
      next = rest.next ∙ ap (λ (t : State). t.next) one;
    }

takes_bring_none : (ids : List ℕ) (id : ℕ) (s : State) → phases_in s id ≡ []
    → phases_in (state_after (map (λ n. Take n) ids) s) id ≡ []
takes_bring_none [] id s none = none
takes_bring_none (taken ∷ ids) id s none = takes_bring_none ids id (step s (Take taken)).state
    (take_takes_one s taken id ∙ at_number (id == taken))
  where
    at_number : (b : Bool) → cond b (map taken_from (phases_in s id)) (phases_in s id) ≡ []
    at_number true = ap (map taken_from) none
    at_number false = none

-- so an abort is refused before them just where it is after
refused_of : List AgentRow → List SignalRow → ℕ → ℕ → Option Refusal
refused_of agents signals agent signal =
    first_refusal (refuse_if (not (list_any (λ row. row.number == agent) agents)) NoSuchAgent
    ∷ refuse_if (not (list_any (λ row. row.agent == agent && row.number == signal) signals)) NoSuchSignal ∷ [])

same_refusal : (s t : State) (agent signal : ℕ) (reason : Reason) → Same s t
    → refusal s (Abort agent signal reason) ≡ refusal t (Abort agent signal reason)
unfolding refused_of
same_refusal s t agent signal reason same = ap (λ (a : List AgentRow). refused_of a s.signals agent signal)
    (sym same.agents) ∙ ap (λ (g : List SignalRow). refused_of t.agents g agent signal) (sym same.signals)

-- an abort that is refused has no lock to end
refused_closed : (s : State) (agent signal : ℕ) (reason : Reason) (r : Refusal)
    → refusal s (Abort agent signal reason) ≡ Some r → is_abortable_signal s agent (Some signal) ≡ false
refused_closed s agent signal reason r is = at_tests (has_agent s agent) (has_signal s agent signal) is
  where
    at_tests : (a b : Bool) → first_refusal (refuse_if (not a) NoSuchAgent ∷ refuse_if (not b) NoSuchSignal ∷ [])
        ≡ Some r → (a && b && not (is_some (reason_in s.signals agent signal))) ≡ false
    at_tests true true is = absurd (cc)
    at_tests true false is = refl
    at_tests false b is = refl

-- nor has one of a signal that has its reason
closed_by : (s : State) (agent signal : ℕ) → is_some (reason_in s.signals agent signal) ≡ true
    → is_abortable_signal s agent (Some signal) ≡ false
closed_by s agent signal is = rw is (and_false (has_agent s agent) (has_signal s agent signal))
  where
    and_false : (a b : Bool) → (a && b && false) ≡ false
    and_false true true = refl
    and_false true false = refl
    and_false false b = refl

none_found : (found : Found) → ((id : ℕ) → is_in id (numbers_of found) ≡ false) → found ≡ []
none_found [] none = refl
none_found (lock ∷ found) none = absurd (let wrong : true ≡ false = rw (eq-eqb lock.0 lock.0 refl) at (none lock.0)
    in cc)

-- what a refused abort found: nothing, so nothing was entered
pub refused_finds : (old : Book) (old_kept : Kept) (agent signal : ℕ) (reason : Reason) (new : Book) (new_kept : Kept)
    (found : Found) (r : Refusal) → TriedAll old old_kept agent signal reason new new_kept found → IsStanding old.state
    → refusal new.state (Abort agent signal reason) ≡ Some r
    → (found ≡ []) × (refusal old.state (Abort agent signal reason) ≡ Some r)
refused_finds old old_kept agent signal reason new new_kept found r tried standing is =
    let was : refusal old.state (Abort agent signal reason)
    ≡ Some r = same_refusal old.state new.state agent signal reason
    (subst (λ (t : State). Same old.state t) (sym tried.state) (takes_leave (taken found) old.state)) ∙ is in
    let none = aborted_have_none old.state agent signal standing (refused_closed old.state agent signal reason r was) in
    (none_found found (λ id. tried.order.same id ∙ ap (is_in id) none), was)

-- what a done abort does to the request of a number
pub record Ends (s : State) (agent signal : ℕ) (reason : Reason) (new : State) (changes : List Change) (id : ℕ) : Type 0
  where
    pub untaken : is_in id (untaken_numbers s agent signal) ≡ true → phases_of id changes ≡ phase.Aborted reason ∷ []
    pub others : is_in id (untaken_numbers s agent signal) ≡ false
        → MovesOnce is_plain_move (phases_in s id) (phases_of id changes) (phases_in new id)

pub abort_ends : (s : State) (agent signal : ℕ) (reason : Reason) (new : State) (answer : AbortAnswer)
    (changes : List Change) (id : ℕ) → IsStanding s → Gives s (Abort agent signal reason) new (reply.Aborted answer)
    changes → Ends s agent signal reason new changes id
abort_ends s agent signal reason new answer changes id standing gives =
    at_reason (is_some (reason_in s.signals agent signal)) refl
  where
    done : abort_step s agent signal reason ≡ record { state = new; reply = reply.Aborted answer; changes = changes }
    done = by_step s (Abort agent signal reason) new (reply.Aborted answer) changes gives refl

    at_reason : (b : Bool) → is_some (reason_in s.signals agent signal) ≡ b → Ends s agent signal reason new changes id
    at_reason false is =
        let law = abort_ends_untaken s agent signal reason id standing.numbered is in
        record {
          untaken = λ has. sym (ap (λ (o : StepResult). phases_of id o.changes) done) ∙ (law.untaken has).1;
          others = λ out. subst (λ (o : StepResult). MovesOnce is_plain_move (phases_in s id) (phases_of id o.changes)
              (phases_in o.state id)) done (law.others out);
        }
    at_reason true is =
        let none : untaken_numbers s agent signal ≡ [] = aborted_have_none s agent signal standing
        (closed_by s agent signal is) in
        let same : record { state = s; reply = reply.Aborted _; changes = [] }
        ≡ record { state = new; reply = reply.Aborted answer; changes = changes } = rw is at done in
        record {
          untaken = λ has. absurd (true≢false (sym has ∙ ap (is_in id) none));
          others = λ out. inl (
            sym (ap (λ (o : StepResult). phases_of id o.changes) same),
            sym (ap (λ (o : StepResult). phases_in o.state id) same),
          );
        }

-- its changes may be published
pub publishes_aborted : (old : Book) (old_kept : Kept) (agent signal : ℕ) (reason : Reason) (mid : Book)
    (mid_kept : Kept) (found : Found) (new : Book) (answer : AbortAnswer) (changes : List Change)
    → TriedAll old old_kept agent signal reason mid mid_kept found
    → Gives mid.state (Abort agent signal reason) new.state (reply.Aborted answer) new.recent → changes ≡ new.recent
    → (id : ℕ) → MayPublishAll (phases_at id mid_kept) (phases_of id changes)
publishes_aborted old old_kept agent signal reason mid mid_kept found new answer changes tried gives told id =
    at_number (is_in id (aborted found)) refl
  where
    ends : Ends mid.state agent signal reason new.state new.recent id
    ends = abort_ends mid.state agent signal reason new.state answer new.recent id tried.standing gives

    left : is_in id (untaken_numbers mid.state agent signal) ≡ is_in id (aborted found)
    left = left_aborted old old_kept agent signal reason mid mid_kept found tried id

    at_number : (b : Bool) → is_in id (aborted found) ≡ b → MayPublishAll (phases_at id mid_kept) (phases_of id changes)
    at_number true is =
        let now : phases_at id mid_kept ≡ phase.Aborted reason ∷ [] = tried.phases id ∙ rw is refl in
        rw (told, now, ends.untaken (left ∙ is)) ((phase.Aborted reason, refl, inl refl), refl)
    at_number false is =
        let now : phases_at id mid_kept ≡ phases_in mid.state id = tried.phases id ∙ rw is refl in
        rw (told, now) (may_follow (phases_in mid.state id) (phases_of id new.recent) (phases_in new.state id)
        (ends.others (left ∙ is)))

-- and publish where each request is
follows : (old : Book) (old_kept : Kept) (agent signal : ℕ) (reason : Reason) (mid : Book) (mid_kept : Kept)
    (found : Found) (new : Book) (answer : AbortAnswer) (changes : List Change) (new_kept : Kept)
    → TriedAll old old_kept agent signal reason mid mid_kept found
    → Gives mid.state (Abort agent signal reason) new.state (reply.Aborted answer) new.recent → changes ≡ new.recent
    → ((id : ℕ) → phases_at id new_kept ≡ after (phases_of id changes) (phases_at id mid_kept))
    → (id : ℕ) → phases_at id new_kept ≡ after (phases_of id new.recent) (phases_in mid.state id ++ [])
follows old old_kept agent signal reason mid mid_kept found new answer changes new_kept tried gives told publishes id =
    at_number (is_in id (aborted found)) refl
  where
    ends : Ends mid.state agent signal reason new.state new.recent id
    ends = abort_ends mid.state agent signal reason new.state answer new.recent id tried.standing gives

    left : is_in id (untaken_numbers mid.state agent signal) ≡ is_in id (aborted found)
    left = left_aborted old old_kept agent signal reason mid mid_kept found tried id

    at_number : (b : Bool) → is_in id (aborted found) ≡ b → phases_at id new_kept
        ≡ after (phases_of id new.recent) (phases_in mid.state id ++ [])
    at_number true is = publishes id ∙ rw (told, ends.untaken (left ∙ is)) refl
    at_number false is =
        let now : phases_at id mid_kept ≡ phases_in mid.state id = tried.phases id ∙ rw is refl in
        publishes id ∙ rw (told, now, append-nil (phases_in mid.state id)) refl

-- what holds between the takes that were found and the abort itself
halfway : (counts keeps_all : Bool) (all : ℕ) (old : Inner) (old_kept : Kept) (agent signal : ℕ) (reason : Reason)
    (mid : Book) (mid_kept : Kept) (found : Found) → IsKept counts keeps_all all old
    → TriedAll old.book old_kept agent signal reason mid mid_kept found
    → Grounds counts keeps_all all (record old {
      book = mid;
      kept = mid_kept;
      total = old.total + length (taken found);
    })
halfway counts keeps_all all old old_kept agent signal reason mid mid_kept found kept tried =
    let same = subst (λ (t : State). Same old.book.state t) (sym tried.state) (takes_leave (taken found) old.book.state)
    in
    record {
      journal = still_cut keeps_all old.book mid _ tried.appends kept.journal;
      standing = tried.standing;
      numbers = kept.numbers ∙ ap (λ n. n.request) (sym same.next);
      from_one = (
        kept.from_one.0,
        ap (λ (t : State). phases_in t 0) tried.state
            ∙ takes_bring_none (taken found) 0 old.book.state kept.from_one.1,
      );
      agents = ap (λ n. n.agent) same.next ∙ kept.agents;
      counted = λ c. let a = kept.counted c in let b = tried.appends.total
          in let l = length-map (taken found) take_entry in omega (arith, a, b, l);
      enough = kept.enough;
    }

pub kept_aborted : (counts keeps_all : Bool) (all : ℕ) (old new : Inner) (old_kept : Kept) (agent signal : ℕ)
    (reason : Reason) (mid : Book) (mid_kept : Kept) (found : Found) (answer : AbortAnswer) (changes : List Change)
    → IsKept counts keeps_all all old → TriedAll old.book old_kept agent signal reason mid mid_kept found
    → Gives mid.state (Abort agent signal reason) new.book.state (reply.Aborted answer) new.book.recent
    → Appends mid new.book (recorded (Abort agent signal reason) (reply.Aborted answer)) → changes ≡ new.book.recent
    → ((id : ℕ) → phases_at id new.kept ≡ after (phases_of id changes) (phases_at id mid_kept)) → new.next ≡ old.next
    → new.opened ≡ old.opened
    → (counts ≡ true → new.total ≡ old.total + length (taken found)
    + length (recorded (Abort agent signal reason) (reply.Aborted answer)))
    → (counts ≡ true → new.parts + new.opened ≡ all + new.handed) → IsKept counts keeps_all all new
kept_aborted counts keeps_all all old new old_kept agent signal reason mid mid_kept found answer changes kept tried
    gives adds told publishes next opened count share =
    kept_on counts keeps_all all (record old { book = mid; kept = mid_kept; total = old.total + length (taken found) })
    new (Abort agent signal reason) (reply.Aborted answer)
    (halfway counts keeps_all all old old_kept agent signal reason mid mid_kept found kept tried) gives refl refl adds
    (follows old.book old_kept agent signal reason mid mid_kept found new.book answer changes new.kept tried gives told
    publishes) (omega (arith, next)) (omega (arith, opened)) count share

-- a second abort finds nothing
again_finds : (old : Book) (old_kept : Kept) (agent signal : ℕ) (reason : Reason) (mid : Book) (mid_kept : Kept)
    (found : Found) (new : State) (answer : AbortAnswer) (changes : List Change)
    → TriedAll old old_kept agent signal reason mid mid_kept found → IsStanding old.state
    → Gives mid.state (Abort agent signal reason) new (reply.Aborted answer) changes
    → answer ≡ abort_answer.AlreadyAborted → found ≡ []
again_finds old old_kept agent signal reason mid mid_kept found new answer changes tried standing gives again =
    let same = subst (λ (t : State). Same old.state t) (sym tried.state) (takes_leave (taken found) old.state) in
    let was : is_some (reason_in old.state.signals agent signal)
    ≡ true = ap (λ (g : List SignalRow). is_some (reason_in g agent signal)) (sym same.signals)
    ∙ at_reason (is_some (reason_in mid.state.signals agent signal)) refl in
    let none = aborted_have_none old.state agent signal standing (closed_by old.state agent signal was) in
    none_found found (λ id. tried.order.same id ∙ ap (is_in id) none)
  where
    done : abort_step mid.state agent signal reason ≡ record {
      state = new;
      reply = reply.Aborted answer;
      changes = changes;
    }
    done = by_step mid.state (Abort agent signal reason) new (reply.Aborted answer) changes gives refl

    at_reason : (b : Bool) → is_some (reason_in mid.state.signals agent signal) ≡ b
        → is_some (reason_in mid.state.signals agent signal) ≡ true
    at_reason true is = is
    at_reason false is = absurd (let said : reply.Aborted abort_answer.Done
        ≡ reply.Aborted abort_answer.AlreadyAborted = (rw is at (ap (λ (o : StepResult). o.reply) done))
        ∙ ap (λ (a : AbortAnswer). reply.Aborted a) again in cc)

pub does_aborted : (counts keeps_all : Bool) (all : ℕ) (old was new : Inner) (old_kept : Kept) (agent signal : ℕ)
    (reason : Reason) (mid : Book) (mid_kept : Kept) (found : Found) (answer : AbortAnswer) (before : List Change)
    → old ≡ was → IsKept counts keeps_all all old → DroppedBy old before old_kept
    → TriedAll old.book old_kept agent signal reason mid mid_kept found
    → Gives mid.state (Abort agent signal reason) new.book.state (reply.Aborted answer) new.book.recent
    → Appends mid new.book (recorded (Abort agent signal reason) (reply.Aborted answer))
    → ((id : ℕ) → cells_at id new.kept ≡ cells_at id mid_kept) → Aborts was new agent signal reason answer found
does_aborted counts keeps_all all old was new old_kept agent signal reason mid mid_kept found answer before is
    kept left tried gives adds cells =
    let ready = ready_abort counts keeps_all all old old_kept agent signal reason before kept left in
    subst (λ (o : Inner). Aborts o new agent signal reason answer found) is (record {
      locks = tried.order;
      gives = subst (λ (s : State). Gives s (Abort agent signal reason) new.book.state (reply.Aborted answer)
          new.book.recent) tried.state gives;
      appends = both_append old.book mid new.book (map take_entry (taken found))
          (recorded (Abort agent signal reason) (reply.Aborted answer)) tried.appends adds;
      cells = λ id phase live. cells id ∙ (tried.cells id ∙ ready.cells id phase live);
      again = again_finds old.book old_kept agent signal reason mid mid_kept found new.book.state answer new.book.recent
          tried kept.standing gives;
    })

-- an abort that is refused leaves all as it was
record Nothing (old : Inner) (old_kept : Kept) (new : Book) (new_kept : Kept) : Type 0 where
  state : new.state ≡ old.book.state
  appends : Appends old.book new []
  phases : (id : ℕ) → phases_at id new_kept ≡ phases_in old.book.state id
  cells : (id : ℕ) → cells_at id new_kept ≡ cells_at id old_kept

nothing_found : (old : Inner) (old_kept : Kept) (agent signal : ℕ) (reason : Reason) (mid : Book) (mid_kept : Kept)
    (found : Found) (new : Book) → TriedAll old.book old_kept agent signal reason mid mid_kept found → found ≡ []
    → new.state ≡ mid.state → Appends mid new [] → Nothing old old_kept new mid_kept
nothing_found old old_kept agent signal reason mid mid_kept found new tried none same adds =
    let was : mid.state ≡ old.book.state = tried.state ∙ ap (λ (f : Found). with_takes old.book.state f) none in
    record {
      state = same ∙ was;
      appends = both_append old.book mid new [] [] (subst (λ (f : Found). Appends old.book mid
          (map take_entry (taken f))) none tried.appends) adds;
      phases = λ id. tried.phases id ∙ (ap (λ (f : Found). cond (is_in id (aborted f)) (phase.Aborted reason ∷ [])
          (phases_in mid.state id)) none ∙ ap (λ (s : State). phases_in s id) was);
      cells = tried.cells;
    }

pub kept_unaborted : (counts keeps_all : Bool) (all : ℕ) (old new : Inner) (old_kept : Kept) (agent signal : ℕ)
    (reason : Reason) (mid : Book) (found : Found) (r : Refusal) → IsKept counts keeps_all all old
    → TriedAll old.book old_kept agent signal reason mid new.kept found
    → refusal mid.state (Abort agent signal reason) ≡ Some r
    → new.book.state ≡ mid.state → new.book.recent ≡ [] → Appends mid new.book [] → new.next ≡ old.next
    → new.opened ≡ old.opened → new.total ≡ old.total → new.parts ≡ old.parts → new.handed ≡ old.handed
    → IsKept counts keeps_all all new
kept_unaborted counts keeps_all all old new old_kept agent signal reason mid found r kept tried is same quiet adds =
    let none = (refused_finds old.book old_kept agent signal reason mid new.kept found r tried kept.standing is).0 in
    let nothing = nothing_found old old_kept agent signal reason mid new.kept found new.book tried none same adds in
    kept_off counts keeps_all all old new kept nothing.state quiet nothing.appends nothing.phases

pub stays_unaborted : (counts keeps_all : Bool) (all : ℕ) (old was new : Inner) (old_kept : Kept) (agent signal : ℕ)
    (reason : Reason) (mid : Book) (found : Found) (r : Refusal) (before : List Change) → old ≡ was
    → IsKept counts keeps_all all old → DroppedBy old before old_kept
    → TriedAll old.book old_kept agent signal reason mid new.kept found
    → refusal mid.state (Abort agent signal reason) ≡ Some r → new.book.state ≡ mid.state → Appends mid new.book []
    → new.next ≡ old.next → new.opened ≡ old.opened → new.handed ≡ old.handed → Stays was new
stays_unaborted counts keeps_all all old was new old_kept agent signal reason mid found r before is
    kept left tried refused same adds next opened handed =
    let none = (refused_finds old.book old_kept agent signal reason mid new.kept found r tried kept.standing refused).0
    in
    let nothing = nothing_found old old_kept agent signal reason mid new.kept found new.book tried none same adds in
    let ready = ready_abort counts keeps_all all old old_kept agent signal reason before kept left in
    subst (λ (o : Inner). Stays o new) is (record {
      state = nothing.state;
      appends = nothing.appends;
      next = next;
      opened = opened;
      handed = handed;
      cells = λ id phase live. nothing.cells id ∙ ready.cells id phase live;
    })

pub refused_before : (old was : Inner) (old_kept : Kept) (agent signal : ℕ) (reason : Reason) (mid : Book)
    (mid_kept : Kept) (found : Found) (r : Refusal) → old ≡ was → IsStanding old.book.state
    → TriedAll old.book old_kept agent signal reason mid mid_kept found
    → refusal mid.state (Abort agent signal reason) ≡ Some r
    → refusal was.book.state (Abort agent signal reason) ≡ Some r
refused_before old was old_kept agent signal reason mid mid_kept found r is standing tried refused =
    subst (λ (o : Inner). refusal o.book.state (Abort agent signal reason) ≡ Some r) is
    (refused_finds old.book old_kept agent signal reason mid mid_kept found r tried standing refused).1

-- an abort's own entry
pub own_entries : (agent signal : ℕ) (reason : Reason) (answer : AbortAnswer)
    → length (recorded (Abort agent signal reason) (reply.Aborted answer)) ≡ entries_of_abort answer
own_entries agent signal reason abort_answer.Done = refl
own_entries agent signal reason abort_answer.AlreadyAborted = refl

-- an abort is refused for its agent or its signal, and never for memory
pub why_refused : (s : State) (agent signal : ℕ) (reason : Reason) (r : Refusal)
    → refusal s (Abort agent signal reason) ≡ Some r → (r ≡ NoSuchAgent) ⊎ (r ≡ NoSuchSignal)
why_refused s agent signal reason r is = at_tests (has_agent s agent) (has_signal s agent signal) is
  where
    at_tests : (a b : Bool) → first_refusal (refuse_if (not a) NoSuchAgent ∷ refuse_if (not b) NoSuchSignal ∷ [])
        ≡ Some r → (r ≡ NoSuchAgent) ⊎ (r ≡ NoSuchSignal)
    at_tests true true is = absurd (cc)
    at_tests true false is = inr (let same : NoSuchSignal ≡ r = cc in sym same)
    at_tests false b is = inl (let same : NoSuchAgent ≡ r = cc in sym same)

pub if_ok : {X Y : Type 0} (P Q : X → Type 0) (r : Result X Y) → ((x : X) → P x → Q x) → IfOk r P → IfOk r Q
if_ok P Q (Ok x) more is = more x is
if_ok P Q (Err y) more is = is

pub if_err : {X Y : Type 0} (P Q : Y → Type 0) (r : Result X Y) → ((y : Y) → P y → Q y) → IfErr r P → IfErr r Q
if_err P Q (Ok x) more is = is
if_err P Q (Err y) more is = more y is
