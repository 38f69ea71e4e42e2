-- Worked examples of the machine (own), as statements that hold by computation. Three windows are open, with numbers 1,
-- 2 and 3.
use Rattle.std.specs.Prelude.{◌≡◌, ℕ, true, false, List, [], ◌∷◌, Some, None}
use Rattle.wl_types.specs.declared.words.Mode.{Mode}
use Rattle.wl_types.specs.declared.words.Mode.TheVariants.{Exclusive, Shared}
use Rattle.wl_types.specs.declared.words.Kind.TheVariants.{Window}
use Rattle.wl_types.specs.declared.words.Reason.TheVariants.{AbortError, TimeoutError, Code}
use Rattle.wl_types.specs.declared.phases.Numbers.{Numbers}
use Rattle.wl_types.specs.declared.phases.Phase.{Phase}
use Rattle.wl_types.specs.declared.phases.Phase.TheVariants.{Granted, Unavailable, Stolen, Aborted, Released}
use Rattle.wl_types.specs.declared.phases.Change.{Change}
use Rattle.wl_types.specs.declared.refusal.Refusal.TheVariants.{SignalAborted}
use Rattle.wl_types.specs.declared.ask.Ask.{Ask}
use Rattle.wl_types.specs.declared.infos.LockInfo.{LockInfo}
use Rattle.wl_machine.specs.declared.command.Command.{Command}
use Rattle.wl_machine.specs.declared.command.Command.TheVariants.{Enter, NewSignal, Request, Take, Release, Abort}
use Rattle.wl_machine.specs.declared.command.Command.TheVariants.{Terminate, Query}
use Rattle.wl_machine.specs.declared.command.Reply.{Reply}
use Rattle.wl_machine.specs.declared.command.Reply.TheVariants as reply
use Rattle.wl_types.specs.declared.answers.TakeAnswer.TheVariants as take_answer
use Rattle.wl_types.specs.declared.answers.ReleaseAnswer.TheVariants as release_answer
use Rattle.wl_types.specs.declared.answers.AbortAnswer.TheVariants as abort_answer
use Rattle.wl_machine.specs.State.{State, opening}
use Rattle.wl_machine.specs.Step.{step, state_after, snapshot_of}

abbrev pub ones : Numbers
ones = record { agent = 1; request = 1; signal = 1 }

abbrev pub db : List ℕ
db = 100 ∷ 98 ∷ []

abbrev pub ask : List ℕ → Mode → Ask
ask name mode = record { name = name; mode = mode; if_available = false; steal = false; signal = None }

abbrev pub stealing : List ℕ → Ask
stealing name = record { name = name; mode = Exclusive; if_available = false; steal = true; signal = None }

abbrev pub if_free : List ℕ → Mode → Ask
if_free name mode = record { name = name; mode = mode; if_available = true; steal = false; signal = None }

abbrev pub with_signal : ℕ → List ℕ → Mode → Ask
with_signal signal name mode = record {
  name = name;
  mode = mode;
  if_available = false;
  steal = false;
  signal = Some signal;
}

abbrev pub info : List ℕ → Mode → ℕ → LockInfo
info name mode client = record { name = name; mode = mode; client = client }

abbrev pub change : ℕ → Phase → Change
change id phase = record { id = id; phase = phase }

-- the replies and changes of a run
abbrev pub replies_and_changes : List Command → State → List (Reply × List Change)
replies_and_changes [] s = []
replies_and_changes (command ∷ commands) s = ((step s command).reply, (step s command).changes)
    ∷ replies_and_changes commands (step s command).state

abbrev pub three : State
three = state_after (Enter Window ∷ Enter Window ∷ Enter Window ∷ []) (opening ones)

-- a shared request waits behind an exclusive one, though it could share the lock that is held
abbrev pub ReaderWaitsBehindWriter : Type 0
ReaderWaitsBehindWriter =
    replies_and_changes (Request 1 (ask db Shared) ∷ Take 1 ∷ Request 2 (ask db Exclusive) ∷ Request 3 (ask db Shared)
    ∷ Query 1 ∷ Release 1 1 ∷ Release 2 2 ∷ []) three
    ≡ ((reply.Request 1, change 1 Granted ∷ []) ∷ (reply.Took take_answer.Taken, []) ∷ (reply.Request 2, [])
    ∷ (reply.Request 3, [])
    ∷ (reply.Seen (record { held = info db Shared 1 ∷ []; pending = info db Exclusive 2 ∷ info db Shared 3 ∷ [] }), [])
    ∷ (reply.Released release_answer.Released, change 1 Released ∷ change 2 Granted ∷ [])
    ∷ (reply.Released release_answer.Released, change 2 Released ∷ change 3 Granted ∷ []) ∷ [])

-- shared requests at the front are granted together, and none behind an exclusive one
abbrev pub SharedGrantedTogether : Type 0
SharedGrantedTogether =
    replies_and_changes (Request 1 (ask db Exclusive) ∷ Request 1 (ask db Shared) ∷ Request 1 (ask db Shared)
    ∷ Request 1 (ask db Exclusive) ∷ Request 1 (ask db Shared) ∷ Release 1 1 ∷ Query 1 ∷ []) three
    ≡ ((reply.Request 1, change 1 Granted ∷ []) ∷ (reply.Request 2, []) ∷ (reply.Request 3, []) ∷ (reply.Request 4, [])
    ∷ (reply.Request 5, [])
    ∷ (reply.Released release_answer.Released, change 1 Released ∷ change 2 Granted ∷ change 3 Granted ∷ [])
    ∷ (
      reply.Seen (record {
        held = info db Shared 1 ∷ info db Shared 1 ∷ [];
        pending = info db Exclusive 1 ∷ info db Shared 1 ∷ [];
      }),
      [],
    ) ∷ [])

-- a steal takes the lock of every sharer, and is granted before a request that waits
abbrev pub StealTakesEveryLock : Type 0
StealTakesEveryLock =
    replies_and_changes (Request 1 (ask db Shared) ∷ Request 2 (ask db Shared) ∷ Request 3 (ask db Exclusive)
    ∷ Request 3 (stealing db) ∷ Query 3 ∷ Release 1 1 ∷ Release 3 4 ∷ []) three
    ≡ ((reply.Request 1, change 1 Granted ∷ []) ∷ (reply.Request 2, change 2 Granted ∷ []) ∷ (reply.Request 3, [])
    ∷ (reply.Request 4, change 1 Stolen ∷ change 2 Stolen ∷ change 4 Granted ∷ [])
    ∷ (reply.Seen (record { held = info db Exclusive 3 ∷ []; pending = info db Exclusive 3 ∷ [] }), [])
    ∷ (reply.Released release_answer.NotHeld, [])
    ∷ (reply.Released release_answer.Released, change 4 Released ∷ change 3 Granted ∷ []) ∷ [])

-- an abort of the requests at the head lets the next in
abbrev pub AbortOfHeadLetsNextIn : Type 0
AbortOfHeadLetsNextIn =
    replies_and_changes (Request 1 (ask db Shared) ∷ Take 1 ∷ NewSignal 2 ∷ Request 2 (with_signal 1 db Exclusive)
    ∷ Request 2 (with_signal 1 db Shared) ∷ Request 3 (ask db Shared) ∷ Abort 2 1 AbortError ∷ Query 2 ∷ []) three
    ≡ ((reply.Request 1, change 1 Granted ∷ []) ∷ (reply.Took take_answer.Taken, []) ∷ (reply.Signal 1, [])
    ∷ (reply.Request 2, []) ∷ (reply.Request 3, []) ∷ (reply.Request 4, [])
    ∷ (
      reply.Aborted abort_answer.Done,
      change 2 (Aborted AbortError) ∷ change 3 (Aborted AbortError) ∷ change 4 Granted
          ∷ [],
    )
    ∷ (reply.Seen (record { held = info db Shared 1 ∷ info db Shared 3 ∷ []; pending = [] }), []) ∷ [])

-- names stand in the order of their first use; one that was out of use and returns goes last
abbrev pub NamesInOrderOfFirstUse : Type 0
NamesInOrderOfFirstUse =
    let b = 98 ∷ [] in let a = 97 ∷ [] in
    snapshot_of (state_after (Request 1 (ask b Exclusive) ∷ Request 1 (ask a Exclusive) ∷ Request 2 (ask a Exclusive)
    ∷ Request 2 (ask b Exclusive) ∷ Release 1 1 ∷ Release 2 4 ∷ Request 1 (ask b Exclusive)
    ∷ Request 2 (ask b Exclusive) ∷ []) three)
    ≡ record {
      held = info a Exclusive 1 ∷ info b Exclusive 1 ∷ [];
      pending = info a Exclusive 2 ∷ info b Exclusive 2 ∷ [];
    }

-- an agent that ends frees the names of all its locks and requests
abbrev pub TerminationFreesNames : Type 0
TerminationFreesNames =
    let p = 112 ∷ [] in let q = 113 ∷ [] in
    replies_and_changes (Terminate 1 ∷ Query 2 ∷ []) (state_after
    (Request 2 (ask p Shared) ∷ Request 1 (ask q Exclusive) ∷ Request 1 (ask p Exclusive) ∷ Request 3 (ask p Shared)
    ∷ Request 2 (ask q Exclusive) ∷ []) three)
    ≡ ((reply.Done, change 3 (Aborted AbortError) ∷ change 2 Released ∷ change 4 Granted ∷ change 5 Granted ∷ [])
    ∷ (reply.Seen (record { held = info p Shared 2 ∷ info p Shared 3 ∷ info q Exclusive 2 ∷ []; pending = [] }), [])
    ∷ [])

-- a request with ifAvailable is unavailable behind a writer that waits
abbrev pub AvailableBehindWriter : Type 0
AvailableBehindWriter =
    replies_and_changes (Request 1 (ask db Shared) ∷ Request 2 (ask db Exclusive) ∷ Request 3 (if_free db Shared)
    ∷ Query 3 ∷ []) three
    ≡ ((reply.Request 1, change 1 Granted ∷ []) ∷ (reply.Request 2, []) ∷ (reply.Request 3, change 3 Unavailable ∷ [])
    ∷ (reply.Seen (record { held = info db Shared 1 ∷ []; pending = info db Exclusive 2 ∷ [] }), []) ∷ [])

-- where none waits it is granted
abbrev pub AvailableWhereNoneWaits : Type 0
AvailableWhereNoneWaits =
    replies_and_changes (Request 1 (ask db Shared) ∷ Request 3 (if_free db Shared) ∷ []) three
    ≡ ((reply.Request 1, change 1 Granted ∷ []) ∷ (reply.Request 2, change 2 Granted ∷ []) ∷ [])

-- an abort keeps a lock that was taken; a second abort changes nothing, and the signal serves no more
abbrev pub AbortKeepsTakenLock : Type 0
AbortKeepsTakenLock =
    replies_and_changes (NewSignal 1 ∷ Request 1 (with_signal 1 db Exclusive) ∷ Take 1 ∷ Abort 1 1 AbortError ∷ Query 1
    ∷ Abort 1 1 TimeoutError ∷ Request 1 (with_signal 1 db Exclusive) ∷ []) three
    ≡ ((reply.Signal 1, []) ∷ (reply.Request 1, change 1 Granted ∷ []) ∷ (reply.Took take_answer.Taken, [])
    ∷ (reply.Aborted abort_answer.Done, [])
    ∷ (reply.Seen (record { held = info db Exclusive 1 ∷ []; pending = [] }), [])
    ∷ (reply.Aborted abort_answer.AlreadyAborted, [])
    ∷ (reply.Refused (SignalAborted AbortError), []) ∷ [])

-- a signal keeps the code that it was aborted with
abbrev pub FirstCodeStays : Type 0
FirstCodeStays =
    replies_and_changes (NewSignal 1 ∷ Abort 1 1 (Code 7) ∷ Abort 1 1 (Code 8) ∷ Request 1 (with_signal 1 db Exclusive)
    ∷ []) three
    ≡ ((reply.Signal 1, []) ∷ (reply.Aborted abort_answer.Done, []) ∷ (reply.Aborted abort_answer.AlreadyAborted, [])
    ∷ (reply.Refused (SignalAborted (Code 7)), []) ∷ [])

-- a lock that was granted, and whose agent wasn't told
abbrev pub untold : State
untold = state_after (Request 1 (ask db Exclusive) ∷ Take 1 ∷ NewSignal 2 ∷ Request 2 (with_signal 1 db Exclusive)
    ∷ Release 1 1 ∷ []) three

-- an abort ends it
abbrev pub AbortEndsUntoldLock : Type 0
AbortEndsUntoldLock =
    replies_and_changes (Abort 2 1 AbortError ∷ Query 2 ∷ []) untold
    ≡ ((reply.Aborted abort_answer.Done, change 2 (Aborted AbortError) ∷ [])
    ∷ (reply.Seen (record { held = []; pending = [] }), []) ∷ [])

-- once its agent was told it stays
abbrev pub ToldLockOutlivesAbort : Type 0
ToldLockOutlivesAbort =
    replies_and_changes (Take 2 ∷ Abort 2 1 AbortError ∷ Query 2 ∷ []) untold
    ≡ ((reply.Took take_answer.Taken, []) ∷ (reply.Aborted abort_answer.Done, [])
    ∷ (reply.Seen (record { held = info db Exclusive 2 ∷ []; pending = [] }), []) ∷ [])
