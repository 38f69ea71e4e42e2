-- Steps of a connection, one after another.
use Rattle.std.proofs.Common.{◌≡◌, ◌≤◌, ◌+◌, inl, inr, refl, sym, subst, ℕ, false, cond, List, [], ◌∷◌}
use Rattle.std.proofs.Common.{◌++◌, Option, Ok, Err, arith}
use Rattle.std.proofs.lemmas.List.Sums.{count_by-le-length, sum_by-append}
use Rattle.tungstenite.specs.Failure.{IsIo}
use Rattle.tungstenite.specs.Socket.{Socket, has_kind, kind_of}
use Rattle.tungstenite.specs.declared.error.Error.{Error}
use Rattle.tungstenite.specs.declared.message.Message.{Message}
use Rattle.wl_wire.specs.Turns.{Step, Exchange, Push, Look, Idle, Send, Last, Leaving, Pushing}
use Rattle.wl_wire.specs.Turns.{Hearing, Answering, Advances, Ends, Finishes, Goes, GoesOn, Turns}
use Rattle.wl_wire.specs.inner.Turns.{Answered, Steps}
use Rattle.wl_wire.specs.Turns.{is_read}
use Rattle.wl_wire.specs.inner.Turns.{stepped_by}
use Rattle.wl_wire.specs.Wires.{Hears, Sends, Yields}
use Rattle.wl_wire.specs.inner.Wires.{Says}
use Rattle.wl_wire.specs.declared.counted.Counted.{Counted}
use Rattle.wl_wire.specs.declared.ending.Ending.{Ending}
use Rattle.wl_wire.specs.declared.turn.Turn.{Turn}
use Rattle.wl_wire.specs.declared.turn.Turn.TheVariants as turn
use Rattle.wl_wire.specs.declared.turn.Stepped.{Stepped}
use Rattle.wl_wire.specs.declared.turn.Stepped.TheVariants.{Went, Stops, Ended}
use Rattle.wl_wire.specs.declared.wire.Sending.{Sending as Sent}
use Rattle.wl_wire.specs.declared.wire.Sending.TheVariants.{Left, Waits, Failed}

module _ {S P : Type 0} (remaining contents : S → Option (List ℕ)) (answers : P → List ℕ → List ℕ → P → Type 0)
    (pushes : P → List ℕ → P → Type 0) (rests : P → P → Type 0) where
  -- steps, and then more
  both : (ss ts : List Step) (a b c : Socket (Counted S) × P)
      → GoesOn remaining contents answers pushes rests a ss b → GoesOn remaining contents answers pushes rests b ts c
      → GoesOn remaining contents answers pushes rests a (ss ++ ts) c
  both [] ts a b c first second = subst (λ x. GoesOn remaining contents answers pushes rests x ts c) first second
  both (s ∷ ss) ts a b c first second =
      let (next, step, rest) = first in (next, step, both ss ts next b c rest second)

  pub joined : (m n : ℕ) (a b c : Socket (Counted S) × P)
      → Advances remaining contents answers pushes rests m a b → Advances remaining contents answers pushes rests n b c
      → Advances remaining contents answers pushes rests (m + n) a c
  joined m n a b c first second = (
    first.0 ++ second.0,
    both first.0 second.0 a b c first.1 second.1,
    omega (arith, sum_by-append (λ s. cond (is_read s) 1 0) first.0 second.0, first.2, second.2),
  )

  -- more reads may be had
  pub within : (m n : ℕ) (a b : Socket (Counted S) × P) → m ≤ n → Advances remaining contents answers pushes rests m a b
      → Advances remaining contents answers pushes rests n a b
  within m n a b below (steps, goes, few) = (steps, goes, omega arith)

  -- no step
  pub stays : (n : ℕ) (a : Socket (Counted S) × P) → Advances remaining contents answers pushes rests n a a
  stays n a = ([], refl, omega arith)

  -- the same of a step
  pub more : (m n : ℕ) (a : Socket (Counted S) × P) (result : Stepped P) (new : Socket (Counted S)) → m ≤ n
      → Steps remaining contents answers pushes rests m a result new
      → Steps remaining contents answers pushes rests n a result new
  more m n a (Went speaker) new below ((steps, goes, few), empty) = ((steps, goes, omega arith), empty)
  more m n a (Stops speaker) new below (steps, goes, few) = (steps, goes, omega arith)
  more m n a (Ended ending) new below (middle, last, (steps, goes, few), ends) =
      (middle, last, (steps, goes, omega arith), ends)

  -- steps, and then those of a call
  pub after : (m n : ℕ) (a b : Socket (Counted S) × P) (result : Stepped P) (new : Socket (Counted S))
      → Advances remaining contents answers pushes rests m a b
      → Steps remaining contents answers pushes rests n b result new
      → Steps remaining contents answers pushes rests (m + n) a result new
  after m n a b (Went speaker) new first rest = (joined m n a b (new, speaker) first rest.0, rest.1)
  after m n a b (Stops speaker) new first rest = joined m n a b (new, speaker) first rest
  after m n a b (Ended ending) new first rest = (rest.0, rest.1, joined m n a b rest.0 first rest.2, rest.3)

  -- steps, and then a turn
  pub turn_after : (a b : Socket (Counted S) × P) (result : Turn P) (new : Socket (Counted S))
      → Advances remaining contents answers pushes rests 0 a b
      → Turns remaining contents answers pushes rests b result new
      → Turns remaining contents answers pushes rests a result new
  turn_after a b (turn.Went speaker pace) new first rest = joined 0 16 a b (new, speaker) first rest
  turn_after a b (turn.Ended ending) new first rest = (rest.0, rest.1, joined 0 16 a b rest.0 first rest.2, rest.3)

  -- one step
  one : (s : Step) (a b : Socket (Counted S) × P) → Goes remaining contents answers pushes rests a s b
      → Advances remaining contents answers pushes rests 1 a b
  one s a b step = (s ∷ [], (b, step, refl), count_by-le-length is_read (s ∷ []))

  -- one step without a read
  quiet : (s : Step) (a b : Socket (Counted S) × P) → is_read s ≡ false
      → Goes remaining contents answers pushes rests a s b → Advances remaining contents answers pushes rests 0 a b
  quiet s a b none step = (s ∷ [], (b, step, refl), rw none (omega arith))

  -- what comes last, with no step before
  ended : (last : Last) (a : Socket (Counted S) × P) (ending : Ending) (new : Socket (Counted S))
      → Ends remaining contents answers pushes rests a last ending new
      → Finishes remaining contents answers pushes rests 0 a ending new
  ended last a ending new ends = (a, last, stays 0 a, ends)

  -- what waited left, or some of it
  pub sent : (sending : Sent) (old new : Socket (Counted S)) (speaker : P) → Sends contents old new
      → (sending ≡ Left → new.output ≡ [])
      → Steps remaining contents answers pushes rests 0 (old, speaker) (stepped_by sending speaker) new
  sent Left old new speaker some empty = (quiet Send (old, speaker) (new, speaker) refl (some, refl), empty refl)
  sent Waits old new speaker some empty = quiet Send (old, speaker) (new, speaker) refl (some, refl)
  sent (Failed ending) old new speaker some empty = ended Leaving (old, speaker) ending new some

  -- a text was pushed
  pub pushed : (sending : Sent) (old new : Socket (Counted S)) (speaker next : P) (words : List ℕ) → old.output ≡ []
      → pushes speaker words next
      → Says contents sending old words new → Steps remaining contents answers pushes rests 0 (old, speaker)
      (stepped_by sending next) new
  pushed Left old new speaker next words empty tells (put, left) =
      (quiet (Push words) (old, speaker) (new, next) refl (empty, put, tells), left)
  pushed Waits old new speaker next words empty tells put =
      quiet (Push words) (old, speaker) (new, next) refl (empty, put, tells)
  pushed (Failed ending) old new speaker next words empty tells falls =
      ended (Pushing words) (old, speaker) ending new (empty, falls, (next, tells))

  -- nothing changed
  pub looked : (old : Socket (Counted S)) (speaker next : P) → rests speaker next
      → Advances remaining contents answers pushes rests 0 (old, speaker) (old, next)
  looked old speaker next same = quiet Look (old, speaker) (old, next) refl (refl, same)

  -- no text came
  pub idle : (old new : Socket (Counted S)) (speaker : P) (m : Message) → old.output ≡ []
      → Yields remaining old (Ok m) new → 2 ≤ kind_of m → has_kind 4 m ≡ false
      → Advances remaining contents answers pushes rests 1 (old, speaker) (new, speaker)
  idle old new speaker m empty came kind unclosed = one Idle (old, speaker) (new, speaker)
      (empty, inl (m, came, kind, unclosed), refl)

  -- no message was whole
  pub blocked : (old new : Socket (Counted S)) (speaker : P) (e : Error) → old.output ≡ []
      → Yields remaining old (Err e) new → IsIo e
      → Advances remaining contents answers pushes rests 1 (old, speaker) (new, speaker)
  blocked old new speaker e empty failed io = one Idle (old, speaker) (new, speaker) (empty, inr (e, failed, io), refl)

  -- a message came, and then what a call answered
  pub exchanged : (old came : Socket (Counted S)) (speaker : P) (message : List ℕ) (result : Stepped P)
      (new : Socket (Counted S)) → old.output ≡ []
      → Hears remaining old message came → Answered contents answers (came, speaker) message result new
      → Steps remaining contents answers pushes rests 1 (old, speaker) result new
  exchanged old came speaker message (Went next) new empty heard ((words, says, put), left) =
      (one (Exchange message words) (old, speaker) (new, next) (empty, (came, heard, put), says), left)
  exchanged old came speaker message (Stops next) new empty heard (words, says, put) =
      one (Exchange message words) (old, speaker) (new, next) (empty, (came, heard, put), says)
  exchanged old came speaker message (Ended ending) new empty heard (inl same) = (
    (old, speaker),
    Hearing message,
    stays 1 (old, speaker),
    (empty, subst (λ x. Hears remaining old message x) (sym same) heard),
  )
  exchanged old came speaker message (Ended ending) new empty heard (inr (words, next, says, falls)) =
      ((old, speaker), Answering message words, stays 1 (old, speaker), (empty, (came, heard, falls), (next, says)))

module _ {S P : Type 0} (contents : S → Option (List ℕ)) (answers : P → List ℕ → List ℕ → P → Type 0) where
  -- a message was answered
  pub answered : (sending : Sent) (old new : Socket (Counted S)) (speaker next : P) (message words : List ℕ)
      → answers speaker message words next
      → Says contents sending old words new → Answered contents answers (old, speaker) message (stepped_by sending next)
      new
  answered Left old new speaker next message words says (put, left) = ((words, says, put), left)
  answered Waits old new speaker next message words says put = (words, says, put)
  answered (Failed ending) old new speaker next message words says falls = inr (words, next, says, falls)
