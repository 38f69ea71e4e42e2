-- What a turn of a connection does (own).
use Rattle.std.specs.Prelude.{◌≡◌, ◌≤◌, ℕ, Bool, true, false, List, [], ◌∷◌, count_by, Option, Ok, Err}
use Rattle.tungstenite.specs.Socket.{Socket, has_kind}
use Rattle.tungstenite.specs.declared.error.Error.{Error}
use Rattle.tungstenite.specs.declared.message.Message.{Message}
use Rattle.wl_wire.specs.Endings.{ending_for}
use Rattle.wl_wire.specs.Wires.{Falls, Hears, Idles, Puts, Sends, Yields}
use Rattle.wl_wire.specs.declared.counted.Counted.{Counted}
use Rattle.wl_wire.specs.declared.ending.Ending.{Ending}
use Rattle.wl_wire.specs.declared.ending.Ending.TheVariants.{Closed}
use Rattle.wl_wire.specs.declared.turn.Turn.{Turn}
use Rattle.wl_wire.specs.declared.turn.Turn.TheVariants as turn

-- what a connection does at a time
pub data Step : Type 0 where
  -- this message came, and this text answers it
  Exchange : List ℕ → List ℕ → Step
  -- this text tells what changed
  Push : List ℕ → Step
  -- nothing changed
  Look : Step
  -- a ping or a pong came, or no frame that is whole
  Idle : Step
  -- some of what waited left
  Send : Step

-- whether the stream is read
abbrev pub is_read : Step → Bool
is_read (Exchange message words) = true
is_read (Push words) = false
is_read Look = false
is_read Idle = true
is_read Send = false

-- what a connection did last
pub data Last : Type 0 where
  -- the stream failed under what waited
  Leaving : Last
  -- no further message comes
  Reading : Last
  -- a close frame came, and its answer is still to leave
  Parting : Last
  -- there was no memory to tell what changed
  Telling : Last
  -- this text, which tells what changed, won't leave whole
  Pushing : List ℕ → Last
  -- this message came, and there is no answer
  Hearing : List ℕ → Last
  -- this message came, and this text, which answers it, won't leave whole
  Answering : List ℕ → List ℕ → Last

module _ {S P : Type 0} (remaining contents : S → Option (List ℕ)) (answers : P → List ℕ → List ℕ → P → Type 0)
    (pushes : P → List ℕ → P → Type 0) (rests : P → P → Type 0) where
  -- A step from a socket and a speaker to the next. Nothing waits where a message is read or a text is put: so each
  -- text leaves whole before the next is made.
  abbrev pub Goes : Socket (Counted S) × P → Step → Socket (Counted S) × P → Type 0
  Goes old (Exchange message words) new =
      (old.0.output ≡ []) × ((came : Socket (Counted S)) × Hears remaining old.0 message came
      × Puts contents came words new.0) × answers old.1 message words new.1
  Goes old (Push words) new = (old.0.output ≡ []) × Puts contents old.0 words new.0 × pushes old.1 words new.1
  Goes old Look new = (new.0 ≡ old.0) × rests old.1 new.1
  Goes old Idle new = (old.0.output ≡ []) × Idles remaining old.0 new.0 × (new.1 ≡ old.1)
  Goes old Send new = Sends contents old.0 new.0 × (new.1 ≡ old.1)

  -- one step after another
  abbrev pub GoesOn : Socket (Counted S) × P → List Step → Socket (Counted S) × P → Type 0
  GoesOn old [] new = new ≡ old
  GoesOn old (step ∷ steps) new = (next : Socket (Counted S) × P) × Goes old step next × GoesOn next steps new

  -- what came last, from a socket and a speaker, with this ending
  abbrev pub Ends : Socket (Counted S) × P → Last → Ending → Socket (Counted S) → Type 0
  Ends old Leaving ending new = Sends contents old.0 new
  Ends old Reading ending new = (old.0.output ≡ []) × ((e : Error) × Yields remaining old.0 (Err e) new
      × (ending ≡ ending_for e))
  Ends old Parting ending new = (old.0.output ≡ []) × ((m : Message) × Yields remaining old.0 (Ok m) new
      × (has_kind 4 m ≡ true)) × (ending ≡ Closed)
  Ends old Telling ending new = new ≡ old.0
  Ends old (Pushing words) ending new = (old.0.output ≡ []) × Falls contents old.0 words new
      × ((next : P) × pushes old.1 words next)
  Ends old (Hearing message) ending new = (old.0.output ≡ []) × Hears remaining old.0 message new
  Ends old (Answering message words) ending new =
      (old.0.output ≡ []) × ((came : Socket (Counted S)) × Hears remaining old.0 message came
      × Falls contents came words new)
      × ((next : P) × answers old.1 message words next)

  -- steps with at most so many reads
  abbrev pub Advances : ℕ → Socket (Counted S) × P → Socket (Counted S) × P → Type 0
  Advances most old new = (steps : List Step) × GoesOn old steps new × (count_by is_read steps ≤ most)

  -- steps with at most so many reads, and then the last of all
  abbrev pub Finishes : ℕ → Socket (Counted S) × P → Ending → Socket (Counted S) → Type 0
  Finishes most old ending new = (middle : Socket (Counted S) × P) × (last : Last) × Advances most old middle
      × Ends middle last ending new

  -- A turn is steps, with at most 16 reads.
  abbrev pub Turns : Socket (Counted S) × P → Turn P → Socket (Counted S) → Type 0
  Turns old (turn.Went speaker pace) new = Advances 16 old (new, speaker)
  Turns old (turn.Ended ending) new = Finishes 16 old ending new
