-- What the parts of a turn say to each other (own).
use Rattle.std.specs.Prelude.{◌≡◌, ◌⊎◌, ℕ, List, [], Option}
use Rattle.tungstenite.specs.Socket.{Socket}
use Rattle.wl_wire.specs.Turns.{Advances, Finishes}
use Rattle.wl_wire.specs.Wires.{Falls, Puts}
use Rattle.wl_wire.specs.declared.counted.Counted.{Counted}
use Rattle.wl_wire.specs.declared.turn.Stepped.{Stepped}
use Rattle.wl_wire.specs.declared.turn.Stepped.TheVariants as stepped
use Rattle.wl_wire.specs.declared.wire.Sending.{Sending}
use Rattle.wl_wire.specs.declared.wire.Sending.TheVariants as sending

module _ {S P : Type 0} (remaining contents : S → Option (List ℕ)) (answers : P → List ℕ → List ℕ → P → Type 0)
    (pushes : P → List ℕ → P → Type 0) (rests : P → P → Type 0) where
  -- where a step lets another follow, nothing waits
  abbrev pub Steps : ℕ → Socket (Counted S) × P → Stepped P → Socket (Counted S) → Type 0
  Steps most old (stepped.Went speaker) new = Advances remaining contents answers pushes rests most old (new, speaker)
      × (new.output ≡ [])
  Steps most old (stepped.Stops speaker) new = Advances remaining contents answers pushes rests most old (new, speaker)
  Steps most old (stepped.Ended ending) new = Finishes remaining contents answers pushes rests most old ending new

module _ {S P : Type 0} (contents : S → Option (List ℕ)) (answers : P → List ℕ → List ℕ → P → Type 0) where
  -- A message that came was answered by a text, which left whole or waits; or there is no answer, or it won't leave
  -- whole.
  abbrev pub Answered : Socket (Counted S) × P → List ℕ → Stepped P → Socket (Counted S) → Type 0
  Answered old message (stepped.Went speaker) new = ((words : List ℕ) × answers old.1 message words speaker
      × Puts contents old.0 words new) × (new.output ≡ [])
  Answered old message (stepped.Stops speaker) new = (words : List ℕ) × answers old.1 message words speaker
      × Puts contents old.0 words new
  Answered old message (stepped.Ended ending) new = (new ≡ old.0)
      ⊎ ((words : List ℕ) × (next : P) × answers old.1 message words next × Falls contents old.0 words new)

-- what a connection does after what was to leave
abbrev pub stepped_by : {P : Type 0} → Sending → P → Stepped P
stepped_by sending.Left speaker = stepped.Went speaker
stepped_by sending.Waits speaker = stepped.Stops speaker
stepped_by (sending.Failed ending) speaker = stepped.Ended ending
