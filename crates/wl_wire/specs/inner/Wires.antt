-- What became of what was to leave, as the parts of a wire say it to each other (own).
use Rattle.std.specs.Prelude.{◌≡◌, ℕ, List, [], Option}
use Rattle.tungstenite.specs.Failure.{IsIo}
use Rattle.tungstenite.specs.Socket.{Socket}
use Rattle.tungstenite.specs.declared.error.Error.{Error}
use Rattle.wl_wire.specs.Endings.{ending_for}
use Rattle.wl_wire.specs.Wires.{Falls, Puts}
use Rattle.wl_wire.specs.declared.counted.Counted.{Counted}
use Rattle.wl_wire.specs.declared.wire.Sending.{Sending}
use Rattle.wl_wire.specs.declared.wire.Sending.TheVariants.{Left, Waits, Failed}

-- what an error says of what was to leave: it waits just where the stream blocks
abbrev pub Unsent : Error → Sending → Type 0
Unsent e Left = ⊥
Unsent e Waits = IsIo e
Unsent e (Failed ending) = ending ≡ ending_for e

module _ {S : Type 0} (contents : S → Option (List ℕ)) where
  -- a text left and all before it, some of it waits, or it won't leave whole
  abbrev pub Says : Sending → Socket (Counted S) → List ℕ → Socket (Counted S) → Type 0
  Says Left old words new = Puts contents old words new × (new.output ≡ [])
  Says Waits old words new = Puts contents old words new
  Says (Failed ending) old words new = Falls contents old words new
