-- What goes over a wire (own). A socket, its frames and its bytes are the kit's.
use Rattle.std.specs.Prelude.{◌≡◌, ◌≤◌, ◌⊎◌, ℕ, false, List, [], Option, None, Some, Result, Ok, Err, IsErr, ⊤}
use Rattle.tungstenite.specs.CloseCode.{close_code_number}
use Rattle.tungstenite.specs.Connection.{close_step, write_step}
use Rattle.tungstenite.specs.Content.{ping, text, binary}
use Rattle.tungstenite.specs.Failure.{IsIo}
use Rattle.tungstenite.specs.Socket.{Socket, Reads, Writes, Flushed, close_of, content_of, has_kind, kind_of}
use Rattle.tungstenite.specs.declared.error.Error.{Error}
use Rattle.tungstenite.specs.declared.message.CloseFrame.{CloseFrame}
use Rattle.tungstenite.specs.declared.message.Message.{Message}
use Rattle.wl_wire.specs.declared.counted.Counted.{Counted}
use Rattle.wl_wire.specs.declared.wire.Sending.{Sending}
use Rattle.wl_wire.specs.declared.wire.Sending.TheVariants.{Failed}

module _ {S : Type 0} (remaining : S → Option (List ℕ)) where
  -- a read gave this
  abbrev pub Yields : Socket (Counted S) → Result Message Error → Socket (Counted S) → Type 0
  Yields old result new = Reads (λ counted. remaining counted.stream) old new result

  -- this message came, as a text or as bytes
  abbrev pub Hears : Socket (Counted S) → List ℕ → Socket (Counted S) → Type 0
  Hears old message new = (m : Message) × Yields old (Ok m) new
      × ((content_of m ≡ text message) ⊎ (content_of m ≡ binary message))

  -- a ping or a pong came, or no frame that is whole
  abbrev pub Idles : Socket (Counted S) → Socket (Counted S) → Type 0
  Idles old new = ((m : Message) × Yields old (Ok m) new × (2 ≤ kind_of m) × (has_kind 4 m ≡ false))
      ⊎ ((e : Error) × Yields old (Err e) new × IsIo e)

module _ {S : Type 0} (contents : S → Option (List ℕ)) where
  -- some of what waited left
  abbrev pub Sends : Socket (Counted S) → Socket (Counted S) → Type 0
  Sends old new = Flushed (λ counted. contents counted.stream) old new

  -- a text joined what waits, as one frame, and some of that left
  abbrev pub Puts : Socket (Counted S) → List ℕ → Socket (Counted S) → Type 0
  Puts old words new = Writes (λ counted. contents counted.stream) old new (write_step old.conn (text words))

  -- a text won't leave whole: it didn't join what waits, or the stream failed, or no text may follow a close frame
  abbrev pub Falls : Socket (Counted S) → List ℕ → Socket (Counted S) → Type 0
  Falls old words new = (new ≡ old) ⊎ (Puts old words new ⊎ IsErr (write_step old.conn (text words)))

  -- nothing was done, or nothing waited and a ping was sent
  abbrev pub Pings : Sending → Socket (Counted S) → Socket (Counted S) → Type 0
  Pings (Failed ending) old new = ⊤
  Pings sending old new = (new ≡ old) ⊎ ((old.output ≡ []) × Writes (λ counted. contents counted.stream) old new
      (write_step old.conn (ping [])))

  -- a close frame of this number joined what waits; where there is none for the ending, some of what waited left
  abbrev pub Closes : Sending → Option ℕ → Socket (Counted S) → Socket (Counted S) → Type 0
  Closes (Failed ending) number old new = ⊤
  Closes sending None old new = Sends old new
  Closes sending (Some number) old new = (frame : CloseFrame) × (close_code_number frame.code ≡ number)
      × Writes (λ counted. contents counted.stream) old new (close_step old.conn (close_of (Some frame)))
