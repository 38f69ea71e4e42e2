-- What was read from a WebSocket and written to it (own). A socket, its frames and its bytes are the kit's.
use Rattle.std.specs.Prelude.{◌≡◌, ◌≤◌, ◌⊎◌, ℕ, List, [], ◌∷◌, Option, Ok}
use Rattle.tungstenite.specs.Connection.{write_step}
use Rattle.tungstenite.specs.Content.{Content, text, binary}
use Rattle.tungstenite.specs.Socket.{Socket, Reads, Writes, content_of, kind_of}
use Rattle.tungstenite.specs.declared.message.Message.{Message}

module _ {S : Type 0} (remaining : S → Option (List ℕ)) where
  -- pings, pongs and close frames were read, one after another
  abbrev pub Idles : Socket S → List Message → Socket S → Type 0
  Idles old [] new = new ≡ old
  Idles old (m ∷ ms) new = (next : Socket S) × Reads remaining old next (Ok m) × (2 ≤ kind_of m) × Idles next ms new

  -- after some of these this message was read
  abbrev pub Receives : Socket S → Content → Socket S → Type 0
  Receives old content new = (idle : List Message) × (middle : Socket S) × (m : Message)
      × Idles old idle middle × Reads remaining middle new (Ok m) × (content_of m ≡ content)

  -- after some of these this message was read, as a text or as bytes
  abbrev pub Hears : Socket S → List ℕ → Socket S → Type 0
  Hears old message new = Receives old (text message) new ⊎ Receives old (binary message) new

module _ {S : Type 0} (contents : S → Option (List ℕ)) where
  -- a message left as one frame, and nothing waits to be sent
  abbrev pub Sends : Socket S → Content → Socket S → Type 0
  Sends old content new = Writes contents old new (write_step old.conn content) × (new.output ≡ [])

module _ {S : Type 0} (remaining contents : S → Option (List ℕ)) where
  -- a line left as a text, or as bytes, and this text came back
  abbrev pub Asks : Socket S → List ℕ → List ℕ → Socket S → Type 0
  Asks old line reply new = (asked : Socket S) × (Sends contents old (text line) asked
      ⊎ Sends contents old (binary line) asked)
      × Receives remaining asked (text reply) new
