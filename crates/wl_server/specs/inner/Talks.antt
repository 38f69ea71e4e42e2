-- What the parts of a conversation say to each other (own).
use Rattle.std.specs.Prelude.{ℕ, List, Option}
use Rattle.wl_server.specs.Talks.{Ends, Exchange, Exchanges}
use Rattle.wl_server.specs.declared.fault.ServeFault.{ServeFault}
use Rattle.wl_server.specs.declared.talk.Turn.{Turn}
use Rattle.wl_server.specs.declared.talk.Turn.TheVariants.{Went, Ended}
use Rattle.wl_server.specs.declared.transport.Data.{Data}
use Rattle.wl_server.specs.declared.transport.Data.TheVariants.{Text, Binary}

abbrev pub data_bytes : Data → List ℕ
data_bytes (Text bytes) = bytes
data_bytes (Binary bytes) = bytes

module _ {L P : Type 0} (hears : L → List ℕ → L → Type 0) (closes : L → L → Type 0) (says : L → List ℕ → L → Type 0)
    (fails : L → ServeFault → L → Type 0) (answers : P → List ℕ → List ℕ → P → Type 0) where
  -- A message was answered, or the conversation ended.
  abbrev pub Turns : L × P → Turn P → L → Type 0
  Turns old (Went speaker) new = (e : Exchange) × Exchanges hears says answers old e (new, speaker)
  Turns old (Ended fault) new = Ends hears closes says fails answers old.0 fault new
