-- A conversation: messages that come, each answered before the next (own).
use Rattle.std.specs.Prelude.{◌≡◌, ◌⊎◌, ℕ, ◌-◌, ◌^◌, List, [], ◌∷◌, length, min, Option, None, Some}
use Rattle.wl_server.specs.declared.fault.ServeEnd.{ServeEnd}
use Rattle.wl_server.specs.declared.fault.ServeFault.{ServeFault}
use Rattle.wl_server.specs.declared.fault.ServeFault.TheVariants.{Memory}

-- a message and its reply
abbrev pub Exchange : Type 0
Exchange = List ℕ × List ℕ

module _ {L P : Type 0} (hears : L → List ℕ → L → Type 0) (says : L → List ℕ → L → Type 0)
    (answers : P → List ℕ → List ℕ → P → Type 0) where
  -- a message came, was answered, and its reply was sent
  abbrev pub Exchanges : L × P → Exchange → L × P → Type 0
  Exchanges old e new = (came : L) × hears old.0 e.0 came × answers old.1 e.0 e.1 new.1 × says came e.1 new.0

  -- one exchange after another
  abbrev pub Exchanged : L × P → List Exchange → L × P → Type 0
  Exchanged old [] new = new ≡ old
  Exchanged old (e ∷ es) new = (next : L × P) × Exchanges old e next × Exchanged next es new

module _ {L P : Type 0} (hears : L → List ℕ → L → Type 0) (closes : L → L → Type 0) (says : L → List ℕ → L → Type 0)
    (fails : L → ServeFault → L → Type 0) (answers : P → List ℕ → List ℕ → P → Type 0) where
  -- The peer closed, before its next message or before the reply to it; or the transport failed, where the next message
  -- was due or its reply; or there was no memory for the reply.
  abbrev pub Ends : L → Option ServeFault → L → Type 0
  Ends old None new = closes old new ⊎ ((message : List ℕ) × (came : L) × hears old message came × closes came new)
  Ends old (Some fault) new = fails old fault new
      ⊎ ((message : List ℕ) × (came : L) × hears old message came
      × (((fault ≡ Memory) × (new ≡ came)) ⊎ fails came fault new))

  -- The messages were answered in turn, and each reply was sent before the next message was taken; then the
  -- conversation ended.
  pub record Talked (transport : L) (speaker : P) (end : ServeEnd) (new : L) : Type 0 where
    pub exchanges : List Exchange
    pub last : L × P
    pub exchanged : Exchanged hears says answers (transport, speaker) exchanges last
    pub count : end.answered ≡ min (length exchanges) (2 ^ 64 - 1)
    pub ends : Ends last.0 end.fault new
