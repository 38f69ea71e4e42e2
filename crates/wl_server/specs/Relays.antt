-- Relaying: each line of a reader is asked, and its reply is written before the next line is read (own).
use Rattle.std.specs.Prelude.{◌≡◌, ◌⊎◌, ◌≤◌, ℕ, ◌-◌, ◌^◌, List, [], ◌∷◌, ◌++◌, length, min, Option, Result, Ok, Err}
use Rattle.std.specs.Io.KnownBytes.{Appends, Keeps, IsAtEnd}
use Rattle.wl_server.specs.Lines.{GivesLine, GivesTooLong}
use Rattle.wl_server.specs.Sockets.{Asks}
use Rattle.wl_server.specs.Talks.{Exchange, Exchanged}
use Rattle.tungstenite.specs.Socket.{Socket}
use Rattle.wl_server.specs.declared.fault.RelayFault.{RelayFault}
use Rattle.wl_server.specs.declared.fault.RelayFault.TheVariants.{Handshake, Ended, Read, Write, LineTooLong, Memory}

-- what a reader has left, and what a writer holds, where they are known
abbrev pub Ports : Type 0
Ports = Option (List ℕ) × Option (List ℕ)

-- the reader gave a line
abbrev pub Takes : Ports → List ℕ → Ports → Type 0
Takes old line new = GivesLine old.0 line new.0 × (length line ≤ 65536) × (new.1 ≡ old.1)

-- a reply was written, and LF
abbrev pub Puts : Ports → List ℕ → Ports → Type 0
Puts old reply new = (new.0 ≡ old.0) × Appends old.1 new.1 (reply ++ 10 ∷ [])

module _ {A : Type 0} (asks : A → List ℕ → List ℕ → A → Type 0) where
  -- where n replies were written, relaying went no further, for this reason
  abbrev pub Stops : ℕ → Ports × A → RelayFault → Option (List ℕ) → Type 0
  Stops n last Handshake held = ⊥
  Stops n last (Read m) held = (m ≡ n) × Keeps last.0.1 held
  Stops n last (LineTooLong m) held = (m ≡ n) × GivesTooLong last.0.0 65536 × Keeps last.0.1 held
  Stops n last (Ended m) held = (m ≡ n) × ((line : List ℕ) × (came : Ports) × Takes last.0 line came)
      × Keeps last.0.1 held
  Stops n last (Write m) held = (m ≡ n) × ((line reply part more : List ℕ) × (came : Ports) × (asked : A)
      × Takes last.0 line came
      × asks last.1 line reply asked × (reply ++ 10 ∷ [] ≡ part ++ more) × Appends last.0.1 held part)
  Stops n last Memory held = Keeps last.0.1 held

  -- where n replies were written, relaying ended: all lines were asked, or it went no further
  abbrev pub Finishes : ℕ → Ports × A → Result ℕ RelayFault → Option (List ℕ) → Type 0
  Finishes n last (Ok m) held = (m ≡ n) × IsAtEnd last.0.0 × Keeps last.0.1 held
  Finishes n last (Err fault) held = Stops n last fault held

  -- The lines were asked in turn, and each reply was written before the next line was taken; then relaying ended.
  pub record Relayed (given held : Option (List ℕ)) (asker : A) (result : Result ℕ RelayFault)
      (new : Option (List ℕ)) : Type 0 where
    pub exchanges : List Exchange
    pub last : Ports × A
    pub exchanged : Exchanged Takes Puts asks ((given, held), asker) exchanges last
    pub finishes : Finishes (min (length exchanges) (2 ^ 64 - 1)) last result new

-- A connection was taken up, and lines were relayed over it; or it wasn't, and nothing was written.
abbrev pub RelaysOver : {S : Type 0} → (S → Option (List ℕ)) → (S → Option (List ℕ)) → Option (List ℕ) → Option (List ℕ)
    → Result ℕ RelayFault → Option (List ℕ) → Type 0
RelaysOver {S} remaining contents given held result new = ((start : Socket S)
    × Relayed (Asks remaining contents) given held start result new)
    ⊎ (((result ≡ Err Handshake) ⊎ (result ≡ Err Memory)) × Keeps held new)
