-- What a connection is told of its agent, and of its grants' tokens (own).
use Rattle.std.specs.Prelude.{◌≡◌, ℕ, List, Bool, true, false, Option, Some, None}
use Rattle.wl_admission.specs.declared.subprotocols.Subprotocol.{Subprotocol}
use Rattle.wl_admission.specs.declared.subprotocols.Subprotocol.TheVariants as subprotocol
use Rattle.wl_server.specs.Fences.{fenced}
use Rattle.wl_server.specs.Peers.{Answers, PushesText}
use Rattle.wl_server.specs.declared.fences.Fence.{Fence}
use Rattle.wl_daemon.specs.declared.member.Member.{Member}

-- tokens are for those whose handshake selected them
abbrev pub wants_fences : Option Subprotocol → Bool
wants_fences None = false
wants_fences (Some subprotocol.Push) = false
wants_fences (Some subprotocol.Fence) = true

-- the same text, or, where there is an epoch, the text with tokens of that epoch
abbrev pub IsFenced : Option ℕ → List ℕ → List ℕ → Type 0
IsFenced None text told = told ≡ text
IsFenced (Some epoch) text told = (fences : List Fence) × (told ≡ fenced epoch fences text)

-- the agent's reply to a message; the epoch stays
abbrev pub Replies : Member → List ℕ → List ℕ → Member → Type 0
Replies old message told new = (text : List ℕ) × Answers old.peer.value message text new.peer.value
    × IsFenced old.epoch text told × (new.epoch ≡ old.epoch)

-- what changed for the agent; the epoch stays
abbrev pub Pushes : Member → List ℕ → Member → Type 0
Pushes old told new = (text : List ℕ) × PushesText old.peer.value text new.peer.value
    × IsFenced old.epoch text told × (new.epoch ≡ old.epoch)

-- nothing changed for the agent
abbrev pub Rests : Member → Member → Type 0
Rests old new = (new.peer.value ≡ old.peer.value) × (new.desk ≡ old.desk) × (new.epoch ≡ old.epoch)
