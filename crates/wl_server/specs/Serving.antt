-- One connection: a handshake, and then a conversation over the WebSocket that it gave (own). The handshake is the
-- kit's.
use Rattle.std.specs.Prelude.{◌≡◌, ◌⊎◌, ℕ, false, List, Option, Some, None, if◌then◌else◌}
use Rattle.tungstenite.specs.Content.{text}
use Rattle.tungstenite.specs.Heads.{Serves}
use Rattle.tungstenite.specs.Socket.{Socket as Inner}
use Rattle.wl_session.specs.Step.{closed}
use Rattle.wl_server.specs.declared.fault.ServeEnd.{ServeEnd}
use Rattle.wl_server.specs.declared.fault.ServeFault.TheVariants.{Handshake, Memory}
use Rattle.wl_server.specs.declared.socket.Socket.{Socket}
use Rattle.wl_server.specs.declared.peer_speaker.PeerSpeaker.{PeerSpeaker}
use Rattle.wl_server.specs.Peers.{Answers}
use Rattle.wl_server.specs.Sockets.{Hears, Sends}
use Rattle.wl_server.specs.Talks.{Talked}

-- a server's socket that shook hands and did nothing since, and takes messages and frames of at most 65,536 bytes, all
-- masked
pub record Begins {S : Type 0} (s : Inner S) : Type 0 where
  pub serves : Serves s
  pub messages : s.conn.config.max_message_size ≡ Some 65536
  pub frames : s.conn.config.max_frame_size ≡ Some 65536
  pub masked : s.conn.config.accept_unmasked_frames ≡ false

module _ {S : Type 0} (remaining contents : S → Option (List ℕ)) where
  -- the handshake failed, and nothing was said; or a peer that didn't open yet answered the messages of such a socket
  abbrev pub IsServed : ServeEnd → Type 0
  IsServed end = ((end.answered ≡ 0) × ((end.fault ≡ Some Handshake) ⊎ (end.fault ≡ Some Memory)))
      ⊎ ((transport new : Socket S) × (peer_speaker : PeerSpeaker) × Begins transport.inner
      × (peer_speaker.peer ≡ closed)
      × Talked (λ old message new. Hears (λ peer_stream. remaining peer_stream.stream) old.inner message new.inner)
      (λ old new. Unit {0})
      (λ old words new. Sends (λ peer_stream. if peer_stream.is_left then None else contents peer_stream.stream)
      old.inner (text words) new.inner)
      (λ old fault new. Unit {0})
      (λ old message words new. Answers old.peer message words new.peer)
      transport peer_speaker end new)
