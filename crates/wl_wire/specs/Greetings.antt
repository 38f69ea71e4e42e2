-- What comes of a handshake (own). What a header, a socket, its role and its limits are is the kit's.
use Rattle.std.specs.Prelude.{◌≡◌, ◌≢◌, ℕ, false, List, codes, map, Some, Option, None, option_map, Result, Ok, Err, ⊤}
use Rattle.http_header.specs.FieldValue.{FieldValue, plain_value}
use Rattle.http_header.specs.HeaderMap.{Entries, get_all, insert}
use Rattle.tungstenite.specs.Socket.{Socket, IsFresh}
use Rattle.tungstenite.specs.declared.Role.TheVariants.{Server}
use Rattle.wl_admission.specs.Handshakes.{Terms, name_of, terms_for, terms_of}
use Rattle.wl_admission.specs.Scopes.{reach_of}
use Rattle.wl_admission.specs.Tokens.{rules_of}
use Rattle.wl_admission.specs.declared.admitting.Admitted.{Admitted}
use Rattle.wl_admission.specs.declared.admitting.Rules.{Rules}
use Rattle.wl_admission.specs.declared.rejection.Rejection.{Rejection}
use Rattle.wl_admission.specs.declared.rejection.Rejection.TheVariants.{BadHeader, Memory}
use Rattle.wl_admission.specs.declared.subprotocols.Subprotocol.{Subprotocol}
use Rattle.wl_wire.specs.declared.counted.Counted.{Counted}
use Rattle.wl_wire.specs.declared.greeting.Greeted.{Greeted}
use Rattle.wl_wire.specs.declared.greeting.Greeted.TheVariants.{Open}

-- the values of a header, in the order in which they came
abbrev pub values_of : Entries FieldValue → List ℕ → List (List ℕ)
values_of headers name = map (λ value. value.bytes) (get_all headers name)

-- what comes of a handshake with this target and these headers, by a server's rules
abbrev pub terms_in : Rules → List ℕ → Entries FieldValue → Result Terms Rejection
terms_in rules target headers =
    terms_of rules.is_sharded (reach_of rules.trusted) (option_map rules_of rules.tokens) rules.has_fences target
    (values_of headers (codes "origin")) (values_of headers (codes "authorization"))
    (values_of headers (codes "sec-websocket-protocol"))

-- that comes of it, unless one of these headers is no text, or memory ran out
abbrev pub Judges : Rules → List ℕ → Entries FieldValue → Result Admitted Rejection → Type 0
Judges rules target headers (Ok admitted) = terms_in rules target headers ≡ Ok (terms_for admitted)
Judges rules target headers (Err reason) = reason ≢ BadHeader → reason ≢ Memory
    → terms_in rules target headers ≡ Err reason

-- an answer's headers, once it says which subprotocol is selected: RFC 6455, section 4.2.2
abbrev pub selecting : Option Subprotocol → Entries FieldValue → Entries FieldValue
selecting None headers = headers
selecting (Some subprotocol) headers =
    insert headers (codes "sec-websocket-protocol") (plain_value (name_of subprotocol))

-- A handshake with these headers is admitted by its target, and the answer, which had these headers before, says which
-- subprotocol is selected.
abbrev pub Accepts : Rules → Entries FieldValue → Entries FieldValue → Entries FieldValue → Type 0
Accepts rules headers before after = (target : List ℕ) × (terms : Terms)
    × (terms_in rules target headers ≡ Ok terms) × (after ≡ selecting terms.selected before)

-- such a handshake is refused for this reason
abbrev pub Refuses : Rules → Entries FieldValue → Rejection → Type 0
Refuses rules headers reason = (target : List ℕ) × Judges rules target headers (Err reason)

-- a server's socket over which nothing was read or written yet, and that takes messages and frames of at most 65,536
-- bytes, all masked
pub record Begins {S : Type 0} (s : Socket (Counted S)) : Type 0 where
  pub serves : (stream : Counted S) × IsFresh s stream Server
  pub messages : s.conn.config.max_message_size ≡ Some 65536
  pub frames : s.conn.config.max_frame_size ≡ Some 65536
  pub masked : s.conn.config.accept_unmasked_frames ≡ false

-- such a socket, where the handshake is done
abbrev pub Opens : {S : Type 0} → Greeted S → Type 0
Opens (Open wire admitted) = Begins wire.socket
Opens greeted = ⊤
