-- Where the daemon is to listen (own).
use Rattle.std.specs.Prelude.{◌≡◌, ◌≢◌, List, [], ◌++◌, Option, Some, None, unwrap_or, codes}
use Rattle.std.specs.List.{AllZip, Contains}
use Rattle.std.specs.Net.Grammar.{IsSocketText}
use Rattle.clap.specs.Words.{Row, Text, all_of}
use Rattle.std.specs.declared.net.socket_addr.SocketAddr.{SocketAddr}
use Rattle.wl_cli.specs.declared.endpoint.Endpoint.{Endpoint}
use Rattle.wl_cli.specs.declared.endpoint.Endpoint.TheVariants.{Tcp, Unix}

-- Where a text says to listen: on the socket of the path behind `unix:`, or else at an address and a port.
abbrev pub IsEndpointText : Text → Endpoint → Type 0
IsEndpointText text (Unix path) = (text ≡ codes "unix:" ++ path.now) × (path.now ≢ [])
IsEndpointText text (Tcp address) = ((path : Text) → text ≢ codes "unix:" ++ path) × IsSocketText text address

abbrev pub address_of : Endpoint → Option SocketAddr
address_of (Tcp address) = Some address
address_of (Unix path) = None

abbrev pub HasNoEndpoint : Text → Type 0
HasNoEndpoint text = (endpoint : Endpoint) → IsEndpointText text endpoint → ⊥

abbrev pub SomeIsWrong : List Text → Type 0
SomeIsWrong texts = (text : Text) × Contains texts text × HasNoEndpoint text

-- `--listen` may be given again
abbrev pub listen_texts : List Row → List Text
listen_texts rows = unwrap_or (all_of (codes "listen") rows) []

-- there is somewhere to listen, and each text says where
pub record ListensAt (rows : List Row) (endpoints : List Endpoint) : Type 0 where
  pub each : AllZip IsEndpointText (listen_texts rows) endpoints
  pub some : endpoints ≢ []

abbrev pub HasWrongEndpoint : List Row → Type 0
HasWrongEndpoint rows = SomeIsWrong (listen_texts rows)
