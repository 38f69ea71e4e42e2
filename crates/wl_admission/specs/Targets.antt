-- The origin that a handshake's target names, at a server of some origins alone (own).
use Rattle.std.specs.Prelude.{ℕ, List, [], ◌∷◌, ◌++◌, drop, length, ◌==◌, ◌||◌, Bool, true, false, Option, Some, None}
use Rattle.std.specs.Prelude.{Ok, Err, Result, codes, if◌then◌else◌}
use Rattle.std.specs.Char.{is_ascii_alphanumeric}
use Rattle.std.specs.List.{flat_map, list_any}
use Rattle.std.specs.Str.{bytes_eq}
use Rattle.std.specs.Str.Lossy.{utf8_lossy}
use Rattle.percent_encoding.specs.Percent.{percent_decode, percent_encode_byte}
use Rattle.wl_origin.specs.Origin.{Tuple, tuple_text}
use Rattle.wl_admission.specs.Scopes.{Reach, tuple_in}
use Rattle.wl_admission.specs.declared.rejection.Rejection.{Rejection}
use Rattle.wl_admission.specs.declared.rejection.Rejection.TheVariants.{BadTarget}

-- ECMAScript, "encodeURIComponent": "uriUnescaped"
unfoldable pub is_unescaped : ℕ → Bool
is_unescaped byte = is_ascii_alphanumeric byte || list_any (λ mark. mark == byte) (codes "-_.!~*'()")

-- ECMAScript, "Encode": any other byte is `%` and its two hexadecimal digits, in upper case
abbrev pub component_byte : ℕ → List ℕ
component_byte byte = if is_unescaped byte then byte ∷ [] else percent_encode_byte byte

-- ECMAScript, "encodeURIComponent", of a text in UTF-8
abbrev pub component : List ℕ → List ℕ
component text = flat_map component_byte text

abbrev pub prefix : List ℕ
prefix = codes "/?origin="

-- The target of an origin: `/?origin=` and its text, as a component.
abbrev pub target_of : Tuple → List ℕ
target_of origin = prefix ++ component (tuple_text origin)

abbrev pub if_own : List ℕ → Option Tuple → Option Tuple
if_own target None = None
if_own target (Some origin) = if bytes_eq target (target_of origin) then Some origin else None

-- The origin whose very target this is. Which origin that can be is what stands behind the prefix, decoded (URL,
-- "percent-decode").
abbrev pub origin_named : List ℕ → Option Tuple
origin_named target = if_own target (tuple_in (utf8_lossy (percent_decode (drop (length prefix) target))))

abbrev pub reach_named : Option Tuple → Result Reach Rejection
reach_named None = Err BadTarget
reach_named (Some origin) = Ok (Some (origin ∷ []))

-- What a handshake with this target may open: at a server that is sharded by origins, only what has the origin that it
-- names.
abbrev pub shard_reach : Bool → List ℕ → Result Reach Rejection
shard_reach false target = Ok None
shard_reach true target = reach_named (origin_named target)
