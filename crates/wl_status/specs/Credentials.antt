-- Who may read the status, where a token is wanted (own).
use Rattle.std.specs.Prelude.{ℕ, nat_lt, ◌+◌, List, [], ◌∷◌, map, take, drop, length, ◌==◌, not, Option, Some, None}
use Rattle.std.specs.Prelude.{option_and_then, codes, if◌then◌else◌}
use Rattle.std.specs.Char.{to_ascii_lowercase}
use Rattle.std.specs.List.{prefix_len}
use Rattle.std.specs.Option.{option_or}
use Rattle.std.specs.Result.{result_ok}
use Rattle.std.specs.Str.{bytes_eq}
use Rattle.base64.specs.Engines.{standard}
use Rattle.base64.specs.GeneralPurpose.{decode_of}
use Rattle.wl_admission.specs.Handshakes.{bearer_of_header}
use Rattle.wl_admission.specs.Scopes.{Reach}
use Rattle.wl_admission.specs.Tokens.{Rule, reach_by}
use Rattle.wl_status.specs.declared.routing.Refusal.{Refusal}
use Rattle.wl_status.specs.declared.routing.Refusal.TheVariants as refusal

-- RFC 7617, section 2: a user has no colon
abbrev pub user_len : List ℕ → ℕ
user_len pair = prefix_len (λ byte. not (byte == 58)) pair

-- what stands behind the first colon is the password
abbrev pub password_in : List ℕ → Option (List ℕ)
password_in pair = if nat_lt (user_len pair) (length pair) then Some (drop (user_len pair + 1) pair) else None

-- RFC 7617, section 2; RFC 9110, section 11.1: the scheme's letters in any case
abbrev pub basic_pair_of : List ℕ → Option (List ℕ)
basic_pair_of header =
    if bytes_eq (map to_ascii_lowercase (take 6 header)) (codes "basic ")
    then result_ok (decode_of standard (drop 6 header)) else None

-- the token of an `Authorization` header: a bearer's, or a password
abbrev pub token_of : List ℕ → Option (List ℕ)
token_of header = option_or (bearer_of_header header) (option_and_then password_in (basic_pair_of header))

-- A token that opens some origins alone doesn't let the locks of all be read.
abbrev pub fault_by : Option Reach → Option Refusal
fault_by None = Some refusal.NoToken
fault_by (Some None) = None
fault_by (Some (Some origins)) = Some refusal.Forbidden

abbrev pub headers_fault : List Rule → List (List ℕ) → Option Refusal
headers_fault rules [] = Some refusal.NoToken
headers_fault rules (header ∷ []) = fault_by (option_and_then (reach_by rules) (token_of header))
headers_fault rules (header ∷ other ∷ more) = Some refusal.BadRequest

-- Why these `Authorization` headers don't let the status be read. Where no token is wanted none is looked at.
abbrev pub access_fault : Option (List Rule) → List (List ℕ) → Option Refusal
access_fault None headers = None
access_fault (Some rules) headers = headers_fault rules headers
