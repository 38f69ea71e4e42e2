-- Which `Host` a request may name (own): no page of a stranger reads the status by a name that it controls.
use Rattle.std.specs.Prelude.{ℕ, List, [], ◌∷◌, map, take, drop, length, nat_eq, ◌&&◌, ◌||◌, Bool, true, false, codes}
use Rattle.std.specs.Prelude.{string_bytes}
use Rattle.std.specs.Char.{to_ascii_lowercase}
use Rattle.std.specs.List.{list_any, starts_with}
use Rattle.std.specs.Str.{bytes_eq}
use Rattle.wl_status.specs.declared.hosts.Hosts.{Hosts}

-- RFC 9110, section 4.2.3: a host's letters in any case
abbrev pub same_text : List ℕ → List ℕ → Bool
same_text a b = bytes_eq (map to_ascii_lowercase a) (map to_ascii_lowercase b)

-- nothing, or what begins as a port does
abbrev pub is_port : List ℕ → Bool
is_port [] = true
is_port (byte ∷ bytes) = starts_with nat_eq (byte ∷ bytes) (codes ":")

-- RFC 9110, section 7.2: the host's name, and a port or none
abbrev pub names : List ℕ → List ℕ → Bool
names host name = same_text (take (length name) host) name && is_port (drop (length name) host)

-- one of these texts in full, or one of these names with any port or none
abbrev pub is_known : Hosts → List ℕ → Bool
is_known hosts host =
    list_any (λ text. same_text host (string_bytes text)) hosts.in_full.items
    || list_any (λ name. names host (string_bytes name)) hosts.names.items

-- RFC 9112, section 3.2: one `Host` and no more
abbrev pub is_one_known : Hosts → List (List ℕ) → Bool
is_one_known hosts [] = false
is_one_known hosts (host ∷ []) = is_known hosts host
is_one_known hosts (host ∷ other ∷ more) = false
