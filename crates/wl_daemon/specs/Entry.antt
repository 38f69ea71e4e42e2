-- Who may come in, by the words of the command line (own).
use Rattle.std.specs.Prelude.{ℕ, ◌+◌, ◌/◌, List, filter, Option, Some, None, option_map, unwrap_or}
use Rattle.std.specs.Prelude.{Bool, not, codes, if◌then◌else◌}
use Rattle.std.specs.List.{list_any}
use Rattle.std.specs.Str.{bytes_eq}
use Rattle.wl_admission.specs.Scopes.{Reach}
use Rattle.wl_admission.specs.Tokens.{origins_of}
use Rattle.wl_admission.specs.declared.places.PlaceLimits.{PlaceLimits}

abbrev pub is_star : List ℕ → Bool
is_star text = bytes_eq text (codes "*")

-- a text that stands for one origin, and not for all
abbrev pub is_named : List ℕ → Bool
is_named text = not (is_star text)

-- the origins of texts, where each has one but for `*`, which stands for all
abbrev pub trusted_reach : List (List ℕ) → Option Reach
trusted_reach texts = option_map (λ origins. if list_any is_star texts then None else Some origins)
    (origins_of (filter is_named texts))

-- a quarter of all connections from one address, rounded up, and all from this machine; or as many as is asked for from
-- each
abbrev pub places_for : ℕ → Option ℕ → PlaceLimits
places_for connections per_address = record {
  in_all = connections;
  by_address = unwrap_or per_address ((connections + 3) / 4);
  by_loopback = unwrap_or per_address connections;
}
