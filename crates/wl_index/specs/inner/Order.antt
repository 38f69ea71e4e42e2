-- The order of grants (own).
use Rattle.std.specs.Prelude.{ℕ, Option, List, map, filter, nat_le, slice_get}
use Rattle.wl_index.specs.declared.request.Place.{Place}
use Rattle.wl_index.specs.inner.GrantOrder.{by_grant_seq}
use Rattle.wl_index.specs.inner.Rows.{Entry, holding, grant_seq_of}

-- a lock's grant sequence and number
abbrev pub place_of : Entry → Place
place_of e = record { grant_seq = grant_seq_of e; number = e.0 }

-- the places of the locks, by number
abbrev pub places_of : List Entry → List Place
places_of es = map place_of (filter holding es)

-- the places from a grant sequence on
abbrev pub from_grant_seq : ℕ → List Place → List Place
from_grant_seq low places = filter (λ p. nat_le low p.grant_seq) places

-- the first place in the order of grants
abbrev pub first_of : List Place → Option Place
first_of places = slice_get (by_grant_seq (λ p. p.grant_seq) places) 0
