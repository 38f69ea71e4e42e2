-- What only the code of this crate says (own), beside `Keepers`.
use Rattle.std.specs.Prelude.{◌≡◌, ◌⊎◌, ◌==◌, ◌&&◌, ℕ, Bool, IsTrue, List, [], ◌∷◌}
use Rattle.std.specs.List.{list_any}
use Rattle.wl_types.specs.Phases.{is_end}
use Rattle.wl_types.specs.declared.phases.Phase.{Phase}
use Rattle.wl_types.specs.declared.phases.Change.{Change}
use Rattle.wl_cell.specs.Seats.{may_settle}

-- whether these changes end the request of this number
abbrev pub ends_request : ℕ → List Change → Bool
ends_request id changes = list_any (λ change. change.id == id && is_end change.phase) changes

-- there is one keeper, and it is at the phase or may publish it
abbrev pub MayPublish : List Phase → Phase → Type 0
MayPublish before to = (from : Phase) × (before ≡ from ∷ []) × ((from ≡ to) ⊎ IsTrue (may_settle from to))

-- what changes of one number find: none, or one that the keeper may publish
abbrev pub MayPublishAll : List Phase → List Phase → Type 0
MayPublishAll before [] = Unit {0}
MayPublishAll before (to ∷ more) = MayPublish before to × (more ≡ [])

-- the phases after changes of one number
abbrev pub after : List Phase → List Phase → List Phase
after [] before = before
after (to ∷ more) before = to ∷ []
