-- What only the code of this crate says (own), beside `Worlds`.
use Rattle.std.specs.Prelude.{ℕ, List, Bool, Option, Some, None, if◌then◌else◌}
use Rattle.wl_world.specs.World.{with_label}
use Rattle.wl_world.specs.declared.label.Label.{Label}

-- the label that is left
abbrev pub left : Bool → Label → Option Label
left closed label = if closed then None else Some label

-- a label that closed is unopened
abbrev pub closing : (List ℕ → Option Label) → List ℕ → Bool → List ℕ → Option Label
closing labels name closed = if closed then with_label labels name None else labels
