-- What only the code of this crate says (own), beside `Rule`.
use Rattle.std.specs.Prelude.{Bool}
use Rattle.wl_types.specs.declared.phases.Phase.{Phase}
use Rattle.wl_types.specs.declared.phases.Phase.TheVariants.{Pending}
use Rattle.wl_cell.specs.declared.view.View.{View}
use Rattle.wl_cell.specs.declared.view.View.TheVariants.{Keeper, Owner, Watch}

-- the views of the three ends between calls
abbrev pub keeper_at : Phase → View
keeper_at settled = Keeper settled

abbrev pub owner_at : Bool → Phase → View
owner_at t s = Owner t s

abbrev pub watch_at : Phase → View
watch_at s = Watch s Pending
