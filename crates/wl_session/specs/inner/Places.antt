-- Where a number stands in a list by number (own).
use Rattle.std.specs.Prelude.{◌≡◌, ℕ, ◌+◌, ◌<◌, ◌≤◌, List, length, take, drop, slice_index_or, Some, None}
use Rattle.wl_types.specs.declared.phases.Phase.TheVariants.{Pending}
use Rattle.wl_session.specs.LastReported.{RequestPhase, before, beyond, phase_in, found_in}

-- it stands at that place
pub record IsAt (ls : List RequestPhase) (n at : ℕ) : Type 0 where
  pub in_range : at < length ls
  pub lower : take at ls ≡ before n ls
  pub higher : drop (at + 1) ls ≡ beyond n ls
  pub number : (d : RequestPhase) → (slice_index_or ls at d).0 ≡ n
  pub phase : (d : RequestPhase) → (slice_index_or ls at d).1 ≡ phase_in ls n
  pub found : (d : RequestPhase) → found_in ls n ≡ Some (slice_index_or ls at d).1

-- it is not there, and would go to that place
pub record IsGapFor (ls : List RequestPhase) (n at : ℕ) : Type 0 where
  pub in_range : at ≤ length ls
  pub lower : take at ls ≡ before n ls
  pub higher : drop at ls ≡ beyond n ls
  pub phase : phase_in ls n ≡ Pending
  pub none_found : found_in ls n ≡ None
