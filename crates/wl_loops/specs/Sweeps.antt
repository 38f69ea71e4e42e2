-- What a look at all connections of a loop does, and what a loop does that was held up (own).
use Rattle.std.specs.Prelude.{◌≡◌, ℕ, Option, None, Some, IfSome, option_map}
use Rattle.slab.specs.Slab.{Slab, get}
use Rattle.wl_liveness.specs.Liveness.{due_of, after_ping, spared}
use Rattle.wl_liveness.specs.declared.limits.Limits.{Limits}
use Rattle.wl_liveness.specs.declared.liveness.Due.{Due}
use Rattle.wl_liveness.specs.declared.liveness.Due.TheVariants.{Nothing, Ping, End}
use Rattle.wl_liveness.specs.declared.liveness.Liveness.{Liveness}

module _ {C : Type 0} (liveness_of : C → Liveness) where
  -- What is due is done, pings at the time that they are sent. A connection whose peer can't be pinged ends, and one for
  -- which nothing is due is left as it was.
  abbrev pub Does : Due → ℕ → C → Option C → Type 0
  Does End sent old new = new ≡ None
  Does Ping sent old new = IfSome new (λ one. liveness_of one ≡ after_ping (liveness_of old) sent)
  Does Nothing sent old new = new ≡ Some old

  -- what is due for the connection of a key is done, and there is no other
  abbrev pub Watched : ℕ → ℕ → Limits → Option C → Option C → Type 0
  Watched now sent limits None new = new ≡ None
  Watched now sent limits (Some old) new = Does (due_of (liveness_of old) now limits) sent old new

  -- at each key
  abbrev pub EachWatched : ℕ → ℕ → Limits → Slab C → Slab C → Type 0
  EachWatched now sent limits old new = (key : ℕ) → Watched now sent limits (get old key) (get new key)

  -- the time counts for nothing at the connection of a key, if there is one, and there is no other
  abbrev pub Spared : ℕ → Option C → Option C → Type 0
  Spared time old new = option_map liveness_of new ≡ option_map (λ one. spared (liveness_of one) time) old

  -- at each key
  abbrev pub EachSpared : ℕ → Slab C → Slab C → Type 0
  EachSpared time old new = (key : ℕ) → Spared time (get old key) (get new key)
