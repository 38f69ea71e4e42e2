-- The checks of a request that need no state: Web Locks, `LockManager.request()`, in its order.
use Rattle.std.specs.Prelude.{Bool, true, false, ◌&&◌, ◌||◌, [], ◌∷◌, is_some, Option}
use Rattle.wl_types.specs.declared.words.Mode.{Mode}
use Rattle.wl_types.specs.declared.words.Mode.TheVariants.{Exclusive, Shared}
use Rattle.wl_types.specs.declared.ask.Ask.{Ask}
use Rattle.wl_types.specs.declared.refusal.Refusal.{Refusal}
use Rattle.wl_types.specs.declared.refusal.Refusal.TheVariants.{ReservedName, StealIfAvailable, StealShared}
use Rattle.wl_types.specs.declared.refusal.Refusal.TheVariants.{SignalCombined}
use Rattle.wl_types.specs.Names.{is_reserved}
use Rattle.wl_types.specs.Refusals.{refuse_if, first_refusal}

abbrev pub is_shared : Mode → Bool
is_shared Exclusive = false
is_shared Shared = true

abbrev pub ask_refusal : Ask → Option Refusal
ask_refusal ask = first_refusal (
    refuse_if (is_reserved ask.name) ReservedName
    ∷ refuse_if (ask.steal && ask.if_available) StealIfAvailable
    ∷ refuse_if (ask.steal && is_shared ask.mode) StealShared
    ∷ refuse_if (is_some ask.signal && (ask.steal || ask.if_available)) SignalCombined
    ∷ [])
