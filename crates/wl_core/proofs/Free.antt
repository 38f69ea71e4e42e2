-- What holds where nothing is refused.
use Rattle.std.proofs.Common.{◌≡◌, ℕ, Bool, true, false, List, [], ◌∷◌, refl}
use Rattle.std.specs.Prelude.{Option, Some, None, not, nat_le}
use Rattle.wl_types.specs.declared.refusal.Refusal.{Refusal}
use Rattle.wl_types.specs.declared.ask.Ask.{Ask}
use Rattle.wl_types.specs.Refusals.{refuse_if, first_refusal}
use Rattle.wl_machine.specs.declared.command.Command.TheVariants.{Request}
use Rattle.wl_machine.specs.State.{State}
use Rattle.wl_machine.specs.Refusals.{refusal, has_agent, is_inactive, unknown_signal, aborted_signal, live_count}
use Rattle.wl_machine.specs.Refusals.{is_spent}
use Rattle.wl_types.specs.Names.{is_long}
use Rattle.wl_types.specs.Asks.{ask_refusal}
use Rattle.wl_types.specs.declared.refusal.Refusal.TheVariants.{NoSuchAgent, InvalidState, NameTooLong, TooManyRequests}
use Rattle.wl_types.specs.declared.refusal.Refusal.TheVariants.{NumbersSpent}

-- where the first of a list of refusals is none, so is each
rest_free : (o : Option Refusal) (rest : List (Option Refusal)) → first_refusal (o ∷ rest) ≡ None
    → first_refusal rest ≡ None
rest_free None rest free = free
rest_free (Some r) rest free = cc

-- the last of a list of eight
last_free : (a b c d e f g : Option Refusal) (applies : Bool) (r : Refusal)
    → first_refusal (a ∷ b ∷ c ∷ d ∷ e ∷ f ∷ g ∷ refuse_if applies r ∷ []) ≡ None → applies ≡ false
last_free a b c d e f g true r free =
    cc (rest_free g (Some r ∷ []) (rest_free f (g ∷ Some r ∷ [])
    (rest_free e (f ∷ g ∷ Some r ∷ []) (rest_free d (e ∷ f ∷ g ∷ Some r ∷ [])
    (rest_free c (d ∷ e ∷ f ∷ g ∷ Some r ∷ []) (rest_free b (c ∷ d ∷ e ∷ f ∷ g ∷ Some r ∷ [])
    (rest_free a (b ∷ c ∷ d ∷ e ∷ f ∷ g ∷ Some r ∷ []) free)))))))
last_free a b c d e f g false r free = refl

-- a request that nothing refuses has a number
pub request_unspent : (s : State) (agent : ℕ) (ask : Ask) → refusal s (Request agent ask) ≡ None
    → is_spent s.next.request ≡ false
request_unspent s agent ask free =
    last_free (refuse_if (not (has_agent s agent)) NoSuchAgent) (refuse_if (is_inactive s agent) InvalidState)
    (ask_refusal ask) (unknown_signal s agent ask.signal) (aborted_signal s agent ask.signal)
    (refuse_if (is_long ask.name) NameTooLong) (refuse_if (nat_le 65536 (live_count s)) TooManyRequests)
    (is_spent s.next.request) NumbersSpent free
