-- What holds of a request that nothing refuses.
use Rattle.std.proofs.Common.{◌≡◌, ℕ, Bool, true, false, List, [], ◌∷◌, refl, subst}
use Rattle.std.specs.Prelude.{Option, Some, None, not, nat_le}
use Rattle.wl_types.specs.Asks.{ask_refusal}
use Rattle.wl_types.specs.Names.{is_long}
use Rattle.wl_types.specs.Refusals.{refuse_if, first_refusal}
use Rattle.wl_types.specs.declared.ask.Ask.{Ask}
use Rattle.wl_types.specs.declared.refusal.Refusal.{Refusal}
use Rattle.wl_types.specs.declared.refusal.Refusal.TheVariants.{InvalidState, NameTooLong, NoSuchSignal, NumbersSpent}
use Rattle.wl_types.specs.declared.refusal.Refusal.TheVariants.{TooManyRequests}
use Rattle.wl_machine.specs.State.{State}
use Rattle.wl_machine.specs.Refusals.{refusal, has_agent, has_signal, is_inactive, known_agent, unknown_signal}
use Rattle.wl_machine.specs.Refusals.{aborted_signal, live_count, is_spent}
use Rattle.wl_machine.specs.declared.command.Command.TheVariants as command

-- where the first of a list of refusals is none, it is none, and so is the first of the rest
pub first_none : (o : Option Refusal) (rest : List (Option Refusal)) → first_refusal (o ∷ rest) ≡ None
    → (o ≡ None) × (first_refusal rest ≡ None)
first_none None rest none = (refl, none)
first_none (Some r) rest none = absurd (cc)

pub not_refused : (b : Bool) (r : Refusal) → refuse_if b r ≡ None → b ≡ false
not_refused true r none = absurd (cc)
not_refused false r none = refl

not_not : (b : Bool) → not b ≡ false → b ≡ true
not_not true h = refl
not_not false h = absurd (cc)

pub record Accepted (s : State) (agent : ℕ) (ask : Ask) : Type 0 where
  pub live : has_agent s agent ≡ true
  pub allowed : ask_refusal ask ≡ None
  pub made : (signal : ℕ) → ask.signal ≡ Some signal → has_signal s agent signal ≡ true
  pub few : nat_le 65536 (live_count s) ≡ false
  pub low : is_spent s.next.request ≡ false

pub request_accepted : (s : State) (agent : ℕ) (ask : Ask) → refusal s (command.Request agent ask) ≡ None
    → Accepted s agent ask
request_accepted s agent ask accepted =
    let eighth = refuse_if (is_spent s.next.request) NumbersSpent ∷ [] in
    let seventh = refuse_if (nat_le 65536 (live_count s)) TooManyRequests ∷ eighth in
    let sixth = refuse_if (is_long ask.name) NameTooLong ∷ seventh in
    let fifth = aborted_signal s agent ask.signal ∷ sixth in
    let fourth = unknown_signal s agent ask.signal ∷ fifth in
    let third = ask_refusal ask ∷ fourth in
    let a = first_none (known_agent s agent) (refuse_if (is_inactive s agent) InvalidState ∷ third) accepted in
    let b = first_none (refuse_if (is_inactive s agent) InvalidState) third a.1 in
    let c = first_none (ask_refusal ask) fourth b.1 in
    let d = first_none (unknown_signal s agent ask.signal) fifth c.1 in
    let e = first_none (aborted_signal s agent ask.signal) sixth d.1 in
    let f = first_none (refuse_if (is_long ask.name) NameTooLong) seventh e.1 in
    let g = first_none (refuse_if (nat_le 65536 (live_count s)) TooManyRequests) eighth f.1 in
    let h = first_none (refuse_if (is_spent s.next.request) NumbersSpent) [] g.1 in
    record {
      live = not_not (has_agent s agent) (not_refused (not (has_agent s agent)) _ a.0);
      allowed = c.0;
      made = λ signal is. not_not (has_signal s agent signal)
          (not_refused (not (has_signal s agent signal)) NoSuchSignal
          (subst (λ o. unknown_signal s agent o ≡ None) is d.0));
      few = not_refused (nat_le 65536 (live_count s)) TooManyRequests g.0;
      low = not_refused (is_spent s.next.request) NumbersSpent h.0;
    }
