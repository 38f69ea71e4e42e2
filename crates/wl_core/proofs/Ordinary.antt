-- The machine refuses nothing for want of memory.
use Rattle.std.proofs.Common.{◌≡◌, ℕ, Bool, true, false, List, [], ◌∷◌, length, refl}
use Rattle.std.specs.Prelude.{Option, Some, None, not, ◌&&◌, ◌||◌, nat_le, is_some}
use Rattle.wl_types.specs.declared.words.Reason.{Reason}
use Rattle.wl_types.specs.declared.refusal.Refusal.{Refusal}
use Rattle.wl_types.specs.declared.refusal.Refusal.TheVariants.{InvalidState, ReservedName, StealIfAvailable}
use Rattle.wl_types.specs.declared.refusal.Refusal.TheVariants.{StealShared, SignalCombined, NameTooLong, NoSuchSignal}
use Rattle.wl_types.specs.declared.refusal.Refusal.TheVariants.{TooManyRequests, TooManySignals, TooManyAgents}
use Rattle.wl_types.specs.declared.refusal.Refusal.TheVariants.{NumbersSpent, NoSuchAgent, NotAWindow}
use Rattle.wl_types.specs.declared.ask.Ask.{Ask}
use Rattle.wl_types.specs.Names.{is_long, is_reserved}
use Rattle.wl_types.specs.Asks.{ask_refusal, is_shared}
use Rattle.wl_types.specs.Refusals.{refuse_if, first_refusal}
use Rattle.wl_machine.specs.declared.command.Command.{Command}
use Rattle.wl_machine.specs.declared.command.Command.TheVariants.{Enter, SetActive, NewSignal, Request, Take, Release}
use Rattle.wl_machine.specs.declared.command.Command.TheVariants.{Abort, Terminate, Query}
use Rattle.wl_machine.specs.State.{State}
use Rattle.wl_machine.specs.Refusals.{refusal, refusals, has_agent, is_inactive, is_worker, has_signal, signals_of}
use Rattle.wl_machine.specs.Refusals.{is_spent, live_count, unknown_signal, aborted_signal, aborted_refusal, reason_in}
use Rattle.wl_core.specs.Answers.{is_memory_refusal}

-- whether it is a refusal for want of memory
abbrev pub for_memory : Option Refusal → Bool
for_memory None = false
for_memory (Some r) = is_memory_refusal r

AreOrdinary : List (Option Refusal) → Type 0
AreOrdinary [] = Unit {0}
AreOrdinary (o ∷ os) = (for_memory o ≡ false) × AreOrdinary os

first_ordinary : (os : List (Option Refusal)) → AreOrdinary os → for_memory (first_refusal os) ≡ false
unfolding AreOrdinary
first_ordinary [] all = refl
first_ordinary (None ∷ os) all = first_ordinary os all.1
first_ordinary (Some r ∷ os) all = all.0

if_ordinary : (applies : Bool) (r : Refusal) → is_memory_refusal r ≡ false → for_memory (refuse_if applies r) ≡ false
if_ordinary true r ordinary = ordinary
if_ordinary false r ordinary = refl

asks_ordinary : (ask : Ask) → for_memory (ask_refusal ask) ≡ false
unfolding AreOrdinary
asks_ordinary ask =
    first_ordinary (refuse_if (is_reserved ask.name) ReservedName
    ∷ refuse_if (ask.steal && ask.if_available) StealIfAvailable
    ∷ refuse_if (ask.steal && is_shared ask.mode) StealShared
    ∷ refuse_if (is_some ask.signal && (ask.steal || ask.if_available)) SignalCombined ∷ []) (
      if_ordinary (is_reserved ask.name) ReservedName refl,
      (
        if_ordinary (ask.steal && ask.if_available) StealIfAvailable
            refl,
        (
          if_ordinary (ask.steal && is_shared ask.mode) StealShared refl,
          (if_ordinary (is_some ask.signal && (ask.steal || ask.if_available)) SignalCombined refl, tt),
        ),
      ),
    )

unknown_ordinary : (s : State) (agent : ℕ) (signal : Option ℕ) → for_memory (unknown_signal s agent signal) ≡ false
unknown_ordinary s agent None = refl
unknown_ordinary s agent (Some signal) = if_ordinary (not (has_signal s agent signal)) NoSuchSignal refl

reasons_ordinary : (reason : Option Reason) → for_memory (aborted_refusal reason) ≡ false
reasons_ordinary None = refl
reasons_ordinary (Some reason) = refl

aborted_ordinary : (s : State) (agent : ℕ) (signal : Option ℕ) → for_memory (aborted_signal s agent signal) ≡ false
aborted_ordinary s agent None = refl
aborted_ordinary s agent (Some signal) = reasons_ordinary (reason_in s.signals agent signal)

pub ordinary : (s : State) (command : Command) → for_memory (refusal s command) ≡ false
unfolding AreOrdinary
ordinary s (Enter kind) = first_ordinary (refusals s (Enter kind)) (
  if_ordinary (nat_le 4096 (length s.agents)) TooManyAgents refl,
  (if_ordinary (is_spent s.next.agent) NumbersSpent refl, tt),
)
ordinary s (SetActive agent active) = first_ordinary (refusals s (SetActive agent active))
    (if_ordinary (not (has_agent s agent)) NoSuchAgent refl, (if_ordinary (is_worker s agent) NotAWindow refl, tt))
ordinary s (NewSignal agent) =
    first_ordinary (refusals s (NewSignal agent)) (
      if_ordinary (not (has_agent s agent)) NoSuchAgent refl,
      (
        if_ordinary (nat_le 1024 (length (signals_of agent s.signals))) TooManySignals refl,
        (if_ordinary (is_spent s.next.signal) NumbersSpent refl, tt),
      ),
    )
ordinary s (Request agent ask) =
    first_ordinary (refusals s (Request agent ask)) (
      if_ordinary (not (has_agent s agent)) NoSuchAgent refl,
      (
        if_ordinary (is_inactive s agent) InvalidState refl,
        (
          asks_ordinary ask,
          (
            unknown_ordinary s agent ask.signal,
            (
              aborted_ordinary s agent ask.signal,
              (
                if_ordinary (is_long ask.name) NameTooLong refl,
                (
                  if_ordinary (nat_le 65536 (live_count s)) TooManyRequests refl,
                  (if_ordinary (is_spent s.next.request) NumbersSpent refl, tt),
                ),
              ),
            ),
          ),
        ),
      ),
    )
ordinary s (Take id) = refl
ordinary s (Release agent id) = refl
ordinary s (Abort agent signal reason) = first_ordinary (refusals s (Abort agent signal reason)) (
  if_ordinary (not (has_agent s agent)) NoSuchAgent refl,
  (
    if_ordinary (not (has_signal s agent signal)) NoSuchSignal
        refl,
    tt,
  ),
)
ordinary s (Terminate agent) = first_ordinary (refusals s (Terminate agent))
    (if_ordinary (not (has_agent s agent)) NoSuchAgent refl, tt)
ordinary s (Query agent) = first_ordinary (refusals s (Query agent))
    (if_ordinary (not (has_agent s agent)) NoSuchAgent refl, (if_ordinary (is_inactive s agent) InvalidState refl, tt))
