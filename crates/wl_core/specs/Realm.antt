-- Realms (own): a manager for each key, and no two of them touch.
use Rattle.std.specs.Prelude.{◌≡◌, List, [], ◌∷◌, map, filter, Option, if◌then◌else◌}
use Rattle.std.specs.Option.{option_map_or}
use Rattle.std.specs.BTreeMap.{is_at}
use Rattle.std.specs.Map.{lookup, set_value}
use Rattle.std.specs.declared.cmp.Ordering.{Ordering}
use Rattle.wl_types.specs.declared.phases.Numbers.{Numbers}
use Rattle.wl_machine.specs.declared.command.Command.{Command}
use Rattle.wl_machine.specs.State.{State, opening}
use Rattle.wl_machine.specs.Step.{step, state_after}

-- what is kept at a key, and the list with something else there
abbrev pub at_key : {K X : Type 0} → (K → K → Ordering) → List (K × X) → K → Option X
at_key cmp entries key = lookup (is_at (cmp key)) entries

abbrev pub with_at : {K X : Type 0} → (K → K → Ordering) → List (K × X) → K → X → List (K × X)
with_at cmp entries key value = set_value (is_at (cmp key)) entries value

-- the numbers that a realm's managers begin with
abbrev pub all_ones : Numbers
all_ones = record { agent = 1; request = 1; signal = 1 }

-- the realm that some cores are: the state of each key. A key without a core has the opening state
abbrev pub realm_of : {K C : Type 0} → (K → K → Ordering) → (C → State) → List (K × C) → K → State
realm_of cmp state cores key = option_map_or state (at_key cmp cores key) (opening all_ones)

-- a command with a key steps that key's state
abbrev pub realm_step : {K : Type 0} → (K → K → Ordering) → (K → State) → K → Command → K → State
realm_step cmp realm key command other = if is_at (cmp key) other then (step (realm other) command).state
    else realm other

abbrev pub realm_after : {K : Type 0} → (K → K → Ordering) → List (K × Command) → (K → State) → K → State
realm_after cmp [] realm = realm
realm_after cmp (c ∷ commands) realm = realm_after cmp commands (realm_step cmp realm c.0 c.1)

-- the commands with a key
abbrev pub part : {K : Type 0} → (K → K → Ordering) → K → List (K × Command) → List Command
part cmp key commands = map (λ c. c.1) (filter (λ c. is_at (cmp c.0) key) commands)

-- the state of a key after some commands is its state after the commands with that key
abbrev pub KeysStandApart : {K : Type 0} → (K → K → Ordering) → Type 0
KeysStandApart {K} cmp = (key : K) (commands : List (K × Command)) (realm : K → State) →
    realm_after cmp commands realm key ≡ state_after (part cmp key commands) (realm key)
