-- The realm that some cores are, after a change at one key.
use Rattle.std.proofs.Common.{◌≡◌, Bool, true, false, cond, List, [], ◌∷◌, refl, ap, sym, ◌∙◌}
use Rattle.std.specs.Prelude.{Option, Some, IsSome, if◌then◌else◌}
use Rattle.std.specs.Option.{option_map_or}
use Rattle.std.specs.BTreeMap.{is_at}
use Rattle.std.specs.Map.{lookup}
use Rattle.std.specs.Cmp.{IsTotalOrder, eq_by_cmp_equiv}
use Rattle.std.specs.declared.cmp.Ordering.{Ordering}
use Rattle.std.proofs.lemmas.Map.{lookup-set_value}
use mathlib.Core.Path.{fun_ext}
use Rattle.wl_machine.specs.declared.command.Command.{Command}
use Rattle.wl_machine.specs.declared.command.Reply.{Reply}
use Rattle.wl_machine.specs.State.{State, opening}
use Rattle.wl_machine.specs.Step.{step}
use Rattle.wl_core.specs.Answers.{is_memory, step_result}
use Rattle.wl_core.specs.Realm.{at_key, with_at, all_ones, realm_of, realm_step}

lookup_same : {K X : Type 0} (p q : K → Bool) → ((k : K) → p k ≡ q k) → (es : List (K × X)) → lookup p es ≡ lookup q es
lookup_same p q same [] = refl
lookup_same p q same (e ∷ es) = rw (same e.0) (rw (lookup_same p q same es) refl)

-- equal keys have the same core
equal_keys : {K X : Type 0} (cmp : K → K → Ordering) → IsTotalOrder cmp → (key other : K) → is_at (cmp key) other ≡ true
    → (cores : List (K × X)) → at_key cmp cores key ≡ at_key cmp cores other
equal_keys cmp total key other equal cores = lookup_same (is_at (cmp key)) (is_at (cmp other))
    (λ k. (eq_by_cmp_equiv total).congr key other k equal) cores

chosen : {C : Type 0} (state : C → State) (new : C) (b : Bool) (o : Option C)
    → option_map_or state (cond b (Some new) o) (opening all_ones)
    ≡ (if b then state new else option_map_or state o (opening all_ones))
chosen state new true o = refl
chosen state new false o = refl

-- what another core at a key does to the realm
replaced : {K C : Type 0} (cmp : K → K → Ordering) → IsTotalOrder cmp
    → (state : C → State) (cores : List (K × C)) (key : K) (old new : C) → at_key cmp cores key ≡ Some old
    → (other : K) → realm_of cmp state (with_at cmp cores key new) other
    ≡ (if is_at (cmp key) other then state new else realm_of cmp state cores other)
replaced cmp total state cores key old new there other =
    let found : IsSome (at_key cmp cores key) = rw there refl in
    ap (λ o. option_map_or state o (opening all_ones)) (lookup-set_value (eq_by_cmp_equiv total) (is_at (cmp key))
    (λ x y same. (eq_by_cmp_equiv total).congr key x y same) other new cores found)
    ∙ chosen state new (is_at (cmp key) other) (at_key cmp cores other)

-- the state of an equal key
stood : {K C : Type 0} (cmp : K → K → Ordering) → IsTotalOrder cmp
    → (state : C → State) (cores : List (K × C)) (key other : K) (old : C) → at_key cmp cores key ≡ Some old
    → is_at (cmp key) other ≡ true
    → realm_of cmp state cores other ≡ state old
stood cmp total state cores key other old there same = ap (λ o. option_map_or state o (opening all_ones))
    (sym (equal_keys cmp total key other same cores) ∙ there)

stepped_at : {K : Type 0} (cmp : K → K → Ordering) (realm : K → State) (key other : K) (command : Command) (here : Bool)
    → is_at (cmp key) other ≡ here
    → realm_step cmp realm key command other ≡ (if here then (step (realm other) command).state else realm other)
stepped_at cmp realm key other command here is = ap (λ b. if b then (step (realm other) command).state else realm other)
    is

-- what a command of the core at a key does to the realm
pub applied : {K C : Type 0} (cmp : K → K → Ordering) → IsTotalOrder cmp
    → (state : C → State) (cores after : List (K × C)) (key : K) (old new : C) (command : Command) (reply : Reply)
    → at_key cmp cores key ≡ Some old → after ≡ with_at cmp cores key new
    → state new ≡ (step_result reply (state old) command).state
    → realm_of cmp state after ≡ (if is_memory reply then realm_of cmp state cores
    else realm_step cmp (realm_of cmp state cores) key command)
applied cmp total state cores after key old new command reply there written done =
    fun_ext (λ other. ap (λ r. realm_of cmp state r other) written
    ∙ replaced cmp total state cores key old new there other
    ∙ by_key other (is_at (cmp key) other) refl (is_memory reply) refl)
  where
    by_key : (other : _) (here : Bool) → is_at (cmp key) other ≡ here → (memory : Bool) → is_memory reply ≡ memory
        → (if is_at (cmp key) other then state new else realm_of cmp state cores other)
        ≡ (if is_memory reply then realm_of cmp state cores
        else realm_step cmp (realm_of cmp state cores) key command) other
    by_key other true here true memory = rw (here, memory) ((rw memory at done)
        ∙ sym (stood cmp total state cores key other old there here))
    by_key other true here false memory = rw (here, memory)
        ((rw memory at done) ∙ ap (λ s. (step s command).state)
        (sym (stood cmp total state cores key other old there here))
        ∙ sym (stepped_at cmp (realm_of cmp state cores) key other command true here))
    by_key other false here true memory = rw (here, memory) refl
    by_key other false here false memory = rw (here, memory)
        (sym (stepped_at cmp (realm_of cmp state cores) key other command false here))
