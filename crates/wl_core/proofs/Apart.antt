-- Commands with other keys play no part.
use Rattle.std.proofs.Common.{◌≡◌, Bool, true, false, List, [], ◌∷◌, refl, ◌∙◌}
use Rattle.std.specs.BTreeMap.{is_at}
use Rattle.std.specs.declared.cmp.Ordering.{Ordering}
use Rattle.wl_machine.specs.declared.command.Command.{Command}
use Rattle.wl_machine.specs.State.{State}
use Rattle.wl_machine.specs.Step.{state_after}
use Rattle.wl_core.specs.Realm.{realm_step, part, KeysStandApart}

-- one command, and then those with the key
then_part : {K : Type 0} (cmp : K → K → Ordering) (key : K) (c : K × Command) (commands : List (K × Command))
    (realm : K → State) (b : Bool) → is_at (cmp c.0) key ≡ b
    → state_after (part cmp key commands) (realm_step cmp realm c.0 c.1 key)
    ≡ state_after (part cmp key (c ∷ commands)) (realm key)
then_part cmp key c commands realm true here = rw here refl
then_part cmp key c commands realm false here = rw here refl

pub apart : {K : Type 0} (cmp : K → K → Ordering) → KeysStandApart cmp
apart cmp key [] realm = refl
apart cmp key (c ∷ commands) realm = apart cmp key commands (realm_step cmp realm c.0 c.1)
    ∙ then_part cmp key c commands realm (is_at (cmp c.0) key) refl
