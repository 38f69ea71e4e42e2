-- What was refused is what the machine refuses in some state, or memory.
use Rattle.std.proofs.Common.{◌≡◌, inl, inr, refl, sym, ap, ◌∙◌}
use Rattle.std.specs.Prelude.{Option, Some, None}
use Rattle.wl_types.specs.declared.refusal.Refusal.{Refusal}
use Rattle.wl_types.specs.Refusals.{refused_or_memory}
use Rattle.wl_machine.specs.State.{State}
use Rattle.wl_machine.specs.Refusals.{refusal}
use Rattle.wl_machine.specs.declared.command.Command.{Command}
use Rattle.wl_manager.specs.Agents.{MayRefuse}

pub may_refuse : (s : State) (command : Command) (r : Refusal) → r ≡ refused_or_memory (refusal s command)
    → MayRefuse command r
may_refuse s command r is = by (refusal s command) refl is
  where
    by : (o : Option Refusal) → refusal s command ≡ o → r ≡ refused_or_memory o → MayRefuse command r
    by None none is = inl is
    by (Some other) some is = inr (s, some ∙ ap Some (sym is))
