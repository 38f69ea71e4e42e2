use Rattle.std.proofs.Common.{◌∙◌, ap, sym, refl}
use Rattle.std.specs.Prelude.{not, ◌&&◌}
use Rattle.wl_machine.specs.Step.{available, new_request}
use Rattle.wl_index.specs.inner.Core.{machine_state}
use Rattle.wl_index.proofs.index.IndexCore.is_unavailable.Goals as goal

pub returns-then-ask : goal.returns-then-ask
returns-then-ask c agent =
    let s = machine_state c.self.inside.agents.rows c.self.inside.locks in
    let r = new_request s agent c.args.ask.now in
    let told = c.is_available.ensures r (sym c.as_str.ensures) refl in
    rw (← c.self.view_is) (ap not told ∙ ap (λ b. b && not (available s r)) (sym c.if-ask.true))
