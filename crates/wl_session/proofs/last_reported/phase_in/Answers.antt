use Rattle.std.proofs.Common.{◌≡◌, true, false, refl, sym, ap, ◌∙◌}
use Rattle.wl_types.specs.declared.phases.Phase.TheVariants.{Pending}
use Rattle.wl_types.specs.Phases.{is_end}
use Rattle.wl_session.specs.LastReported.{phase_in}
use Rattle.wl_session.proofs.Order.{live_says}
use Rattle.wl_session.proofs.last_reported.phase_in.Goals as goal

pub returns-then-is_end : goal.returns-then-is_end
returns-then-is_end c =
    let found = c.in-Ok.ensures.found.phase (0, Pending) in
    let ended : is_end (phase_in c.args.last_reported.now c.args.number) ≡ true = ap is_end (sym found)
    ∙ sym c.is_end.ensures ∙ c.if-is_end.true in
    sym (live_says c.args.last_reported.now 0 c.args.number c.requires ∙ rw ended refl)

pub returns-else-is_end : goal.returns-else-is_end
returns-else-is_end c =
    let found = c.in-Ok.ensures.found.phase (0, Pending) in
    let lives : is_end (phase_in c.args.last_reported.now c.args.number) ≡ false = ap is_end (sym found)
    ∙ sym c.is_end.ensures ∙ c.if-is_end.false in
    found ∙ sym (live_says c.args.last_reported.now 0 c.args.number c.requires ∙ rw lives refl)

pub returns-in-Err : goal.returns-in-Err
returns-in-Err c = sym (live_says c.args.last_reported.now 0 c.args.number c.requires
    ∙ rw c.in-Err.ensures.absent.phase refl)
