use Rattle.std.proofs.Common.{arith, sym, ◌∙◌}
use Rattle.wl_admission.proofs.TokenLines.{origin_more, no_origin_at}
use Rattle.wl_daemon.proofs.entry.keys_of.Goals as goal

pub loop-text-preserved : goal.loop-text-preserved
loop-text-preserved c =
    let step = origin_more (λ t. t.now) c.args.texts.now c.loop-text.text-index _ c.loop-text.keys.items
    c.in-Ok-Some.key (omega arith) c.loop-text.invariant (sym c.in-Ok-Some.ensures ∙ c.in-Ok-Some.field-0-is) in
    grind (arith, step)

pub returns-in-Ok-None-clause-bad : goal.returns-in-Ok-None-clause-bad
returns-in-Ok-None-clause-bad c text is = no_origin_at (λ t. t.now) c.args.texts.now c.loop-text.text-index _
    c.loop-text.keys.items (omega arith) c.loop-text.invariant (sym c.in-Ok-None.ensures ∙ c.in-Ok-None.field-0-is)
