use Rattle.std.proofs.Common.{arith, sym, ◌∙◌}
use Rattle.wl_admission.proofs.TokenLines.{origin_more, no_origin_at}
use Rattle.wl_admission.proofs.token_file.keys_of.Goals as goal

pub loop-word-preserved : goal.loop-word-preserved
loop-word-preserved c =
    let step = origin_more (λ w. w.now) c.args.words.now c.loop-word.word-index _ c.loop-word.keys.items c.in-Some.key
    (omega arith) c.loop-word.invariant (sym c.in_ok-key.ensures ∙ c.in-Some.is) in
    grind (arith, step)

pub returns-in-None : goal.returns-in-None
returns-in-None c = sym (no_origin_at (λ w. w.now) c.args.words.now c.loop-word.word-index _ c.loop-word.keys.items
    (omega arith) c.loop-word.invariant (sym c.in_ok-key.ensures ∙ c.in-None.is))
