use Rattle.std.proofs.Common.{◌∙◌, sym}
use Rattle.wl_manager.proofs.Cutting.{kept_trimmed}
use Rattle.wl_manager.proofs.locked.Locked.trim.Goals as goal

pub invariant_of-self : goal.invariant_of-self
invariant_of-self g c = kept_trimmed c.checkpoint.result _ _ _ _ c.entries-entries.result.now c.checkpoint.new.self c.self.invariant
    (sym c.KEEPS_ALL.ensures ∙ c.if-KEEPS_ALL.false) c.entries-entries.ensures.entries c.entries-entries.ensures.legal
    c.entries-entries.ensures.leads c.checkpoint.ensures.cut c.checkpoint.ensures.unchanged
