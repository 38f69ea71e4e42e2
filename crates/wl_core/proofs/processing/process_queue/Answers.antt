use Rattle.std.proofs.Common.{◌≡◌, length}
use Rattle.wl_machine.specs.Grants.{grants, locks, queue}
use Rattle.wl_machine.proofs.Fronts.{processed_by}
use Rattle.wl_core.proofs.processing.process_queue.Goals as goal

pub returns-clause-processed : goal.returns-clause-processed
returns-clause-processed c =
    let counted : c.grant_count-count.result ≡ length (grants (locks c.args.name.now c.args.held.now.items)
    (queue c.args.name.now c.args.pending.now.items)) = rw (← c.deref.ensures.value, ← c.deref-2.ensures.value)
    c.grant_count-count.ensures in
    processed_by _ _ _ _ _ _ _ _ counted c.move_first.ensures.held c.move_first.ensures.pending
    c.move_first.ensures.changes
