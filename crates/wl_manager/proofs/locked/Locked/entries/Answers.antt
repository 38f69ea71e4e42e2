use Rattle.wl_manager.proofs.Cutting.{shown, all_shown}
use Rattle.wl_manager.proofs.locked.Locked.entries.Goals as goal

pub returns-clause-legal : goal.returns-clause-legal
returns-clause-legal g c = all_shown _ c.self.inside.book c.entries.result.now c.self.invariant.journal
    c.entries.ensures.legal

pub returns-clause-cut : goal.returns-clause-cut
returns-clause-cut g c = shown _ _ c.args.self.now c.entries.result.now c.self.view_is c.self.invariant.journal
    c.entries.ensures.legal
