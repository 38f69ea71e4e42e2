use Rattle.std.proofs.Common.{◌∙◌}
use Rattle.wl_world.proofs.Covered.{added_index, added_values}
use Rattle.wl_world.proofs.agent_index.add.Goals as goal

pub returns-clause-index : goal.returns-clause-index
returns-clause-index c =
    added_index c.note_others.new.live.entries c.insert.new.self.entries c.note_others.new.agent_index.entries
    c.enlist.new.agent_index.entries c.in_ok-phase.ensures.index c.in_ok-insert.ensures.ordered
    c.args.agent c.args.number c.in_ok-phase.phase c.in_ok-insert.ensures.updates c.in_ok-enlist.ensures.mine
    c.in_ok-enlist.ensures.others

pub returns-clause-added : goal.returns-clause-added
returns-clause-added c =
    added_values c.args.agent c.args.number c.in_ok-phase.phase c.note_others.new.live c.insert.new.self.entries
    c.in_ok-phase.ensures.index.ordered c.in_ok-phase.ensures.index.numbers c.in_ok-phase.ensures.greatest
    c.in_ok-insert.ensures.entries
    ∙ c.in_ok-phase.ensures.with_changes c.args.agent
