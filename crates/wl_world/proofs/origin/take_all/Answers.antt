use Rattle.std.proofs.Common.{rules, ◌∙◌}
use Rattle.std.proofs.lemmas.List.{drop_all}
use Rattle.wl_world.proofs.Entries.{none_left}
use Rattle.wl_world.proofs.origin.take_all.Goals as goal

pub returns-clause-entries : goal.returns-clause-entries
returns-clause-entries g c =
    none_left _ _ _ (drop_all c.loop-observation.observation-index c.loop-observation.changed (search rules))
    ∙ c.loop-observation.invariant.entries
