use Rattle.std.proofs.Common.{rules, None}
use Rattle.std.proofs.lemmas.Map.Text.{hash_map_updates_text}
use Rattle.wl_world.specs.Worlds.{labels_of}
use Rattle.wl_world.proofs.Named.{set, closes}
use Rattle.wl_world.proofs.labels.remove_closed.Goals as goal

pub returns-then-closed : goal.returns-then-closed
returns-then-closed c =
    closes (labels_of c.args.labels.now) (labels_of c.remove.new.self) c.args.name.now c.args.closed (search rules)
    (set (labels_of c.args.labels.now) (labels_of c.remove.new.self) c.args.name.now None
    (hash_map_updates_text c.args.name.now c.args.labels.now c.remove.new.self None c.remove.ensures.updates))
