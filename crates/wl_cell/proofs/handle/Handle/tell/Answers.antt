use Rattle.std.proofs.Common.{rules}
use Rattle.wl_cell.proofs.Cuts.{note_splits, joins}
use Rattle.wl_cell.specs.Rule.{took, seen}
use Rattle.wl_cell.proofs.handle.Handle.tell.Goals as goal

pub split_seat-note-requires : goal.split_seat-note-requires
split_seat-note-requires c = (
  search rules,
  search rules,
  note_splits _ _ (took c.self.inside.seat.me.0)
      (seen c.self.inside.seat.me.0) (search rules),
)

pub join_seat-requires : goal.join_seat-requires
join_seat-requires c = (search rules, search rules, search rules, search rules, joins _ _ _ _)
