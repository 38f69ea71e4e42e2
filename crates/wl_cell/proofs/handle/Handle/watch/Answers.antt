use Rattle.std.proofs.Common.{rules}
use Rattle.wl_cell.proofs.Cuts.{watch_splits}
use Rattle.wl_cell.specs.Rule.{took, seen}
use Rattle.wl_cell.proofs.handle.Handle.watch.Goals as goal

pub split_seat-seat-requires : goal.split_seat-seat-requires
split_seat-seat-requires c = (
  search rules,
  search rules,
  watch_splits _ _ (took c.self.inside.seat.me.0)
      (seen c.self.inside.seat.me.0) (search rules),
)
