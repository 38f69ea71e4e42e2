use Rattle.std.proofs.Common.{rules}
use Rattle.wl_cell.proofs.Steps.{takes}
use Rattle.wl_cell.specs.Rule.{took, seen}
use Rattle.wl_cell.proofs.handle.Handle.take.Goals as goal

pub compare_exchange-requires : goal.compare_exchange-requires
compare_exchange-requires c = (
  search rules,
  search rules,
  rw (
    c.word_of-granted.ensures.word,
    c.word_of-taken.ensures.word,
  ) (takes _ _ _ (took c.self.inside.seat.me.0) (seen c.self.inside.seat.me.0)
      (search rules)),
)
