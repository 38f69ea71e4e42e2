use Rattle.std.proofs.Common.{rules}
use Rattle.wl_cell.proofs.Steps.{aborts}
use Rattle.wl_cell.proofs.handle.Handle.abort.Goals as goal

pub compare_exchange-found-requires : goal.compare_exchange-found-requires
compare_exchange-found-requires c = (
  search rules,
  search rules,
  rw (c.word_of-granted.ensures.word, c.word_of-aborted.ensures.word)
      (aborts _ _ _ c.args.reason (search rules) c.word_of-aborted.ensures.range),
)
