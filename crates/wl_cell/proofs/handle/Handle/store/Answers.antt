use Rattle.std.proofs.Common.{rules}
use Rattle.wl_cell.proofs.Steps.{stores}
use Rattle.wl_cell.proofs.handle.Handle.store.Goals as goal

pub store-requires : goal.store-requires
store-requires c = (
  search rules,
  search rules,
  rw c.word_of-word.ensures.word
      (stores _ _ _ c.requires.0 c.args.phase (search rules) c.requires.2 c.word_of-word.ensures.range),
)
