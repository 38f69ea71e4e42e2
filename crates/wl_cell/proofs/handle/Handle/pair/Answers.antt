use Rattle.std.proofs.Common.{rules}
use Rattle.wl_cell.proofs.Steps.{opens}
use Rattle.wl_cell.proofs.Cuts.{keeper_splits}
use Rattle.wl_cell.proofs.handle.Handle.pair.Goals as goal

pub of_words-requires : goal.of_words-requires
of_words-requires c = rw c.word_of-pending.ensures.word opens

pub split_seat-keepers-requires : goal.split_seat-keepers-requires
split_seat-keepers-requires c = (search rules, search rules, keeper_splits _ _ (search rules))
