use Rattle.wl_server.proofs.Words.{words_compare}
use Rattle.wl_server.proofs.fences.words_compare_as_tokens.Goals as goal

pub returns : goal.returns
returns c = words_compare
