use Rattle.wl_codec.proofs.Said.{line_said, line_reads}
use Rattle.wl_codec.proofs.laws.lines_are_read_as_said.Goals as goal

pub returns : goal.returns
returns c = λ d agent m. (line_said d agent m, line_reads d agent m)
