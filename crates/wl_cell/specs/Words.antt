-- The word that stands for each phase (own).
use Rattle.std.specs.Prelude.{ℕ, ◌+◌}
use Rattle.wl_types.specs.declared.phases.Phase.{Phase}
use Rattle.wl_types.specs.declared.phases.Phase.TheVariants.{Pending, Granted, Taken, Unavailable, Aborted, Released}
use Rattle.wl_types.specs.declared.phases.Phase.TheVariants.{Stolen}
use Rattle.wl_types.specs.declared.words.Reason.{Reason}
use Rattle.wl_types.specs.declared.words.Reason.TheVariants.{AbortError, TimeoutError, Code}
use Rattle.wl_types.specs.Words.{max_code}

-- the number of each reason: the two named ones, and behind them the codes
abbrev pub reason_number : Reason → ℕ
reason_number AbortError = 0
reason_number TimeoutError = 1
reason_number (Code code) = 2 + code

-- the two named reasons, and the codes from 0 up to the greatest
abbrev pub reason_count : ℕ
reason_count = 3 + max_code

abbrev pub word_of : Phase → ℕ
word_of Pending = 0
word_of Granted = 1
word_of Taken = 2
word_of Unavailable = 3
word_of Released = 4
word_of Stolen = 5
word_of (Aborted reason) = 6 + reason_number reason

-- the words of a cell are those below
abbrev pub word_count : ℕ
word_count = 6 + reason_count
