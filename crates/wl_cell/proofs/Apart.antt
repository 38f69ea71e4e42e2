-- No two phases share a word.
use Rattle.std.proofs.Common.{◌≡◌, ℕ, refl, ap, arith}
use Rattle.wl_types.specs.declared.phases.Phase.{Phase}
use Rattle.wl_types.specs.declared.phases.Phase.TheVariants.{Pending, Granted, Taken, Unavailable, Aborted, Released}
use Rattle.wl_types.specs.declared.phases.Phase.TheVariants.{Stolen}
use Rattle.wl_types.specs.declared.words.Reason.{Reason}
use Rattle.wl_types.specs.declared.words.Reason.TheVariants.{AbortError, TimeoutError, Code}
use Rattle.wl_cell.specs.Words.{word_of, reason_number}
use Rattle.wl_cell.specs.Laws.{WordsTellPhasesApart}

reasons_apart : (a b : Reason) → reason_number a ≡ reason_number b → a ≡ b
reasons_apart AbortError AbortError e = refl
reasons_apart TimeoutError TimeoutError e = refl
reasons_apart (Code a) (Code b) e = let same : a ≡ b = omega arith in ap (λ (code : ℕ). Code code) same
reasons_apart a b e = absurd (omega arith)

pub words_apart : WordsTellPhasesApart
words_apart Pending Pending e = refl
words_apart Granted Granted e = refl
words_apart Taken Taken e = refl
words_apart Unavailable Unavailable e = refl
words_apart Released Released e = refl
words_apart Stolen Stolen e = refl
words_apart (Aborted a) (Aborted b) e = let same : reason_number a ≡ reason_number b = omega arith
    in ap (λ (reason : Reason). Aborted reason) (reasons_apart a b same)
words_apart a b e = absurd (omega arith)
