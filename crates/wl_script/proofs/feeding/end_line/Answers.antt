use Rattle.std.proofs.Common.{rules}
use Rattle.std.proofs.KnownBytes.{Keeps-refl}
use Rattle.wl_script.proofs.Pieces.{handed_on, no_front, Breaks-long, Breaks-memory, Breaks-line, Fed-line}
use Rattle.wl_script.proofs.Entries.{counted_line}
use Rattle.wl_script.proofs.feeding.end_line.Goals as goal
use Rattle.wl_script.proofs.feeding.end_line.Goals.{then-is_empty+in_ok-answer_line}
use Rattle.wl_script.proofs.feeding.end_line.Goals.{else-is_empty+in-Ok+in_ok-answer_line-2}

pub returns-then-is_too_long-clause-breaks : goal.returns-then-is_too_long-clause-breaks
returns-then-is_too_long-clause-breaks g c = Breaks-long _ _ _ _ _ c.requires.open_end c.requires.no_lf (search rules)
    (Keeps-refl _)

pub returns-in_err-answer_line-clause-breaks : goal.returns-in_err-answer_line-clause-breaks
returns-in_err-answer_line-clause-breaks g c =
    handed_on c.from_residual.result c.in_err-answer_line.field-0.0 _ c.from_residual.ensures.1
    (Breaks-line c.args.limit _ c.args.bytes.now c.args.bytes.now _ _ c.requires.open_end c.requires.no_lf
    (no_front _ _ (search rules)) (search rules) c.in_err-answer_line.ensures.err)

pub returns-in_default-clause-breaks : goal.returns-in_default-clause-breaks
returns-in_default-clause-breaks g c = Breaks-memory _ _ _ _ c.requires.open_end (Keeps-refl _)

pub returns-in_err-answer_line-2-clause-breaks : goal.returns-in_err-answer_line-2-clause-breaks
returns-in_err-answer_line-2-clause-breaks g c =
    handed_on c.from_residual-in_err-answer_line-2.result c.in_err-answer_line-2.field-0.0 _
    c.from_residual-in_err-answer_line-2.ensures.1
    (Breaks-line c.args.limit _ c.args.bytes.now c.deref-else-is_empty.result.now _ _ c.requires.open_end
    c.requires.no_lf (search rules) (search rules) c.in_err-answer_line-2.ensures.err)

pub returns-clause-fed : goal.returns-clause-fed
returns-clause-fed g c = elim c.if-is_empty.branch [
  | then-is_empty+in_ok-answer_line w ↦ Fed-line c.args.limit _ c.args.bytes.now c.args.bytes.now _ c.requires.open_end
      c.requires.no_lf (no_front _ _ (search rules)) (search rules) (search rules) (search rules) (search rules)
      (search rules)
  | else-is_empty+in-Ok+in_ok-answer_line-2 w ↦ Fed-line c.args.limit _ c.args.bytes.now
      w.deref-else-is_empty.result.now _ c.requires.open_end c.requires.no_lf (search rules) (search rules)
      (search rules)
      (search rules) (search rules) (search rules)
]

pub returns-clause-entries : goal.returns-clause-entries
returns-clause-entries g c = elim c.if-is_empty.branch [
  | then-is_empty+in_ok-answer_line w ↦ counted_line _ _ _ _ _ c.args.bytes.now c.args.bytes.now _ c.requires.open_end
      c.requires.no_lf (no_front _ _ (search rules)) (search rules) (search rules) (search rules)
  | else-is_empty+in-Ok+in_ok-answer_line-2 w ↦ counted_line _ _ _ _ _ c.args.bytes.now w.deref-else-is_empty.result.now
      _ c.requires.open_end c.requires.no_lf (search rules) (search rules) (search rules) (search rules)
]
