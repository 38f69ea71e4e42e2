use Rattle.std.proofs.Common.{◌≡◌, subst, Result, Ok, Err}
use Rattle.std.specs.Result.{IsErrAnd}
use Rattle.wl_script.specs.Faults.{IsTooManyTurns}
use Rattle.wl_script.specs.declared.fault.ScriptFault.{ScriptFault}
use Rattle.wl_script.proofs.Audits.{counts_unread}
use Rattle.wl_timeline.proofs.Timelines.{counted, drawn, undrawn}
use Rattle.wl_timeline.proofs.drawing.timeline.Goals as goal

pub returns-clause-ok : goal.returns-clause-ok
returns-clause-ok g c =
    drawn (g.R.Input.rest c.args.reader.now) _ c.in_ok-lines.lines c.write_picture.result
    c.in_ok-lines.ensures.ok c.write_picture.ensures.ok

pub returns-clause-err : goal.returns-clause-err
returns-clause-err g c =
    undrawn (g.R.Input.rest c.args.reader.now) _ c.in_ok-lines.lines c.write_picture.result _ _
    c.in_ok-lines.ensures.ok c.write_picture.ensures.err

pub returns-clause-at_once : goal.returns-clause-at_once
returns-clause-at_once g c =
    counted (g.R.Input.rest c.args.reader.now) _ c.in_ok-lines.lines c.write_picture.result _ _ _
    c.in_ok-lines.ensures.ok c.write_picture.ensures.err

pub returns-in_default-clause-at_once : goal.returns-in_default-clause-at_once
returns-in_default-clause-at_once g c = counts_unread (g.R.Input.rest c.args.reader.now)

-- a fault that is passed on is the one that came
turns_pass : {T : Type 0} (result : Result T ScriptFault) (fault : ScriptFault) (Q : Type 0)
    → IsErrAnd result (λ it. it ≡ fault)
    → (IsTooManyTurns {T = T} (Err fault) → Q) → IsTooManyTurns result → Q
turns_pass (Ok n) fault Q is then turns = absurd turns
turns_pass {T} (Err it) fault Q is then turns = then (subst (λ it. IsTooManyTurns {T = T} (Err it)) is turns)

pub returns-in_err-lines-clause-turns : goal.returns-in_err-lines-clause-turns
returns-in_err-lines-clause-turns g c =
    turns_pass c.from_residual.result c.in_err-lines.field-0.0 _ c.from_residual.ensures.1 c.in_err-lines.ensures.turns
