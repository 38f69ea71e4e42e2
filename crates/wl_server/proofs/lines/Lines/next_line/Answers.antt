use Rattle.std.proofs.Common.{Ok, rules, ap}
use Rattle.std.specs.Io.KnownBytes.{prepend_known}
use Rattle.wl_server.specs.Lines.{to_come}
use Rattle.wl_server.proofs.Parts.{begins, next_piece, ends, last_line, no_line, too_long, IsBegun, some_byte, no_byte}
use Rattle.wl_server.proofs.Parts.{none}
use Rattle.wl_server.proofs.lines.Lines.next_line.Given.{Over}
use Rattle.wl_server.proofs.lines.Lines.next_line.Goals.{In-Ok}
use Rattle.wl_server.proofs.lines.Lines.next_line.Goals as goal

-- a line that has not ended, and what comes after the next piece is read
begun : (g : Over) (c : In-Ok g) → IsBegun (to_come g.R.Read.remaining c.args.self.now) c.take_part.new.line.items
    (prepend_known c.read.new.self (g.R.Read.remaining c.read.new.reader))
begun g c =
    let is = ap Ok c.in-Ok-false.field-0-test in
    next_piece (to_come g.R.Read.remaining c.args.self.now) (to_come g.R.Read.remaining c.loop.self)
    (g.R.Read.remaining c.take_part.new.self.reader) (g.R.Read.remaining c.read.new.reader) c.take_part.new.self.piece
    c.read.new.self
    c.loop.line.items c.take_part.new.line.items c.loop.invariant.begun (c.in-Ok-false.ensures.open is)
    (c.in-Ok-false.ensures.used is) c.in-Ok.ensures.given

pub loop-init : goal.loop-init
loop-init g c = record {
  can_next = search rules;
  is_finite = search rules;
  begun = rw c.clear.ensures.items (begins _);
}

pub loop-preserved : goal.loop-preserved
loop-preserved g c = record {
  can_next = search rules;
  is_finite = search rules;
  begun = begun g (goal.at.loop-preserved g c).In-Ok;
}

pub returns-in-Ok-true-clause-given : goal.returns-in-Ok-true-clause-given
returns-in-Ok-true-clause-given g c = λ _. ends _ (to_come g.R.Read.remaining c.loop.self) _ c.loop.line.items _
    c.loop.invariant.begun (c.in-Ok-true.ensures.ended (ap Ok c.in-Ok-true.field-0-test))

pub returns-in-Err-clause-long : goal.returns-in-Err-clause-long
returns-in-Err-clause-long g c = λ is.
    let (left, more, long) = c.in-Err.ensures.long is in
    too_long _ (to_come g.R.Read.remaining c.loop.self) left c.loop.line.items c.take_part.new.line.items 65536
    c.loop.invariant.begun more long

pub returns-then-is_empty-clause-given : goal.returns-then-is_empty-clause-given
returns-then-is_empty-clause-given g c = λ so.
    let empty = none c.rest.result.now c.read.new.self c.is_empty.result c.rest.ensures c.is_empty.ensures
    c.if-is_empty.true in
    last_line _ _ _ _ (begun g (goal.at.returns-then-is_empty-clause-given g c).In-Ok) empty (c.in-Ok.ensures.end empty)
    (some_byte c.take_part.new.line.items _ c.is_empty-then-is_empty.result (search rules)
    c.is_empty-then-is_empty.ensures so)

pub returns-then-is_empty-clause-end : goal.returns-then-is_empty-clause-end
returns-then-is_empty-clause-end g c = λ so.
    let empty = none c.rest.result.now c.read.new.self c.is_empty.result c.rest.ensures c.is_empty.ensures
    c.if-is_empty.true in
    no_line _ _ _ _ (begun g (goal.at.returns-then-is_empty-clause-end g c).In-Ok) empty (c.in-Ok.ensures.end empty)
    (no_byte c.take_part.new.line.items _ c.is_empty-then-is_empty.result (search rules)
    c.is_empty-then-is_empty.ensures so)
