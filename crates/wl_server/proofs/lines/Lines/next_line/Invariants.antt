use Rattle.wl_server.specs.Lines.{to_come}
use Rattle.wl_server.proofs.Parts.{IsBegun}
use Rattle.wl_server.proofs.lines.Lines.next_line.Given as goal

abbrev pub invariant-loop : goal.invariant-loop
invariant-loop g l = record {
  can_next : (goal.iterator-loop g).can_next l.iterator';
  is_finite : (goal.iterator-loop g).is_finite l.iterator';
  begun : IsBegun (to_come g.R.Read.remaining l.fn.self) l.line.items (to_come g.R.Read.remaining l.self);
}
