use Rattle.std.specs.Arc.{arc_value}
use Rattle.wl_wire.proofs.Judging.{refused_for_memory}
use Rattle.wl_wire.proofs.greeter.Greeter.accept.Goals as goal

pub returns-then-is_err-clause-refused : goal.returns-then-is_err-clause-refused
returns-then-is_err-clause-refused c = refused_for_memory arc_value c.args.headers.now c.args.self.now.rules
