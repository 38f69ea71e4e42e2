use Rattle.std.proofs.Common.{subst}
use Rattle.wl_wire.specs.Greetings.{Judges}
use Rattle.wl_wire.proofs.greeter.Greeter.judge.Goals as goal

pub returns-clause-some : goal.returns-clause-some
returns-clause-some c =
    rw c.in-Some.is (
      c.as_str.result.now,
      subst (λ rules. Judges rules c.as_str.result.now c.args.headers.now c.judge_by.result)
          c.deref-2.ensures c.judge_by.ensures,
    )
