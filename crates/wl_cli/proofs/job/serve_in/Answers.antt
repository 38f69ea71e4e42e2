use Rattle.std.proofs.Common.{arith, refl, rules}
use Rattle.wl_cli.proofs.job.serve_in.Goals as goal

pub returns-then-contains : goal.returns-then-contains
returns-then-contains c = (
  refl,
  c.in_ok-port.ensures,
  c.if-port-ge1.true,
  omega arith,
  c.in_ok-clients.ensures,
  search rules,
  search rules,
)
