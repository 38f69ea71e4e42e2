use Rattle.wl_cli.proofs.daemon.numbers_in.Goals as goal

pub returns-clause-ok : goal.returns-clause-ok
returns-clause-ok c = record {
  connections = c.in_ok-number_in.ensures.ok;
  per_address = c.in_ok-number_if_any.ensures.ok;
  managers = c.in_ok-number_in-2.ensures.ok;
  idle = c.in_ok-number_in-3.ensures.ok;
  loops = c.in_ok-number_if_any-2.ensures.ok;
}
