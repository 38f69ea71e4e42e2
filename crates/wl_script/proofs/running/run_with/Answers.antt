use Rattle.std.proofs.Common.{refl}
use Rattle.wl_script.specs.declared.fault.ScriptFault.TheVariants.{Memory}
use Rattle.wl_script.proofs.AtOnce.{at_once_unread}
use Rattle.wl_script.proofs.running.run_with.Goals as goal

pub returns-in_default-clause-at_once : goal.returns-in_default-clause-at_once
returns-in_default-clause-at_once g c = at_once_unread (Memory 0) (g.R.Input.rest c.args.reader.now) refl
