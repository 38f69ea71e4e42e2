use Rattle.wl_script.proofs.Scripts.{scripts_are_lines}
use Rattle.wl_script.proofs.laws.scripts_are_lines.Goals as goal

pub returns : goal.returns
returns c = scripts_are_lines
