use Rattle.std.proofs.Common.{inr}
use Rattle.wl_server.proofs.serving.serve_with_hooks.Goals as goal

pub returns-in-Ok : goal.returns-in-Ok
returns-in-Ok g c = inr (c.in-Ok.socket, c.talk.new.transport, _, c.in-Ok.ensures.begins, c.new.ensures, c.talk.ensures)
