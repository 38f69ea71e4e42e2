use Rattle.std.proofs.Common.{List}
use Rattle.tungstenite.specs.declared.message.Message.{Message}
use Rattle.wl_server.specs.Sockets.{Idles}
use Rattle.wl_server.proofs.caller.hear.Given as goal

-- only pings and pongs came so far
abbrev pub invariant-loop : goal.invariant-loop
invariant-loop g l = (idle : List Message) × Idles g.S.Read.remaining l.fn.socket idle l.socket
