use Rattle.std.proofs.Common.{◌≡◌, []}
use Rattle.wl_wire.specs.Turns.{Advances}
use Rattle.wl_wire.proofs.turn.take_steps.Given as goal

-- so many steps were taken, and nothing waits to leave
abbrev pub invariant-loop-taken : goal.invariant-loop-taken
invariant-loop-taken g l =
    Advances g.S.Read.remaining g.S.Write.contents g.P.Speaker.answers g.P.Speaker.pushes g.P.Speaker.rests l.taken
    (l.fn.wire.socket, l.fn.speaker) (l.wire.socket, l.speaker)
    × (l.wire.socket.output ≡ [])
