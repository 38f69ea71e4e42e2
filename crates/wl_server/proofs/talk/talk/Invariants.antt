use Rattle.std.proofs.Common.{◌≡◌, ◌-◌, ◌^◌, List, length, min}
use Rattle.wl_server.specs.Talks.{Exchange, Exchanged}
use Rattle.wl_server.proofs.talk.talk.Given as goal

-- the messages so far were answered
abbrev pub invariant-loop : goal.invariant-loop
invariant-loop g l = (es : List Exchange)
    × Exchanged g.L.Transport.hears g.L.Transport.says g.P.Speaker.answers (l.fn.transport, l.fn.speaker) es
    (l.transport, l.speaker)
    × (l.answered ≡ min (length es) (2 ^ 64 - 1))
