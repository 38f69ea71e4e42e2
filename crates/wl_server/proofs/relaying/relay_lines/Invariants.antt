use Rattle.std.proofs.Common.{◌≡◌, ◌-◌, ◌^◌, List, length, min}
use Rattle.wl_server.specs.Lines.{to_come}
use Rattle.wl_server.specs.Talks.{Exchange, Exchanged}
use Rattle.wl_server.specs.Relays.{Takes, Puts}
use Rattle.wl_server.proofs.relaying.relay_lines.Given as goal

-- the lines so far were asked
abbrev pub invariant-loop : goal.invariant-loop
invariant-loop g l = (es : List Exchange)
    × Exchanged Takes Puts g.A.Asker.asks ((g.I.Read.remaining l.fn.reader, g.O.Write.contents l.fn.writer), l.fn.asker)
    es
    ((to_come g.I.Read.remaining l.lines, g.O.Write.contents l.writer), l.asker)
    × (l.written ≡ min (length es) (2 ^ 64 - 1))
