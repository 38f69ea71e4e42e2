use Rattle.wl_wire.proofs.turn.stop.Goals as goal

pub returns-in-Went : goal.returns-in-Went
returns-in-Went g c = c.in-Went.ensures.0
