use Rattle.wl_wire.proofs.Steps.{sent}
use Rattle.wl_wire.proofs.turn.send_waiting.Goals as goal

pub returns : goal.returns
returns g c =
    rw c.after_sending.ensures (
    sent g.S.Read.remaining g.S.Write.contents g.P.Speaker.answers g.P.Speaker.pushes g.P.Speaker.rests
    c.flush-sending.result _ _ _
    c.flush-sending.ensures.sent
    c.flush-sending.ensures.empty
    )
