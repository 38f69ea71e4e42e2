use Rattle.std.proofs.Common.{inl, refl, rules, string_bytes}
use Rattle.wl_wire.proofs.Steps.{answered}
use Rattle.wl_wire.proofs.turn.answer.Goals as goal

pub returns-in-Text : goal.returns-in-Text
returns-in-Text g c =
    let says : g.P.Speaker.answers c.args.speaker c.args.given.now (string_bytes c.in-Text.text)
    c.in-Ok.next = search rules in
    rw c.after_sending.ensures (
    answered g.S.Write.contents g.P.Speaker.answers c.put-replying.result _ _ _ _ _ (string_bytes c.in-Text.text) says
    c.put-replying.ensures
    )

pub returns-in-End : goal.returns-in-End
returns-in-End g c = inl refl

pub returns-in-Err : goal.returns-in-Err
returns-in-Err g c = inl refl
