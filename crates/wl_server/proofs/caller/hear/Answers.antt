use Rattle.std.proofs.Common.{List, ◌≡◌, true, refl, ap, sym, ◌∙◌, [], ◌∷◌, ◌++◌, rules}
use Rattle.std.proofs.lemmas.Result.{on_ok_weaker}
use Rattle.tungstenite.specs.Content.{text}
use Rattle.tungstenite.specs.Socket.{content_of}
use Rattle.tungstenite.specs.declared.message.Message.{Message}
use Rattle.wl_server.specs.Sockets.{Idles}
use Rattle.wl_server.proofs.Sockets.{idles_more, idle}
use Rattle.wl_server.proofs.caller.hear.Given.{Over}
use Rattle.wl_server.proofs.caller.hear.Goals.{Else-not-is_idle}
use Rattle.wl_server.proofs.caller.hear.Goals as goal

pub loop-init : goal.loop-init
loop-init g c = ([], refl)

pub returns-in-Ok-Text : goal.returns-in-Ok-Text
returns-in-Ok-Text g c =
    let (before, all) = c.loop.invariant in
    on_ok_weaker c.copy.result (λ is. (
      before,
      c.loop.socket,
      c.in-Ok-Text.field-0,
      all,
      rw c.in-Ok-Text.is at c.read.ensures,
      ap content_of c.in-Ok-Text.field-0-is ∙ ap text (sym (is ∙ c.as_str.ensures)),
    )) c.copy.ensures

-- one more that is a ping or a pong
more : (g : Over) (c : Else-not-is_idle g) → (before : List Message)
    × Idles g.S.Read.remaining c.args.socket.now before c.read.new.self
more g c =
    let (before, all) = c.loop.invariant in
    let so : c.is_idle.result ≡ true = search rules in (
      before ++ c.in-Ok.message ∷ [],
      idles_more g.S.Read.remaining before c.in-Ok.message c.args.socket.now
          c.loop.socket c.read.new.self all (rw c.in-Ok.is at c.read.ensures)
          (idle c.in-Ok.message (sym c.is_idle.ensures ∙ so)),
    )

pub loop-preserved-else-not-is_idle-5 : goal.loop-preserved-else-not-is_idle-5
loop-preserved-else-not-is_idle-5 g c = more g (goal.at.loop-preserved-else-not-is_idle-5 g c).Else-not-is_idle

pub loop-preserved-else-not-is_idle-6 : goal.loop-preserved-else-not-is_idle-6
loop-preserved-else-not-is_idle-6 g c = more g (goal.at.loop-preserved-else-not-is_idle-6 g c).Else-not-is_idle

pub loop-preserved-else-not-is_idle-7 : goal.loop-preserved-else-not-is_idle-7
loop-preserved-else-not-is_idle-7 g c = more g (goal.at.loop-preserved-else-not-is_idle-7 g c).Else-not-is_idle

pub loop-preserved-else-not-is_idle-8 : goal.loop-preserved-else-not-is_idle-8
loop-preserved-else-not-is_idle-8 g c = more g (goal.at.loop-preserved-else-not-is_idle-8 g c).Else-not-is_idle
