use Rattle.std.proofs.Common.{string_bytes, ◌∙◌, ap, Ok}
use Rattle.wl_server.specs.inner.Talks.{data_bytes}
use Rattle.wl_server.proofs.talk.take_turn.Goals as goal

pub returns-in-Ok-Sent : goal.returns-in-Ok-Sent
returns-in-Ok-Sent g c = (
  (data_bytes c.in-Ok-Some.data, string_bytes c.in-Ok.text),
  (
    c.receive.new.self,
    rw c.in-Ok-Some.field-0-is at c.in-Ok-Some.ensures.heard,
    rw c.bytes.ensures at c.in-Ok.ensures,
    rw c.as_str.ensures.value at (c.send.ensures.said (c.in-Ok-Sent.is ∙ ap Ok c.in-Ok-Sent.field-0-is)),
  ),
)
