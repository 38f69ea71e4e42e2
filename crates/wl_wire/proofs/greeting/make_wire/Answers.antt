use Rattle.std.proofs.Common.{sym, subst, ◌∙◌}
use Rattle.wl_wire.proofs.greeting.make_wire.Goals as goal
use Rattle.wl_wire.specs.Greetings.{Begins}

pub returns : goal.returns
returns g c =
    let (messages, frames, masked) = c.from_raw_socket-socket.ensures.limits in
    subst (λ s. Begins s) (sym c.new.ensures) (
    record {
      serves = (c.new-counted.result, c.from_raw_socket-socket.ensures.fresh);
      messages = messages ∙ c.config.ensures.messages;
      frames = frames ∙ c.config.ensures.frames;
      masked = masked ∙ c.config.ensures.masked;
    }
    )
