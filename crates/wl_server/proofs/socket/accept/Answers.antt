use Rattle.std.proofs.Common.{sym, subst, refl, ◌∙◌}
use Rattle.tungstenite.specs.Heads.{Serves}
use Rattle.wl_server.proofs.socket.accept.Goals as goal

pub returns-in-Ok-clause-begins : goal.returns-in-Ok-clause-begins
returns-in-Ok-clause-begins g c =
    let (heard, (stream, fresh)) = c.in-Ok.ensures.value in
    let (messages, frames, masked) = c.set_config.ensures.limits in
    let (most, longest, none_unmasked) = c.default.ensures in
    record {
      serves = subst (λ s. Serves s) (sym c.set_config.ensures.same) (
        heard,
        (
          stream,
          record {
            on_stream = fresh.on_stream;
            nothing_read = fresh.nothing_read;
            nothing_waits = fresh.nothing_waits;
            has_role = fresh.has_role;
            is_active = fresh.is_active;
            no_fragments = fresh.no_fragments;
          },
        ),
      );
      messages = messages ∙ rw (c.read_buffer_size.ensures, c.max_frame_size.ensures, c.max_message_size.ensures) refl;
      frames = frames ∙ rw (c.read_buffer_size.ensures, c.max_frame_size.ensures) refl;
      masked = masked ∙ rw (c.read_buffer_size.ensures, c.max_frame_size.ensures, c.max_message_size.ensures)
          none_unmasked;
    }
