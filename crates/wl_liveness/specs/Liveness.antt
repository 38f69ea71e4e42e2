-- What is due for a connection (own). Times are milliseconds.
use Rattle.std.specs.Prelude.{ℕ, ◌-◌, ◌+◌, ◌*◌, ◌^◌, min, Bool, nat_le, ◌&&◌, ◌||◌, if◌then◌else◌}
use Rattle.std.specs.Prelude.{None, Some, option_map}
use Rattle.wl_liveness.specs.declared.limits.Limits.{Limits}
use Rattle.wl_liveness.specs.declared.liveness.Due.{Due}
use Rattle.wl_liveness.specs.declared.liveness.Due.TheVariants.{Nothing, Ping, End}
use Rattle.wl_liveness.specs.declared.liveness.Liveness.{Liveness}
use Rattle.wl_liveness.specs.declared.liveness.Liveness.TheVariants.{Handshake, Open, Closing}

-- 10 s for a handshake; a ping after so many seconds of silence, the end after twice as many, and half as many to answer
-- the ping; 2 s and 64 KiB for what comes while closing
abbrev pub limits_for : ℕ → Limits
limits_for seconds = record {
  handshake = 10000;
  ping_after = seconds * 1000;
  end_after = seconds * 2000;
  answer = seconds * 500;
  closing = 2000;
  closing_bytes = 65536;
}

abbrev pub new_liveness : ℕ → Liveness
new_liveness now = Handshake now

abbrev pub opened : ℕ → Liveness
opened now = Open now None

-- bytes came
abbrev pub heard : Liveness → ℕ → Liveness
heard (Handshake since) now = Handshake since
heard (Open last pinged) now = Open now None
heard (Closing since dropped) now = Closing since dropped

-- a ping was sent
abbrev pub after_ping : Liveness → ℕ → Liveness
after_ping (Handshake since) now = Handshake since
after_ping (Open last pinged) now = Open last (Some now)
after_ping (Closing since dropped) now = Closing since dropped

abbrev pub closing : Liveness → ℕ → Liveness
closing (Handshake since) now = Closing now 0
closing (Open last pinged) now = Closing now 0
closing (Closing since dropped) now = Closing since dropped

-- so many bytes were dropped
abbrev pub dropping : Liveness → ℕ → Liveness
dropping (Handshake since) count = Handshake since
dropping (Open last pinged) count = Open last pinged
dropping (Closing since dropped) count = Closing since (min (dropped + count) (2 ^ 64 - 1))

-- a time that counts for nothing
abbrev pub later : ℕ → ℕ → ℕ
later since time = min (since + time) (2 ^ 64 - 1)

-- the connection couldn't be served for so long
abbrev pub spared : Liveness → ℕ → Liveness
spared (Handshake since) time = Handshake (later since time)
spared (Open last pinged) time = Open (later last time) (option_map (λ at. later at time) pinged)
spared (Closing since dropped) time = Closing (later since time) dropped

abbrev pub end_if : Bool → Due
end_if is_over = if is_over then End else Nothing

-- A peer that is silent for long enough is pinged, once. No open connection ends before that, nor before its peer had the
-- time to answer.
abbrev pub due_of : Liveness → ℕ → Limits → Due
due_of (Handshake since) now limits = end_if (nat_le limits.handshake (now - since))
due_of (Open last None) now limits = if nat_le limits.ping_after (now - last) then Ping else Nothing
due_of (Open last (Some pinged)) now limits = end_if (nat_le limits.end_after (now - last)
    && nat_le limits.answer (now - pinged))
due_of (Closing since dropped) now limits = end_if (nat_le limits.closing (now - since)
    || nat_le limits.closing_bytes dropped)
