-- What a journal keeps of a command (own): those that were accepted, queries aside.
use Rattle.std.specs.Prelude.{ℕ, ◌+◌, Bool, true, false, Option, Some, None, if◌then◌else◌}
use Rattle.wl_types.specs.declared.answers.TakeAnswer.TheVariants.{NotGranted}
use Rattle.wl_types.specs.declared.answers.ReleaseAnswer.TheVariants.{NotHeld}
use Rattle.wl_types.specs.declared.answers.AbortAnswer.TheVariants.{AlreadyAborted}
use Rattle.wl_machine.specs.declared.command.Reply.{Reply}
use Rattle.wl_machine.specs.declared.command.Reply.TheVariants as reply

-- What changed nothing is not recorded: a query's snapshot, a refusal, a lock not granted or not held, a signal aborted
-- before.
abbrev pub is_recorded : Reply → Bool
is_recorded (reply.Seen snapshot) = false
is_recorded (reply.Refused refusal) = false
is_recorded (reply.Took NotGranted) = false
is_recorded (reply.Released NotHeld) = false
is_recorded (reply.Aborted AlreadyAborted) = false
is_recorded answer = true

-- How many entries a journal has had after a command with this reply, where there is a journal.
abbrev pub with_entry : Reply → Option ℕ → Option ℕ
with_entry answer None = None
with_entry answer (Some count) = Some (if is_recorded answer then count + 1 else count)
