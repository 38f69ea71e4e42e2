use Rattle.std.proofs.Common.{◌≡◌, ◌≤◌, ◌++◌, drop, take, length, vec_len, vec_capacity}
use Rattle.wl_machine.specs.Step.{replies_of, state_after}
use Rattle.wl_core.proofs.commands.run_commands.Given as goal

-- the replies so far and those to what is left are the replies to all
abbrev pub invariant-loop-command : goal.invariant-loop-command
invariant-loop-command g l =
    let state = g.C.LockCore.state in
    record {
      count : l.done ≡ l.command-index;
      len : vec_len l.replies ≡ l.command-index;
      room : length l.commands ≤ vec_capacity l.replies;
      told : l.replies.items ++ replies_of (drop l.command-index l.commands) (state l.core)
          ≡ replies_of l.commands (state l.fn.core);
      rest : state_after (drop l.command-index l.commands) (state l.core) ≡ state_after l.commands (state l.fn.core);
      part : state l.core ≡ state_after (take l.command-index l.commands) (state l.fn.core);
    }
