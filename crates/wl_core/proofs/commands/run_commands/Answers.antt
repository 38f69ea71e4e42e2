use Rattle.std.proofs.Common.{◌≡◌, sym, arith, get_or}
use Rattle.wl_machine.specs.Step.{step}
use Rattle.wl_core.proofs.Answering.{answers_reply, answers_state, state_after_more, rest_more, told_more}
use Rattle.wl_core.proofs.commands.run_commands.Goals as goal

pub loop-command-preserved : goal.loop-command-preserved
loop-command-preserved g c =
    let s = g.C.LockCore.state c.loop-command.core in
    let within = c.loop-command-test.true in
    let moved : g.C.LockCore.state c.apply-reply.new.core ≡ (step s c.command-item.result).state =
    answers_state _ _ _ _ c.apply-reply.ensures (sym c.if-lacks_memory.ensures) in
    let said : c.apply-reply.result ≡ (step s c.command-item.result).reply =
    answers_reply _ _ _ _ c.apply-reply.ensures (sym c.if-lacks_memory.ensures) in
    let now = get_or c.args.commands.now c.loop-command.command-index c.command-item.result in
    let state_is : g.C.LockCore.state c.apply-reply.new.core ≡ (step s now).state = rw (← c.command-item.is) moved in
    let reply_is : c.apply-reply.result ≡ (step s now).reply = rw (← c.command-item.is) said in
    record {
      count = omega arith;
      len = omega arith;
      room = omega arith;
      told = told_more c.args.commands.now c.loop-command.command-index c.command-item.result _ _ _ _ _ within state_is
          (rw (← reply_is) c.push_in_room.ensures.items) c.loop-command.invariant.told;
      rest = rest_more c.args.commands.now c.loop-command.command-index c.command-item.result _ _ _ within state_is
          c.loop-command.invariant.rest;
      part = rw (
        state_after_more c.args.commands.now c.loop-command.command-index c.command-item.result _ within,
        ← c.command-item.is,
        ← c.loop-command.invariant.part,
      ) moved;
    }
