use Rattle.std.proofs.Common.{rules, ◌≤◌, ◌+◌, ◌∙◌, ap, length}
use Rattle.std.specs.Option.{option_copied}
use Rattle.wl_service.specs.Listing.{MayFollow}
use Rattle.wl_service.proofs.InTurn.{one_more}
use Rattle.wl_service.proofs.service.Service.list_locks.Goals as goal

pub loop-taken-preserved : goal.loop-taken-preserved
loop-taken-preserved g c =
    let i = c.loop-taken.invariant in
    let follows : MayFollow c.loop-taken.after (option_copied c.args.only) c.in-Some.key = search rules in
    let few : length c.in_ok-locks.locks.held.items + length c.in_ok-locks.locks.pending.items ≤ 1000 = search rules in
    let room : length c.in_ok-locks.locks.held.items + length c.in_ok-locks.locks.pending.items
    ≤ c.loop-taken.room = search rules in
    let more = one_more (option_copied c.args.only) c.loop-taken.managers.items _
    (record { key = c.in-Some.key; locks = c.in_ok-locks.locks }) _ c.loop-taken.after c.loop-taken.room _
    c.in_ok-push.ensures.items c.in_ok-copy.ensures i.0 follows few i.1 i.2
    (λ none. let e = c.room_of-used.ensures.counted none in search rules) in
    (more.0, more.1, more.2, more.3 ∙ ap (λ n. n + 1) i.3)
