use Rattle.wl_index.specs.inner.Core.{machine_state}
use Rattle.wl_index.proofs.Accepted.{request_accepted}
use Rattle.wl_index.proofs.Cores.{room_for_one}
use Rattle.wl_index.proofs.Tags.{grouped_asked, grouped_kept, numbers_below}
use Rattle.wl_index.proofs.index.enqueue.Goals as goal

pub enlist-requires-clause-there : goal.enlist-requires-clause-there
enlist-requires-clause-there c = (request_accepted (machine_state c.args.agents.now.rows c.args.locks.now) c.args.agent
    c.args.ask.now c.requires.accepted).live

pub enlist-requires-clause-signed : goal.enlist-requires-clause-signed
enlist-requires-clause-signed c = (request_accepted (machine_state c.args.agents.now.rows c.args.locks.now) c.args.agent
    c.args.ask.now c.requires.accepted).made

pub enlist-requires-clause-above : goal.enlist-requires-clause-above
enlist-requires-clause-above c n live = rw (c.next-number.ensures.next, c.requests.ensures.entries)
    (numbers_below c.args.locks.now.next n c.args.locks.now.entries
    (rw c.requests.ensures.entries at c.next-number.ensures.below) (rw c.requests-2.ensures.entries at live))

pub enqueue-requires-clause-few : goal.enqueue-requires-clause-few
enqueue-requires-clause-few c = (room_for_one c.args.agents.now.rows c.args.locks.now c.args.agent c.args.ask.now
    c.requires.accepted).0

pub enqueue-requires-clause-low : goal.enqueue-requires-clause-low
enqueue-requires-clause-low c = (room_for_one c.args.agents.now.rows c.args.locks.now c.args.agent c.args.ask.now
    c.requires.accepted).1

pub returns-in_err-enlist-clause-grouped : goal.returns-in_err-enlist-clause-grouped
returns-in_err-enlist-clause-grouped c = grouped_kept c.args.locks.now.entries c.args.agents.now.members
    c.enlist.new.self.members c.requests.ensures.ordered (rw c.requests-2.ensures.entries at c.enlist.ensures.kept)
    c.requires.grouped

pub returns-clause-grouped : goal.returns-clause-grouped
returns-clause-grouped c =
    grouped_asked c.enqueue.result c.args.locks.now c.enqueue.new.self c.args.agent c.args.ask.now
    c.args.agents.now.members c.enlist.new.self.members c.requests.ensures.ordered
    (rw c.requests-2.ensures.entries at c.enlist.ensures.kept) c.requires.grouped
    (rw (c.next-number.ensures.next, c.requests.ensures.entries) at c.in_ok-enlist.ensures.on)
    c.enqueue.ensures.enqueued c.enqueue.ensures.err
