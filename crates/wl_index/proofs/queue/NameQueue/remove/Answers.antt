use Rattle.std.proofs.Common.{ap₂}
use Rattle.wl_index.proofs.Shared.{name_queue_now, removed_from}
use Rattle.wl_index.proofs.queue.NameQueue.remove.Goals as goal

pub invariant_of-self : goal.invariant_of-self
invariant_of-self c =
    let i = c.self.inside in
    rw (c.unless-self-inside.ensures, c.first_left-self-inside.ensures)
    (removed_from i.live.entries c.remove.new.self.entries i.first i.holder c.args.number c.self.invariant
    c.remove.ensures.entries c.remove.ensures.ordered).name_queue

pub returns : goal.returns
returns c =
    let i = c.self.inside in
    let r = removed_from i.live.entries c.remove.new.self.entries i.first i.holder c.args.number c.self.invariant
    c.remove.ensures.entries c.remove.ensures.ordered in
    rw (← c.self.view_is, c.unless-self-inside.ensures, c.first_left-self-inside.ensures)
    (ap₂ (name_queue_now i.name) r.waits_is r.holders_is)
