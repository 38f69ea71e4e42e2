use Rattle.std.proofs.Common.{◌∙◌, ap, length, arith}
use Rattle.std.proofs.lemmas.List.{length-map}
use Rattle.wl_machine.specs.Step.{with_taken}
use Rattle.wl_index.specs.inner.Rows.{held_of, pending_of}
use Rattle.wl_index.proofs.Boards.{same_tags_ordered}
use Rattle.wl_index.proofs.Taken.{stands_taken}
use Rattle.wl_index.proofs.locks.Locks.take.Goals as goal

pub invariant_of-self : goal.invariant_of-self
invariant_of-self c =
    let i = c.self.inside in
    let is = c.self.invariant in
    let held = ap length c.take.ensures.held ∙ length-map (held_of i.requests.entries) (with_taken c.args.number) in
    let pending = ap length c.take.ensures.pending in
    let room = is.room in
    record {
      ordered = same_tags_ordered c.take.new.self.entries i.requests.entries c.take.ensures.tags is.ordered;
      stands = rw (c.take.ensures.held, c.take.ensures.pending)
          (stands_taken c.args.number i.queues (held_of i.requests.entries) (pending_of i.requests.entries)
          i.event.touched is.stands);
      below = rw c.take.ensures.next is.below;
      room = omega (arith, held, pending, room);
    }
