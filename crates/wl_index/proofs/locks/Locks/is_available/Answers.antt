use Rattle.std.proofs.Common.{◌∙◌, ap, sym}
use Rattle.std.specs.Prelude.{◌&&◌}
use Rattle.wl_machine.specs.Grants.{is_empty, locks, queue}
use Rattle.wl_index.specs.inner.NameQueue.{admits}
use Rattle.wl_index.specs.inner.Rows.{held_of, pending_of}
use Rattle.wl_index.proofs.Enqueuing.{available_at, available_new}
use Rattle.wl_index.proofs.Processing.{name_queue_of, no_name_queue}
use Rattle.wl_index.proofs.locks.Locks.is_available.Goals as goal

pub returns-in-Some : goal.returns-in-Some
returns-in-Some c row named mode =
    let i = c.self.inside in
    let w = c.in-Some.queue.now in
    let name_queue = name_queue_of c.args.name.now w i.queues (held_of i.requests.entries)
    (pending_of i.requests.entries) i.event.touched c.self.invariant.stands (sym c.in-Some.ensures) in
    rw (← c.self.view_is) (c.is_available.ensures ∙ ap (λ m. is_empty w.waits && admits w m) (sym mode)
    ∙ available_at w (held_of i.requests.entries) (pending_of i.requests.entries) row name_queue.1
    (name_queue.0 ∙ sym named))

pub returns-in-None : goal.returns-in-None
returns-in-None c row named mode =
    let i = c.self.inside in
    let none = no_name_queue c.args.name.now i.queues (sym c.in-None.ensures) in
    let k = c.self.invariant.stands.known c.args.name.now none in
    rw (← c.self.view_is) (available_new (held_of i.requests.entries) (pending_of i.requests.entries) row
    (ap (λ n. locks n (held_of i.requests.entries)) named ∙ k.0)
    (ap (λ n. queue n (pending_of i.requests.entries)) named ∙ k.1))
