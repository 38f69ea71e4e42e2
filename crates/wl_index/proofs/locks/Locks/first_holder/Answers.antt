use Rattle.std.proofs.Common.{◌∙◌, ap, map, sym}
use Rattle.std.specs.Prelude.{slice_get}
use Rattle.std.specs.Option.{option_copied}
use Rattle.wl_machine.specs.declared.rows.HeldRow.{HeldRow}
use Rattle.wl_machine.specs.Grants.{locks}
use Rattle.wl_machine.proofs.Lists.{map_twice}
use Rattle.wl_index.specs.inner.NameQueue.{Numbered, lock_and_mode}
use Rattle.wl_index.specs.inner.Rows.{held_of, pending_of}
use Rattle.wl_index.proofs.Processing.{name_queue_of, no_name_queue}
use Rattle.wl_index.proofs.locks.Locks.first_holder.Goals as goal

pub returns-in_err-get-clause-number : goal.returns-in_err-get-clause-number
returns-in_err-get-clause-number c =
    let i = c.self.inside in
    let none = no_name_queue c.args.name.now i.queues (sym c.get.ensures ∙ ap option_copied c.in_err-get.was) in
    rw (← c.self.view_is) (c.from_residual.ensures ∙ sym (ap
    (λ l. slice_get (map (λ (lock : HeldRow). lock.number) l) 0)
    (c.self.invariant.stands.known c.args.name.now none).0))

pub returns-clause-number : goal.returns-clause-number
returns-clause-number c =
    let i = c.self.inside in
    let held = held_of i.requests.entries in
    let name_queue = name_queue_of c.args.name.now c.in_ok-get.field-0.now i.queues held (pending_of i.requests.entries)
    i.event.touched c.self.invariant.stands (sym c.get.ensures ∙ ap option_copied c.in_ok-get.was) in
    rw (← c.self.view_is) (
    c.first_number.ensures ∙ ap (λ l. slice_get (map (λ (e : Numbered). e.0) l) 0)
    (name_queue.1.holders ∙ ap (λ n. map lock_and_mode (locks n held)) name_queue.0)
    ∙ ap (λ l. slice_get l 0) (map_twice (λ (e : Numbered). e.0) lock_and_mode (locks c.args.name.now held)))
