use Rattle.std.proofs.Common.{◌≡◌, ◌∙◌, sym, ap, true}
use Rattle.std.specs.List.{list_any}
use Rattle.wl_machine.specs.Step.{is_lock_of}
use Rattle.wl_index.specs.inner.Rows.{held_of}
use Rattle.wl_index.proofs.Releases.{lock_there, lock_at, lock_is}
use Rattle.wl_index.proofs.requests.Requests.has_lock.Goals as goal

pub returns-in-Some-clause-found : goal.returns-in-Some-clause-found
returns-in-Some-clause-found c =
    let i = c.self.inside in
    rw (← c.self.view_is) (c.is_held_by.ensures ∙ ap (lock_at c.args.agent c.args.number) c.in-Some.ensures.value
    ∙ sym (lock_there c.args.agent c.args.number i.requests.entries c.self.invariant.ordered))

pub returns-in-Some-clause-lock : goal.returns-in-Some-clause-lock
returns-in-Some-clause-lock c given =
    let i = c.self.inside in
    let held : list_any (is_lock_of c.args.agent c.args.number) (held_of i.requests.entries)
    ≡ true = sym (c.is_held_by.ensures ∙ ap (lock_at c.args.agent c.args.number) c.in-Some.ensures.value
    ∙ sym (lock_there c.args.agent c.args.number i.requests.entries c.self.invariant.ordered)) ∙ given in
    rw (← c.self.view_is) (
      c.in-Some.request.now,
      lock_is c.args.agent c.args.number i.requests.entries
          c.in-Some.request.now c.self.invariant.ordered (sym c.in-Some.ensures.value) held,
    )

pub returns-in-None-clause-found : goal.returns-in-None-clause-found
returns-in-None-clause-found c =
    let i = c.self.inside in
    rw (← c.self.view_is) (ap (lock_at c.args.agent c.args.number) c.in-None.ensures.value
    ∙ sym (lock_there c.args.agent c.args.number i.requests.entries c.self.invariant.ordered))
