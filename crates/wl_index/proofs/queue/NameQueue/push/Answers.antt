use Rattle.std.proofs.Common.{◌<◌, ap₂, subst, sym}
use Rattle.std.specs.List.{AllByRecursion}
use Rattle.wl_index.specs.inner.NameQueue.{Numbered, Waiting, holders_of, waits_from}
use Rattle.wl_index.proofs.Shared.{name_queue_now, pushed}
use Rattle.wl_index.proofs.queue.NameQueue.push.Goals as goal

pub invariant_of-self-2 : goal.invariant_of-self-2
invariant_of-self-2 c =
    let i = c.self.inside in
    let below : AllByRecursion (λ (e : Numbered). e.0 < c.args.number) (waits_from i.first i.live.entries) =
    subst (λ (v : Waiting). AllByRecursion (λ (e : Numbered). e.0 < c.args.number) v.waits) (sym c.self.view_is)
    c.requires.waits in
    let holders : AllByRecursion (λ (e : Numbered). e.0 < c.args.number)
    (holders_of i.holder i.live.entries (waits_from i.first i.live.entries)) =
    subst (λ (v : Waiting). AllByRecursion (λ (e : Numbered). e.0 < c.args.number) v.holders) (sym c.self.view_is)
    c.requires.holders in
    rw c.or_number-self-inside.ensures (pushed i.live.entries c.insert.new.self.entries i.first i.holder c.args.number
    c.args.mode c.self.invariant below holders c.in_ok-insert.ensures.entries
    c.in_ok-insert.ensures.ordered).name_queue

pub returns-clause-ok : goal.returns-clause-ok
returns-clause-ok c =
    let i = c.self.inside in
    let below : AllByRecursion (λ (e : Numbered). e.0 < c.args.number) (waits_from i.first i.live.entries) =
    subst (λ (v : Waiting). AllByRecursion (λ (e : Numbered). e.0 < c.args.number) v.waits) (sym c.self.view_is)
    c.requires.waits in
    let holders : AllByRecursion (λ (e : Numbered). e.0 < c.args.number)
    (holders_of i.holder i.live.entries (waits_from i.first i.live.entries)) =
    subst (λ (v : Waiting). AllByRecursion (λ (e : Numbered). e.0 < c.args.number) v.holders) (sym c.self.view_is)
    c.requires.holders in
    let p = pushed i.live.entries c.insert.new.self.entries i.first i.holder c.args.number c.args.mode c.self.invariant
    below holders c.in_ok-insert.ensures.entries c.in_ok-insert.ensures.ordered in
    rw (← c.self.view_is, c.or_number-self-inside.ensures) (ap₂ (name_queue_now i.name) p.waits_is p.holders_is)
