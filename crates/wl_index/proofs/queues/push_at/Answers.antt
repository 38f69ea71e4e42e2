use Rattle.std.proofs.Common.{◌≡◌, ◌∙◌, ap, nat_cmp, sym, None, Some}
use Rattle.std.specs.Option.{option_copied_mut}
use Rattle.std.specs.Map.{set_value}
use Rattle.std.specs.BTreeMap.{is_at}
use Rattle.std.proofs.lemmas.Result.{on_ok_weaker}
use Rattle.wl_index.specs.inner.NameQueue.{with_one_more}
use Rattle.wl_index.specs.inner.Queues.{IsBelow, Placed, at_place}
use Rattle.wl_index.proofs.InUse.{none_updated, queue_at, set_updated, unless_pushed}
use Rattle.wl_index.proofs.queues.push_at.Goals.{In-Some}
use Rattle.wl_index.proofs.queues.push_at.Goals as goal

there : (c : In-Some) → at_place c.args.place c.args.queues.now.entries ≡ Some c.in-Some.queue.now
there c = sym c.get_mut.ensures.value ∙ ap option_copied_mut c.in-Some.is

-- the queue's numbers are below the new one
below : (c : In-Some) → IsBelow c.args.number c.in-Some.queue.now
below c = queue_at (λ (e : Placed). IsBelow c.args.number e.1) c.args.place c.in-Some.queue.now
    c.args.queues.now.entries c.get_mut.ensures.was_ordered (there c) c.requires

pub push-requires-clause-waits : goal.push-requires-clause-waits
push-requires-clause-waits c = (below (goal.at.push-requires-clause-waits c).In-Some).0

pub push-requires-clause-holders : goal.push-requires-clause-holders
push-requires-clause-holders c = (below (goal.at.push-requires-clause-holders c).In-Some).1

pub returns-in-Some-clause-ok : goal.returns-in-Some-clause-ok
returns-in-Some-clause-ok c =
    let es = c.args.queues.now.entries in
    let at = there (goal.at.returns-in-Some-clause-ok c).In-Some in
    on_ok_weaker c.push.result (λ ok. (c.get_mut.follows.holds c.push.new.self).0
    ∙ ap (set_value (is_at (nat_cmp c.args.place)) es) ok
    ∙ set_updated c.args.place (λ w. with_one_more w c.args.number c.args.mode) es c.in-Some.queue.now
    c.get_mut.ensures.was_ordered at) c.push.ensures.ok

pub returns-in-Some-clause-err : goal.returns-in-Some-clause-err
returns-in-Some-clause-err c =
    unless_pushed (is_at (nat_cmp c.args.place)) c.args.queues.now.entries _ c.in-Some.queue.now c.push.new.self
    c.push.result (there (goal.at.returns-in-Some-clause-err c).In-Some) (c.get_mut.follows.holds c.push.new.self).0
    c.push.ensures.err

pub returns-in-None-clause-ok : goal.returns-in-None-clause-ok
returns-in-None-clause-ok c =
    let none : at_place c.args.place c.args.queues.now.entries ≡ None = sym c.get_mut.ensures.value
    ∙ ap option_copied_mut c.in-None.is in
    rw c.get_mut.follows.holds-at-none (sym (none_updated c.args.place (λ w. with_one_more w c.args.number c.args.mode)
    c.args.queues.now.entries none))
