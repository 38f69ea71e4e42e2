use Rattle.std.proofs.Common.{◌≡◌, ◌∙◌, ap, refl, sym, Some, None}
use Rattle.std.specs.HashMap.{get_by_text}
use Rattle.wl_machine.proofs.Lists.{same_bytes}
use Rattle.std.proofs.Common.{◌∷◌, [], cond}
use Rattle.wl_index.specs.inner.NameQueue.{Waiting, with_one_more}
use Rattle.wl_index.specs.inner.Queues.{place_of}
use Rattle.wl_index.proofs.InUse.{are_updated, is_updated, place_last, place_updated}
use Rattle.wl_index.proofs.queues.Queues.push.Goals as goal

pub invariant_of-self-in-Some : goal.invariant_of-self-in-Some
invariant_of-self-in-Some c =
    let i = c.self.inside in
    rw c.in_ok-push_at.ensures.ok (is_updated c.in-Some.place (λ w. with_one_more w c.args.number c.args.mode)
    (λ w. refl) i.queues.entries (get_by_text i.places) c.self.invariant)

pub returns-in-Some-clause-place : goal.returns-in-Some-clause-place
returns-in-Some-clause-place c =
    let es = c.self.inside.queues.entries in
    rw c.in_ok-push_at.ensures.ok (place_updated c.in-Some.place (λ w. with_one_more w c.args.number c.args.mode)
    (λ w. refl) c.args.name.now es ∙ ap (place_of c.args.name.now) c.self.view_is ∙ sym c.place.ensures.place
    ∙ c.in-Some.is)

pub returns-in-Some-clause-are : goal.returns-in-Some-clause-are
returns-in-Some-clause-are c = rw c.in_ok-push_at.ensures.ok
    (are_updated c.in-Some.place (λ w. with_one_more w c.args.number c.args.mode) (λ w. refl)
    c.self.inside.queues.entries
    c.self.invariant.are)

pub returns-clause-place : goal.returns-clause-place
returns-clause-place c =
    let queue : Waiting = record { name = c.args.name.now; waits = (c.args.number, c.args.mode) ∷ []; holders = [] } in
    let none : place_of c.args.name.now c.args.self.now ≡ None = sym c.place.ensures.place ∙ c.in_default.is in
    ap (place_of c.args.name.now) c.in_ok-add.ensures.added
    ∙ place_last c.args.name.now c.args.self.now (c.args.number, queue) none
    ∙ ap (λ b. cond b (Some c.args.number) None) (same_bytes c.args.name.now)

pub returns-clause-are : goal.returns-clause-are
returns-clause-are c = c.in_ok-add.ensures.are
