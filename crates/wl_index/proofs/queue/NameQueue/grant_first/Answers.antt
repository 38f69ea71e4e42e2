use Rattle.std.proofs.Common.{◌≡◌, ◌∙◌, ◌∷◌, ◌++◌, [], List, true, ap, ap₂, sym, Some}
use Rattle.std.specs.Prelude.{slice_get}
use Rattle.wl_index.specs.inner.NameQueue.{Numbered, Waiting, admits, after_grant, head_number, holders_of, live_after}
use Rattle.wl_index.specs.inner.NameQueue.{waits_from}
use Rattle.wl_index.proofs.Shared.{Begins, Stepped, begun, exclusive_grant, granted, name_queue_now, shared_grant}
use Rattle.wl_index.proofs.Shared.{tail_left}
use Rattle.wl_index.proofs.queue.NameQueue.grant_first.Goals.{After-exclusive, After-pop_first, Else-exclusive}
use Rattle.wl_index.proofs.queue.NameQueue.grant_first.Goals as goal

-- what waits, and the first of it
abbrev waits : After-exclusive → List Numbered
waits c = waits_from c.self.inside.first c.self.inside.live.entries

abbrev holders : After-exclusive → List Numbered
holders c = holders_of c.self.inside.holder c.self.inside.live.entries (waits c)

abbrev first : After-exclusive → Numbered
first c = (c.in-Some.number, c.in-Some.mode)

begins : (c : After-exclusive) → Begins (waits c) (first c)
begins c = begun _ _ (c.in-Some.ensures ∙ ap (λ (v : Waiting). slice_get v.waits 0) (sym c.self.view_is))

-- it may be granted
free : (c : After-exclusive) → admits (name_queue_now c.self.inside.name (waits c) (holders c)) c.in-Some.mode ≡ true
free c = ap (λ (v : Waiting). admits v c.in-Some.mode) c.self.view_is ∙ sym c.admits.ensures ∙ c.if-not-admits.false

-- the queue after its grant
after : (c : After-exclusive) → name_queue_now c.self.inside.name (begins c).rest (holders c ++ first c ∷ [])
    ≡ after_grant c.args.self.now
after c = sym (granted _ _ _ _ _ (begins c).is (free c)) ∙ ap after_grant c.self.view_is

-- an exclusive one leaves the live
exclusive : (c : After-pop_first) (rest : List Numbered)
    → let i = c.self.inside in
    let waits = waits_from i.first i.live.entries in
    let holders = holders_of i.holder i.live.entries waits in
    let first : Numbered = (c.in-Some.number, c.in-Some.mode) in
    waits ≡ first ∷ rest → admits (name_queue_now i.name waits holders) c.in-Some.mode ≡ true
    → Stepped c.pop_first.new.self.entries (head_number (live_after first.0 i.live.entries)) (Some first.0) rest
    (holders ++ first ∷ [])
exclusive c rest begins free =
    exclusive_grant c.self.inside.name _ _ _ _ _ _ c.self.invariant begins free
    (sym c.exclusive.ensures ∙ c.if-exclusive.true) (tail_left _ _ c.pop_first.result c.pop_first.ensures.variant
    c.pop_first.ensures.removal)

-- a shared one stays among them
shared : (c : Else-exclusive)
    → let at = (goal.at.invariant_of-self-else-exclusive c).After-exclusive in
    Stepped c.self.inside.live.entries (head_number (live_after c.in-Some.number c.self.inside.live.entries))
    c.self.inside.holder (begins at).rest (holders at ++ first at ∷ [])
shared c =
    let at = (goal.at.invariant_of-self-else-exclusive c).After-exclusive in
    shared_grant c.self.inside.name _ _ _ _ _ c.self.invariant (begins at).is (free at)
    (sym c.exclusive.ensures ∙ c.if-exclusive.false)

pub invariant_of-self : goal.invariant_of-self
invariant_of-self c =
    let at = goal.at.invariant_of-self c in
    rw c.first_after-self-inside.ensures (exclusive at.After-pop_first _ (begins at.After-exclusive).is
    (free at.After-exclusive)).name_queue

pub invariant_of-self-else-exclusive : goal.invariant_of-self-else-exclusive
invariant_of-self-else-exclusive c = rw c.first_after-self-inside.ensures (shared c).name_queue

pub returns-then-exclusive-clause-after : goal.returns-then-exclusive-clause-after
returns-then-exclusive-clause-after c =
    let at = goal.at.returns-then-exclusive-clause-after c in
    let s = exclusive at.After-pop_first _ (begins at.After-exclusive).is (free at.After-exclusive) in
    rw c.first_after-self-inside.ensures (ap₂ (name_queue_now c.self.inside.name) s.waits_is s.holders_is
    ∙ after at.After-exclusive)

pub returns-else-exclusive-clause-after : goal.returns-else-exclusive-clause-after
returns-else-exclusive-clause-after c =
    let s = shared c in
    rw c.first_after-self-inside.ensures (ap₂ (name_queue_now c.self.inside.name) s.waits_is s.holders_is
    ∙ after (goal.at.returns-else-exclusive-clause-after c).After-exclusive)
