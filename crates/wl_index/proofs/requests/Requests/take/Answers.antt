use Rattle.std.proofs.Common.{◌≡◌, ◌∙◌, sym, ap, nat_cmp, map}
use Rattle.std.specs.Map.{set_value}
use Rattle.std.specs.BTreeMap.{is_at}
use Rattle.wl_index.specs.inner.Rows.{held_of}
use Rattle.wl_index.proofs.Marks.{mark, marks, marks_none, held_marked, pending_marked, marked_table, untaken, fresh_at}
use Rattle.wl_index.proofs.Marks.{tags_marked}
use Rattle.wl_index.proofs.requests.Requests.take.Goals.{After-mark_taken}
use Rattle.wl_index.proofs.requests.Requests.take.Goals as goal

-- ---- a request of the number is live

-- it is marked, if it is a lock
written : (c : After-mark_taken) → (c.get_mut.follows.lender c.mark_taken.new.request).entries
    ≡ map (mark c.args.number) c.self.inside.requests.entries
written c =
    let es = c.self.inside.requests.entries in
    (c.get_mut.follows.holds c.mark_taken.new.request).0 ∙ ap (set_value (is_at (nat_cmp c.args.number)) es)
    c.mark_taken.ensures.marked
    ∙ marks c.args.number es c.in-Some.request.now c.self.invariant.ordered (sym c.in-Some.ensures.value)

pub invariant_of-self : goal.invariant_of-self
invariant_of-self c =
    let i = c.self.inside in
    rw (written (goal.at.invariant_of-self c).After-mark_taken)
    (marked_table c.args.number i.requests.entries i.grant_seq i.next c.self.invariant)

pub returns-in-Some-clause-found : goal.returns-in-Some-clause-found
returns-in-Some-clause-found c =
    rw (← c.self.view_is) (c.mark_taken.ensures.found ∙ ap fresh_at c.in-Some.ensures.value
    ∙ sym (untaken c.args.number c.self.inside.requests.entries c.self.invariant.ordered))

pub returns-in-Some-clause-held : goal.returns-in-Some-clause-held
returns-in-Some-clause-held c = rw (← c.self.view_is, written (goal.at.returns-in-Some-clause-held c).After-mark_taken)
    (held_marked c.args.number c.self.inside.requests.entries)

pub returns-in-Some-clause-pending : goal.returns-in-Some-clause-pending
returns-in-Some-clause-pending c = rw (
  ← c.self.view_is,
  written
      (goal.at.returns-in-Some-clause-pending c).After-mark_taken,
)
    (pending_marked c.args.number c.self.inside.requests.entries)

pub returns-in-Some-clause-tags : goal.returns-in-Some-clause-tags
returns-in-Some-clause-tags c = rw (← c.self.view_is, written (goal.at.returns-in-Some-clause-tags c).After-mark_taken)
    (tags_marked c.args.number c.self.inside.requests.entries)

-- ---- none is

pub returns-clause-found : goal.returns-clause-found
returns-clause-found c =
    rw (← c.self.view_is) (ap fresh_at c.in_default.ensures.value
    ∙ sym (untaken c.args.number c.self.inside.requests.entries c.self.invariant.ordered))

pub returns-clause-held : goal.returns-clause-held
returns-clause-held c =
    let es = c.self.inside.requests.entries in
    rw (← c.self.view_is, c.get_mut.follows.holds-at-none) (ap held_of
    (sym (marks_none c.args.number es (sym c.in_default.ensures.value))) ∙ held_marked c.args.number es)
