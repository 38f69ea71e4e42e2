use Rattle.std.proofs.Common.{◌≡◌, ◌∙◌, ◌∷◌, ◌++◌, [], ap, sym, refl, length, append_assoc, append-nil, arith}
use Rattle.std.specs.Prelude.{filter}
use Rattle.wl_types.specs.declared.phases.Phase.TheVariants.{Stolen}
use Rattle.wl_machine.specs.Grants.{locks}
use Rattle.wl_machine.specs.Step.{lock_ends}
use Rattle.wl_index.specs.inner.Locks.{Board, no_lock_on}
use Rattle.wl_index.specs.inner.Rows.{held_of, other}
use Rattle.wl_number_map.proofs.Keyed.{found}
use Rattle.wl_index.proofs.Ends.{one_fewer}
use Rattle.wl_index.proofs.Thefts.{stealing, no_number, no_theft, theft_entries}
use Rattle.wl_index.proofs.locks.Locks.oust.Goals as goal

pub end-requires : goal.end-requires
end-requires c =
    let l = c.loop-number in
    rw (stealing c.args.name.now c.in-Some.number l.self.entries c.first_holder.ensures.ordered
    c.in-Some.ensures.number).theft.there refl

pub loop-number-smaller : goal.loop-number-smaller
loop-number-smaller c =
    let l = c.loop-number in
    let s = stealing c.args.name.now c.in-Some.number l.self.entries c.first_holder.ensures.ordered
    c.in-Some.ensures.number in
    let fewer = one_fewer c.in-Some.number s.theft.request l.self.entries
    (found c.in-Some.number l.self.entries s.theft.request c.first_holder.ensures.ordered s.theft.there) in
    let now = ap (λ (b : Board). length b.entries) c.end.ensures in
    omega (arith, fewer, now)

pub loop-number-preserved : goal.loop-number-preserved
loop-number-preserved c =
    let l = c.loop-number in
    let name = c.args.name.now in
    let id = c.in-Some.number in
    let s = stealing name id l.self.entries c.first_holder.ensures.ordered c.in-Some.ensures.number in
    let f = found id l.self.entries s.theft.request c.first_holder.ensures.ordered s.theft.there in
    let entries : c.end.new.self.entries ≡ filter (other id) l.self.entries =
    ap (λ (b : Board). b.entries) c.end.ensures in
    let changes : c.end.new.self.changes ≡ l.self.changes ++ record { id = id; phase = Stolen }
    ∷ [] = ap (λ (b : Board). b.changes) c.end.ensures in
    let left : locks name (held_of c.end.new.self.entries) ≡ s.more = ap (λ es. locks name (held_of es)) entries
    ∙ s.theft.rest in
    record {
      entries = ap (filter (no_lock_on name)) entries ∙ theft_entries name id l.self.entries s.theft.request f
          s.theft.stolen ∙ l.invariant.entries;
      changes = ap (λ ls. c.end.new.self.changes ++ lock_ends Stolen ls) left
          ∙ ap (λ t. t ++ lock_ends Stolen s.more) changes ∙ append_assoc l.self.changes
          (record { id = id; phase = Stolen } ∷ []) (lock_ends Stolen s.more)
          ∙ ap (λ t. l.self.changes ++ t) (sym s.told)
          ∙ l.invariant.changes;
      next = ap (λ (b : Board). b.next) c.end.ensures ∙ l.invariant.next;
      names = ap (λ (b : Board). b.names) c.end.ensures ∙ l.invariant.names;
    }

board_as : (b : Board) (old : Board) (entries : _) (changes : _) → b.entries ≡ entries → b.changes ≡ changes
    → b.next ≡ old.next → b.names ≡ old.names → b ≡ record old { entries = entries; changes = changes }
board_as b old entries changes one two three four = rw (← one, ← two, ← three, ← four) refl

pub returns : goal.returns
returns c =
    let l = c.loop-number in
    let name = c.args.name.now in
    let none = no_number (locks name (held_of l.self.entries)) c.in_default.ensures.number in
    board_as l.self c.args.self.now _ _ (sym (no_theft name l.self.entries none) ∙ l.invariant.entries)
    (sym (ap (λ ls. l.self.changes ++ lock_ends Stolen ls) none ∙ append-nil l.self.changes) ∙ l.invariant.changes)
    l.invariant.next l.invariant.names
