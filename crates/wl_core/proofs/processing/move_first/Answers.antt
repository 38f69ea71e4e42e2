use Rattle.std.proofs.Common.{◌≡◌, ◌∙◌, ap, sym, arith, true, false, ◌++◌, [], ◌∷◌, take, drop, ◌<◌, length, get_or}
use Rattle.std.proofs.Common.{append-nil}
use Rattle.std.specs.Str.{bytes_eq}
use Rattle.std.proofs.lemmas.List.{drop_all, get_or_default, take_all}
use Rattle.wl_machine.specs.declared.rows.PendingRow.{PendingRow}
use Rattle.wl_machine.specs.Grants.{granted_lock, grant_change}
use Rattle.wl_core.proofs.Moves.{first_taken, without_taken, first_passed, without_passed, map_moved, kept_more}
use Rattle.wl_core.proofs.Moves.{take_removed, first_none, without_none}
use Rattle.wl_core.proofs.processing.move_first.Goals as goal

pub loop-left-preserved-then-same : goal.loop-left-preserved-then-same
loop-left-preserved-then-same c =
    let within : c.loop-left.i < length c.loop-left.pending.items = omega arith in
    let same : bytes_eq (get_or c.loop-left.pending.items c.loop-left.i c.index.result.now).name c.args.name.now
    ≡ true = rw (← c.index.ensures) (sym c.if-same.ensures) in
    let removed : c.remove-number.result ≡ get_or c.loop-left.pending.items c.loop-left.i c.index.result.now =
    c.remove-number.ensures.value ∙ get_or_default c.loop-left.pending.items c.loop-left.i _ _ within in
    let split = first_taken c.args.name.now c.loop-left.left c.loop-left.pending.items c.loop-left.i c.index.result.now
    within (omega arith) same in
    let rest = without_taken c.args.name.now c.loop-left.left c.loop-left.pending.items c.loop-left.i c.index.result.now
    within (omega arith) same in
    record {
      held = rw c.remove-number.ensures.items (map_moved granted_lock c.loop-left.held.items _ _ _ _
          (c.push_in_room-then-same.ensures.items ∙ ap (λ (r : PendingRow). c.loop-left.held.items
          ++ granted_lock r ∷ [])
          removed) split ∙ c.loop-left.invariant.held);
      pending = rw (c.remove-number.ensures.items, take_removed c.loop-left.pending.items c.loop-left.i within, ← rest)
          c.loop-left.invariant.pending;
      changes = rw c.remove-number.ensures.items (map_moved grant_change c.loop-left.changes.items _ _ _ _
          (c.push_in_room.ensures.items ∙ ap (λ (r : PendingRow). c.loop-left.changes.items ++ grant_change r ∷ [])
          removed) split ∙ c.loop-left.invariant.changes);
      held_len = omega arith;
      changes_len = omega arith;
      held_room = omega arith;
      changes_room = omega arith;
      within = omega arith;
    }

pub loop-left-preserved : goal.loop-left-preserved
loop-left-preserved c =
    let within : c.loop-left.i < length c.loop-left.pending.items = omega arith in
    let other : bytes_eq (get_or c.loop-left.pending.items c.loop-left.i c.index.result.now).name c.args.name.now
    ≡ false = rw (← c.index.ensures) (sym c.if-same.ensures) in
    let first = first_passed c.args.name.now c.loop-left.left c.loop-left.pending.items c.loop-left.i c.index.result.now
    within other in
    let rest = without_passed c.args.name.now c.loop-left.left c.loop-left.pending.items c.loop-left.i
    c.index.result.now within (omega arith) other in
    record {
      held = rw (← first) c.loop-left.invariant.held;
      pending = kept_more c.loop-left.pending.items _ _ c.loop-left.i c.index.result.now within rest
          ∙ c.loop-left.invariant.pending;
      changes = rw (← first) c.loop-left.invariant.changes;
      held_len = omega arith;
      changes_len = omega arith;
      held_room = omega arith;
      changes_room = omega arith;
      within = omega arith;
    }

pub returns-else-i-len-clause-held : goal.returns-else-i-len-clause-held
returns-else-i-len-clause-held c =
    let done : drop c.loop-left.i c.loop-left.pending.items
    ≡ [] = drop_all c.loop-left.i c.loop-left.pending.items (omega arith) in
    simp (done, first_none, append-nil) at c.loop-left.invariant.held

pub returns-else-i-len-clause-pending : goal.returns-else-i-len-clause-pending
returns-else-i-len-clause-pending c =
    let done : drop c.loop-left.i c.loop-left.pending.items
    ≡ [] = drop_all c.loop-left.i c.loop-left.pending.items (omega arith) in
    let all : take c.loop-left.i c.loop-left.pending.items ≡ c.loop-left.pending.items =
    take_all c.loop-left.i c.loop-left.pending.items (omega arith) in
    simp (done, all, without_none, append-nil) at c.loop-left.invariant.pending

pub returns-else-i-len-clause-changes : goal.returns-else-i-len-clause-changes
returns-else-i-len-clause-changes c =
    let done : drop c.loop-left.i c.loop-left.pending.items
    ≡ [] = drop_all c.loop-left.i c.loop-left.pending.items (omega arith) in
    simp (done, first_none, append-nil) at c.loop-left.invariant.changes
