-- The rows of a list, and how many there are beside them.
use Rattle.std.proofs.Common.{◌≡◌, ◌∙◌, ap, sym, inl, inr, arith}
use Rattle.std.specs.Prelude.{ℕ, ◌+◌, ◌-◌, ◌<◌, ◌≤◌, ◌⊎◌, List, length, map, min, take}
use Rattle.std.proofs.Math.Nat.{min-eq_left, min-eq_right, min-le_left, min-le_right}
use Rattle.std.proofs.lemmas.Bool.{cases_lt}
use Rattle.std.proofs.lemmas.List.{take_min, length-map, length-take}
use Rattle.wl_machine.specs.declared.rows.HeldRow.{HeldRow}
use Rattle.wl_machine.specs.declared.rows.PendingRow.{PendingRow}
use Rattle.wl_machine.specs.State.{State}
use Rattle.wl_manager.specs.declared.lock_list.LockList.{LockList}
use Rattle.wl_manager.specs.Listing.{Listed, Lists, as_listed, of_lock, of_request}

-- the room that the locks leave
room_left : (most h : ℕ) → most - min most h ≡ most - h
room_left most h = by (cases_lt h most)
  where
    by : (h < most) ⊎ (most ≤ h) → most - min most h ≡ most - h
    by (inl few) = ap (λ (n : ℕ). most - n) (min-eq_right (omega arith))
    by (inr many) = let e : min most h ≡ most = min-eq_left many in omega arith

-- what is left out of both
left_over : (most h p : ℕ) → h - min most h + (p - min (most - min most h) p) ≡ h + p - most
left_over most h p = by (cases_lt h most)
  where
    within : min most h ≡ h → h ≤ most → (p < most - h) ⊎ (most - h ≤ p)
        → h - min most h + (p - min (most - min most h) p) ≡ h + p - most
    within e few (inl fits) = let f : min (most - h) p ≡ p = min-eq_right (omega arith) in rw e (rw f (omega arith))
    within e few (inr over) = let f : min (most - h) p ≡ most - h = min-eq_left over in rw e (rw f (omega arith))

    by : (h < most) ⊎ (most ≤ h) → h - min most h + (p - min (most - min most h) p) ≡ h + p - most
    by (inl few) = within (min-eq_right (omega arith)) (omega arith) (cases_lt p (most - h))
    by (inr many) = let e : min most h ≡ most = min-eq_left many
        in let f : min (most - most) p ≡ 0 = ap (λ (n : ℕ). min n p) (omega arith) ∙ min-eq_left (omega arith)
        in rw e (rw f (omega arith))

pub lists : (s t : State) → t ≡ s → (xs : List HeldRow) → xs ≡ t.held → (ys : List PendingRow) → ys ≡ t.pending
    → (most a b : ℕ) (list : LockList)
    → a ≡ min most (length xs) → b ≡ min (most - a) (length ys)
    → map as_listed list.held.items ≡ map of_lock (take a xs)
    → map as_listed list.pending.items ≡ map of_request (take b ys)
    → list.left_out ≡ length xs - a + (length ys - b) → Lists s most list
lists s t same xs xs_are ys ys_are most a b list a_is b_is held pending left_out =
    let h : xs ≡ s.held = xs_are ∙ ap (λ (u : State). u.held) same in
    let p : ys ≡ s.pending = ys_are ∙ ap (λ (u : State). u.pending) same in
    let room : most - a ≡ most - length s.held = ap (λ (n : ℕ). most - n) a_is ∙ room_left most (length xs)
    ∙ ap (λ (zs : List HeldRow). most - length zs) h in
    let few : take a xs ≡ take most s.held = ap (λ (n : ℕ). take n xs) a_is ∙ take_min most xs ∙ ap (take most) h in
    let rest : take b ys ≡ take (most - length s.held) s.pending = ap (λ (n : ℕ). take n ys) b_is
    ∙ take_min (most - a) ys ∙ ap (λ (n : ℕ). take n ys) room ∙ ap (take (most - length s.held)) p in
    let over : length xs - a + (length ys - b) ≡ length xs + length ys - most =
    rw b_is (rw a_is (left_over most (length xs) (length ys))) in
    record {
      held = held ∙ ap (map of_lock) few;
      pending = pending ∙ ap (map of_request) rest;
      left_out = left_out ∙ over ∙ ap (λ (zs : List HeldRow). length zs + length ys - most) h
          ∙ ap (λ (zs : List PendingRow). length s.held + length zs - most) p;
    }

-- a list has no more rows than were asked for
pub few_rows : (s : State) (most : ℕ) (list : LockList) → Lists s most list
    → length list.held.items + length list.pending.items ≤ most
few_rows s most list lists =
    let locks : length list.held.items ≡ min most (length s.held) = sym (length-map list.held.items as_listed)
    ∙ ap (λ (rows : List Listed). length rows) lists.held ∙ length-map (take most s.held) of_lock
    ∙ length-take most s.held in
    let requests : length list.pending.items ≡ min (most - length s.held) (length s.pending) =
    sym (length-map list.pending.items as_listed) ∙ ap (λ (rows : List Listed). length rows) lists.pending
    ∙ length-map (take (most - length s.held) s.pending) of_request ∙ length-take (most - length s.held) s.pending in
    let all : min most (length s.held) ≤ most = min-le_left most (length s.held) in
    let each : min most (length s.held) ≤ length s.held = min-le_right most (length s.held) in
    let rest : min (most - length s.held) (length s.pending)
    ≤ most - length s.held = min-le_left (most - length s.held) (length s.pending) in
    rw locks (rw requests (omega arith))
