-- Managers in turn.
use Rattle.std.proofs.Common.{◌≡◌, ◌∙◌, ap, arith, refl, subst, sym}
use Rattle.std.specs.Prelude.{ℕ, ◌+◌, ◌≤◌, List, [], ◌∷◌, ◌++◌, length, Option, Some, None}
use Rattle.wl_origin.specs.Origin.{Tuple}
use Rattle.wl_origin.specs.declared.manager_key.ManagerKey.{ManagerKey}
use Rattle.wl_service.specs.declared.listing.ManagerLocks.{ManagerLocks}
use Rattle.wl_service.specs.Listing.{AreInTurn, MayFollow, rows_in, rows_of}

-- the key of the last, or of the one before all
abbrev pub last_key : Option ManagerKey → List ManagerLocks → Option ManagerKey
last_key after [] = after
last_key after (one ∷ rest) = last_key (Some one.key) rest

pub last_key_push : (after : Option ManagerKey) (managers : List ManagerLocks) (one : ManagerLocks)
    → last_key after (managers ++ one ∷ []) ≡ Some one.key
last_key_push after [] one = refl
last_key_push after (first ∷ rest) one = last_key_push (Some first.key) rest one

pub rows_in_push : (managers : List ManagerLocks) (one : ManagerLocks)
    → rows_in (managers ++ one ∷ []) ≡ rows_in managers + rows_of one
rows_in_push [] one = omega arith
rows_in_push (first ∷ rest) one = let e = rows_in_push rest one in omega arith

length_push : (managers : List ManagerLocks) (one : ManagerLocks) → length (managers ++ one ∷ []) ≡ length managers + 1
length_push [] one = refl
length_push (first ∷ rest) one = let e = length_push rest one in omega arith

pub in_turn_push : (after : Option ManagerKey) (only : Option Tuple) (managers : List ManagerLocks) (one : ManagerLocks)
    → AreInTurn after only managers → MayFollow (last_key after managers) only one.key → rows_of one ≤ 1000
    → AreInTurn after only (managers ++ one ∷ [])
in_turn_push after only [] one turn follows few = (follows, few, tt)
in_turn_push after only (first ∷ rest) one turn follows few =
    (turn.0, turn.1, in_turn_push (Some first.key) only rest one turn.2 follows few)

-- a turn of the loop that lists
pub one_more : (only : Option Tuple) (managers longer : List ManagerLocks) (one : ManagerLocks) (key : ManagerKey)
    (after : Option ManagerKey) (room left : ℕ)
    → longer ≡ managers ++ one ∷ [] → key ≡ one.key → after ≡ last_key None managers → MayFollow after only one.key
    → rows_of one ≤ 1000
    → AreInTurn None only managers → (only ≡ None → rows_in managers + room ≡ 10000)
    → (only ≡ None → left + rows_of one ≡ room)
    → (Some key ≡ last_key None longer) × AreInTurn None only longer × (only ≡ None → rows_in longer + left ≡ 10000)
    × (length longer ≡ length managers + 1)
one_more only managers longer one key after room left longer_is key_is after_is follows few turn full spent =
    rw longer_is (
      ap Some key_is ∙ sym (last_key_push None managers one),
      in_turn_push None only managers one turn (subst (λ (last : Option ManagerKey). MayFollow last only one.key)
          after_is follows) few,
      (λ none. let a = full none in let b = spent none in let e = rows_in_push managers one in omega arith),
      length_push managers one,
    )
