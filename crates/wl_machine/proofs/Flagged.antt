-- A lock whose taken flag is set otherwise is granted beside as before.
use Rattle.std.proofs.Common.{◌≡◌, ℕ, Bool, List, [], ◌∷◌, map, refl, ap}
use Rattle.std.specs.Prelude.{◌||◌}
use Rattle.std.specs.Str.{bytes_eq}
use Rattle.std.specs.List.{list_any}
use Rattle.wl_types.specs.declared.phases.Phase.{Phase}
use Rattle.wl_machine.specs.declared.rows.HeldRow.{HeldRow}
use Rattle.wl_machine.specs.declared.rows.PendingRow.{PendingRow}
use Rattle.wl_machine.specs.Grants.{any_exclusive, is_empty, grants, locks, in_use}
use Rattle.wl_machine.specs.Step.{lock_ends}
use Rattle.wl_machine.proofs.Lists.{filter_map, any_map, map_twice}

abbrev pub flagged : (HeldRow → Bool) → HeldRow → HeldRow
flagged flag lock = record lock { taken = flag lock }

pub locks_flagged : (flag : HeldRow → Bool) (name : List ℕ) (held : List HeldRow)
    → locks name (map (flagged flag) held) ≡ map (flagged flag) (locks name held)
locks_flagged flag name held = filter_map (λ (lock : HeldRow). bytes_eq lock.name name) (flagged flag) held

pub empty_flagged : (flag : HeldRow → Bool) (held : List HeldRow) → is_empty (map (flagged flag) held) ≡ is_empty held
empty_flagged flag [] = refl
empty_flagged flag (lock ∷ held) = refl

pub exclusive_flagged : (flag : HeldRow → Bool) (held : List HeldRow)
    → any_exclusive (map (flagged flag) held) ≡ any_exclusive held
exclusive_flagged flag held = any_map _ (flagged flag) held

pub grants_flagged : (flag : HeldRow → Bool) (name : List ℕ) (held : List HeldRow) (requests : List PendingRow)
    → grants (locks name (map (flagged flag) held)) requests ≡ grants (locks name held) requests
grants_flagged flag name held requests =
    rw (locks_flagged flag name held) (rw (
      exclusive_flagged flag (locks name held),
      empty_flagged flag (locks name held),
    ) refl)

pub ends_flagged : (flag : HeldRow → Bool) (phase : Phase) (held : List HeldRow)
    → lock_ends phase (map (flagged flag) held) ≡ lock_ends phase held
ends_flagged flag phase held = map_twice _ (flagged flag) held

pub in_use_flagged : (flag : HeldRow → Bool) (held : List HeldRow) (pending : List PendingRow) (name : List ℕ)
    → in_use (map (flagged flag) held) pending name ≡ in_use held pending name
in_use_flagged flag held pending name = ap (λ b. b || list_any (λ request. bytes_eq request.name name) pending)
    (any_map (λ (lock : HeldRow). bytes_eq lock.name name) (flagged flag) held)
