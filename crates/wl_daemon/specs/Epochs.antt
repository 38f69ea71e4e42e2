-- The file that keeps a server's epoch (own).
use Rattle.std.specs.Prelude.{◌≡◌, ◌<◌, ◌≤◌, ◌+◌, ◌-◌, ◌∷◌, [], ℕ, nat_eq, List, Result, Ok, Err, length, take}
use Rattle.std.specs.Prelude.{if◌then◌else◌}
use Rattle.std.specs.List.{ends_with}
use Rattle.std.specs.Str.Parse.{IsNumeral, digits_value}
use Rattle.wl_daemon.specs.declared.epoch.EpochFault.{EpochFault}
use Rattle.wl_daemon.specs.declared.epoch.EpochFault.TheVariants.{Unreadable, NoFile, Wrong, Last, Unwritable, Memory}

-- a text without the LF that may stand at its end
abbrev pub without_lf : List ℕ → List ℕ
without_lf text = if ends_with nat_eq text (10 ∷ []) then take (length text - 1) text else text

-- these decimal digits write this epoch, which has 63 bits
abbrev pub Writes : List ℕ → ℕ → Type 0
Writes digits epoch = IsNumeral 10 digits × (digits_value 10 digits ≡ epoch) × (epoch ≤ 9223372036854775807)

abbrev pub WritesNone : List ℕ → Type 0
WritesNone digits = (epoch : ℕ) → Writes digits epoch → ⊥

-- the text of a file keeps this epoch
abbrev pub Keeps : List ℕ → ℕ → Type 0
Keeps text epoch = Writes (without_lf text) epoch

abbrev pub KeepsNone : List ℕ → Type 0
KeepsNone text = WritesNone (without_lf text)

-- the epoch behind the one that a text keeps; or why there is none
abbrev pub IsEpochAfter : List ℕ → Result ℕ EpochFault → Type 0
IsEpochAfter text (Ok epoch) = (kept : ℕ) × Keeps text kept × (kept < 9223372036854775807) × (epoch ≡ kept + 1)
IsEpochAfter text (Err Last) = Keeps text 9223372036854775807
IsEpochAfter text (Err Wrong) = KeepsNone text
IsEpochAfter text (Err Unreadable) = ⊥
IsEpochAfter text (Err NoFile) = ⊥
IsEpochAfter text (Err Unwritable) = ⊥
IsEpochAfter text (Err Memory) = ⊥
