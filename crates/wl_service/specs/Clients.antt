-- What a client is (own). What the client of an opaque origin is answered is the machine's `no_storage` and `activity`.
use Rattle.std.specs.Prelude.{ℕ, Bool, Option, Some, None, if◌then◌else◌}
use Rattle.wl_types.specs.declared.words.Kind.{Kind}
use Rattle.wl_machine.specs.Refusals.{is_window}

-- an agent of its origin's manager, by its number there; or an opaque one, and whether it is active
pub data Who : Type 0 where
  Managed : ℕ → Who
  Opaque : Kind → Bool → Who

-- the number of a client that has one
abbrev pub number_of : Who → Option ℕ
number_of (Managed n) = Some n
number_of (Opaque kind active) = None

-- whether an opaque client is active once it was made active or inactive
abbrev pub active_after : Kind → Bool → Bool → Bool
active_after kind active wanted = if is_window kind then wanted else active

-- what holds of an opaque client
abbrev pub IfOpaque : Who → (Kind → Bool → Type 0) → Type 0
IfOpaque (Managed n) P = Unit
IfOpaque (Opaque kind active) P = P kind active

-- what holds of a managed client, by its number
abbrev pub IfManaged : Who → (ℕ → Type 0) → Type 0
IfManaged (Managed n) P = P n
IfManaged (Opaque kind active) P = Unit

-- a managed client stays, and of an opaque one only its activity may change
abbrev pub made_active : Who → Bool → Who
made_active (Managed n) wanted = Managed n
made_active (Opaque kind active) wanted = Opaque kind (active_after kind active wanted)
