-- What only the code of this crate says (own), beside `Handles`.
use Rattle.std.specs.Prelude.{ℕ, ℤ, ◌≡◌, ◌≤◌, ◌<◌, ◌⊎◌}
use base.Fml.{Fml, fsep}
use denote.Array.{Array}
use denote.Builtin.{u8, usize}
use denote.RawPtr.{Ptr, RawPtr, lies_at, room_at}
use Rattle.wl_c.specs.declared.fault.Fault.TheVariants.{Null, TooLong}
use Rattle.wl_c.specs.Codes.{fault_code}
use Rattle.wl_c.specs.Handles.{Asking, Auditing, handle}

abbrev pub has_asked : Ptr → Ptr → ℕ → Ptr → Ptr → Asking → Fml
has_asked world line n reply reply_length g =
    fsep (handle g.alloc world g.world) (fsep (lies_at (Array u8 n) g.share line g.line)
    (fsep (room_at RawPtr reply) (room_at usize reply_length)))

abbrev pub has_audit : Ptr → Ptr → Ptr → Auditing → Fml
has_audit world reply reply_length g = fsep (handle g.alloc world g.world)
    (fsep (room_at RawPtr reply) (room_at usize reply_length))

-- the code of a call with a line that isn't made, where it is null that bars a line of no more than the limit
abbrev pub IsLineFault : ℕ → ℤ → Type 0
IsLineFault n code = ((code ≡ fault_code TooLong) × (65536 < n)) ⊎ ((code ≡ fault_code Null) × (n ≤ 65536))
