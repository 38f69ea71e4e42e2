-- The memory behind the pointers of a call: what C hands over with it, and has back (own).
use Rattle.std.specs.Prelude.{ℕ, ℤ, List, [], ◌∷◌, ◌≡◌, ◌<◌, ◌⊎◌, length, Bool, true, false, not, Option, Some, None}
use Rattle.std.specs.Prelude.{Result, is_ok, pos}
use Rattle.std.specs.Ordering.{int_eq}
use Rattle.std.specs.Ptr.{if_non_null}
use Rattle.std.specs.Vec.{vec_ptr}
use Rattle.std.specs.Box.Ownership.{box_owns}
use Rattle.std.specs.declared.alloc.Global.{Global}
use Rattle.std.specs.contracts.impls.GlobalAllocator.TheImpl.{ghosts}
use base.Fml.{Share, Fml, ftrue, fsep, fex}
use base.Fraction.{full_share}
use denote.Array.{Array}
use denote.Builtin.{u8, usize}
use denote.RawPtr.{Ptr, RawPtr, null_ptr, lies_at, room_at}
use Rattle.wl_c.specs.declared.fault.Fault.{Fault}
use Rattle.wl_c.specs.declared.fault.Fault.TheVariants.{Memory, Null, TooLong}
use Rattle.wl_c.specs.declared.reply.Reply.{Reply}
use Rattle.wl_c.specs.declared.world.World.{World}
use Rattle.wl_c.specs.contracts.world.World.{the_row}
use Rattle.wl_c.specs.Codes.{code_of, fault_code}
use Rattle.wl_c.specs.Worlds.{Answers, Audits, IsOpening}

-- a handle: the world in its box, and the right to free the box
abbrev pub handle : Global → Ptr → World → Fml
handle alloc p world = box_owns (ghosts.dealloc_token alloc) the_row p world

-- what an address owns that C was given as the handle of this world, or of none: nobody else can own it too
abbrev pub handed : Ptr → Option World → Fml
handed p None = ftrue
handed p (Some world) = fex Global (λ alloc. handle alloc p world)

-- ---- a call for a new world
-- nobody opened in it, and it keeps books where that was asked
abbrev pub Opens : ℤ → Option World → Type 0
Opens keep_books None = ⊥
Opens keep_books (Some world) = IsOpening (not (int_eq keep_books (pos 0))) world.live

-- at 0 C has the handle of such a world, and else what it had
abbrev pub IsNew : ℤ → Option World → Option World → ℤ → Type 0
IsNew keep_books before now code = ((code ≡ pos 0) × Opens keep_books now)
    ⊎ ((code ≡ fault_code Memory) × (now ≡ before))

-- ---- calls with a world
-- the rooms for the reply and its length, with these in them where the call did what it is for
abbrev pub rooms : Bool → Ptr → Ptr → Ptr → ℕ → Fml
rooms true reply reply_length at n = fsep (lies_at RawPtr full_share reply at) (lies_at usize full_share reply_length n)
rooms false reply reply_length at n = fsep (room_at RawPtr reply) (room_at usize reply_length)

-- the rooms after a call of this outcome: the reply is where the world keeps it
abbrev pub told : Result (Unit {0}) Fault → Ptr → Ptr → World → Fml
told outcome reply reply_length world = rooms (is_ok outcome) reply reply_length (vec_ptr world.reply)
    (length world.reply.items)

-- how a call became C's answer to it
pub record IsReply (outcome : Result (Unit {0}) Fault) (reply : Reply) (world : World) : Type 0 where
  pub done : reply.is_done ≡ is_ok outcome
  pub code : reply.code ≡ code_of outcome
  pub at : reply.bytes ≡ vec_ptr world.reply
  pub length_is : reply.length ≡ length world.reply.items

-- ---- a call with a line
-- what C hands over beside the numbers
pub record Asking : Type 0 where
  pub alloc : Global
  pub world : World
  pub share : Share
  pub line : List ℕ

-- a call with a line left the world so, with this outcome
abbrev pub Answered : World → List ℕ → Result (Unit {0}) Fault → World → Type 0
Answered before line outcome now = Answers before.live line outcome now.live now.reply.items

abbrev pub Says : World → List ℕ → Reply → World → Type 0
Says before line reply now = (outcome : Result (Unit {0}) Fault) × Answered before line outcome now
    × IsReply outcome reply now

-- what the pointers that aren't null lead to
abbrev pub may_ask : Ptr → Ptr → ℕ → Ptr → Ptr → Asking → Fml
may_ask world line n reply reply_length g =
    fsep (if_non_null world (handle g.alloc world g.world))
    (fsep (if_non_null line (lies_at (Array u8 n) g.share line g.line))
    (fsep (if_non_null reply (room_at RawPtr reply)) (if_non_null reply_length (room_at usize reply_length))))

abbrev pub was_answered : Ptr → Ptr → ℕ → Ptr → Ptr → Asking → ℤ → Fml
was_answered world line n reply reply_length g code =
    fex World (λ now. fex (Result (Unit {0}) Fault) (λ outcome. fex
    ((code ≡ code_of outcome) × Answered g.world g.line outcome now) (λ _.
    fsep (handle g.alloc world now) (fsep (lies_at (Array u8 n) g.share line g.line)
    (told outcome reply reply_length now)))))

-- one of these pointers is null
abbrev pub HasNull : List Ptr → Type 0
HasNull [] = ⊥
HasNull (pointer ∷ pointers) = (pointer ≡ null_ptr) ⊎ HasNull pointers

-- why a call isn't made: its line is too long, or one of its pointers is null
abbrev pub IsBarred : List Ptr → ℕ → ℤ → Type 0
IsBarred pointers n code = ((code ≡ fault_code TooLong) × (65536 < n)) ⊎ ((code ≡ fault_code Null) × HasNull pointers)

-- a call that isn't made leaves all as it was
abbrev pub had_answer : Bool → Ptr → Ptr → ℕ → Ptr → Ptr → Asking → ℤ → Fml
had_answer true world line n reply reply_length g code = was_answered world line n reply reply_length g code
had_answer false world line n reply reply_length g code =
    fex (IsBarred (world ∷ line ∷ reply ∷ reply_length ∷ []) n code) (λ _. may_ask world line n reply reply_length g)

abbrev pub after_answer : Ptr → Ptr → ℕ → Ptr → Ptr → Asking → ℤ → Fml
after_answer world line n reply reply_length g code = fex Bool
    (λ asked. had_answer asked world line n reply reply_length g code)

-- ---- a call for an audit
pub record Auditing : Type 0 where
  pub alloc : Global
  pub world : World

abbrev pub Audited : World → Result (Unit {0}) Fault → World → Type 0
Audited before outcome now = Audits before.live outcome now.live now.reply.items

abbrev pub SaysAudit : World → Reply → World → Type 0
SaysAudit before reply now = (outcome : Result (Unit {0}) Fault) × Audited before outcome now
    × IsReply outcome reply now

abbrev pub may_audit : Ptr → Ptr → Ptr → Auditing → Fml
may_audit world reply reply_length g = fsep (if_non_null world (handle g.alloc world g.world))
    (fsep (if_non_null reply (room_at RawPtr reply)) (if_non_null reply_length (room_at usize reply_length)))

abbrev pub was_audited : Ptr → Ptr → Ptr → Auditing → ℤ → Fml
was_audited world reply reply_length g code =
    fex World (λ now. fex (Result (Unit {0}) Fault) (λ outcome. fex
    ((code ≡ code_of outcome) × Audited g.world outcome now) (λ _.
    fsep (handle g.alloc world now) (told outcome reply reply_length now))))

abbrev pub had_audit : Bool → Ptr → Ptr → Ptr → Auditing → ℤ → Fml
had_audit true world reply reply_length g code = was_audited world reply reply_length g code
had_audit false world reply reply_length g code =
    fex ((code ≡ fault_code Null) × HasNull (world ∷ reply ∷ reply_length ∷ []))
    (λ _. may_audit world reply reply_length g)

abbrev pub after_audit : Ptr → Ptr → Ptr → Auditing → ℤ → Fml
after_audit world reply reply_length g code = fex Bool (λ asked. had_audit asked world reply reply_length g code)
