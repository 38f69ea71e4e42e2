-- What the exports' walks need of pointers.
use Rattle.std.proofs.Common.{ℕ, ℤ, List, [], ◌∷◌, ◌⊎◌, inl, inr, ◌<◌, refl, arith}
use Rattle.std.specs.Ptr.{if_non_null}
use seplogic.Ra.Ura.{Ura}
use base.Logic.{ent, id⊢}
use base.Fml.{fat, Share, Fml, fsep}
use mir.Syntax.{ty_ptr}
use mir.Val.{Val}
use types.Logic.{Logic, sem}
use types.Kit.{‵, ◌$◌, ◌∵◌, !, qed, done, move, fjoin, fpack, feq_i}
use denote.Memory.{part_at, cell_at, part_of}
use denote.RawPtr.{Ptr, RawPtr, block_ptr, null_ptr, ptr_val, InBlock}
use Rattle.wl_c.specs.Handles.{HasNull, IsBarred}
use Rattle.wl_c.specs.inner.Handles.{IsLineFault}

-- what was found of a call's pointers and line, and the code by the line's length, say together why it isn't made
pub barred : (pointers : List Ptr) (n : ℕ) (code : ℤ) → HasNull pointers ⊎ (65536 < n) → IsLineFault n code →
    IsBarred pointers n code
barred pointers n code found (inl too_long) = inl too_long
barred pointers n code (inl null) (inr short) = inr (short.0, null)
barred pointers n code (inr long) (inr short) = absurd (let at_most = short.1 in omega arith)

module _ {M : Type 1} {𝓤 : Ura M} (𝓛 : Logic 𝓤) where
  -- at a pointer that isn't null, what lies there
  pub opens_non_null : (p : Ptr) (F : Fml) → InBlock p → ent 𝓤 (sem 𝓛 (if_non_null p F)) (sem 𝓛 F)
  opens_non_null (block_ptr b o) F t = id⊢ 𝓤 _
  opens_non_null null_ptr F t = absurd t

  -- a cell with a pointer is a pointer in memory
  pub ptr_in : (q : Share) (p : Ptr) (b o : ℕ) → ent 𝓤 (sem 𝓛 (fat q ty_ptr b o (ptr_val p)))
      (sem 𝓛 (part_at RawPtr q p b o))
  unfolding part_of
  ptr_in q p b o =
      qed 𝓛 (‵ (fat q ty_ptr b o (ptr_val p)) ∷ []) ∵ feq_i ! (List Val) (ptr_val p ∷ []) (ptr_val p ∷ []) refl $ move !
      (1 ∷ 0 ∷ []) $ fjoin ! $
      fpack ! (List Val) (λ vs. fsep (cell_at q RawPtr.mir vs b o) (RawPtr.own_val p vs)) (ptr_val p ∷ []) $ done !
