-- `answer_at` meets its contract: a walk of its MIR, by hand.
use Rattle.std.proofs.Common.{◌≡◌, ℕ, ◌≤◌, ◌<◌, ◌^◌, ◌*◌, List, [], ◌∷◌, length, refl, sym, ap, ◌∙◌, subst, arith, w8}
use Rattle.std.proofs.Common.{w32, w64, Bor}
use Rattle.std.proofs.raw_atomic.Walks.{proved}
use base.Fraction.{full_share}
use base.Logic.{SProp, id⊢}
use base.Fml.{Lft, Fml, ftrue, feq, fsep, flft, flent, fex, Incl-refl}
use lib.Ieee.Bits.{is_false}
use mir.Syntax.{named}
use mir.Raw.{raw as bare}
use mir.Val.{Val, vint, vptr, of_z}
use contract.Monad.{fact}
use contract.Running.{tables}
use prog.Wp.{WpFn}
use types.Kit.{‵, raw, ◌⊛◌, some, later, prop, at_ret, Sq, ◌$◌, ◌∵◌, !, qed, done, move, drop, use1, use2, use3, split}
use types.Kit.{join, fsplit, fjoin, fpack, feq_i, feq_l, pick, await, rewrite, regoal, suffices, group}
use types.Tokens.{lft_new, lft_end, lent_back}
use types.Run.{enter, of_opd, addr, stop, fld, no_more, and_then, assigns, assigns_last, init, first, branches, skips}
use types.Run.{exec, returns}
use types.ByLocal.{alloc_all, pass_all, free_all, look_at, get, get_in, through, sets, lands_as, env}
use types.Part.{agg, sub, whole}
use denote.Builtin.{u8, usize, i32}
use denote.Exit.{yes}
use denote.Laws.{shows, Is, Typed}
use denote.Lend.{lends_ref, ref_back, lends_shr_slice}
use denote.Memory.{mem, part_at, lone}
use denote.Signed.{sint_Makes, sint_Lawful}
use denote.Floats.{is_true}
use Rattle.std.specs.Prelude.{Bool, true}
use Rattle.std.specs.Vec.{vec_ptr}
use denote.Copied.{uint_Copied}
use denote.Plain.{uint_in, uint_vals, uint_Tells}
use denote.Array.{Array}
use denote.RawPtr.{Ptr, RawPtr, block_ptr, ptr_val, lies_at, room_at, in_a_block, rawptr_vals, rawptr_Tells}
use denote.RawPtr.{rawptr_Lawful}
use denote.RawPtr.Bytes.{bytes, bytes_apart, bytes_whole}
use denote.Ref.{MutRef}
use denote.Slice.{ShrSlice, slice_val}
use denote.Signature.{plain}
use denote.Steps.{nothing, owned, peeks, heard, only}
use denote.Triple.Call.{calls_at}
use denote.Triple.Clauses.{lasts}
use denote.Triple.Entry.{on_entry}
use denote.Triple.Spec.{triple_of}
use denote.Triple.Table.{framed}
use denote.Triple.Walked.{Stays, walk_of, stay_dropped, Goes-dropped, ends_at}
use types.SemTy.{Body}
use Rattle.std.specs.contracts.impls.GlobalAllocator.TheImpl.{ghosts}
use Rattle.wl_c.specs.Handles.{Says, Answered, rooms, told, handle}
use Rattle.wl_c.specs.inner.Handles.{has_asked}
use Rattle.wl_c.specs.Codes.{code_of}
use Rattle.wl_c.specs.declared.fault.Fault.{Fault}
use Rattle.std.specs.Prelude.{Result, is_ok}
use Rattle.wl_c.specs.declared.reply.Reply.{Reply}
use Rattle.wl_c.specs.declared.world.World.{World}
use Rattle.wl_c.specs.contracts.world.World.{the_row as R}
use Rattle.wl_c.specs.contracts.reply.Reply.{the_row as T}
use Rattle.wl_c.specs.contracts.reply.Reply as reply_type
use denote.Struct.Laws.{lawful, owed}
use Rattle.wl_c.proofs.reply.Reply.TheLaws as reply_laws
use Rattle.wl_c.proofs.PointerSteps.{ptr_in}
use Rattle.wl_c.specs.contracts.exports.answer_at as f
use Rattle.wl_c.proofs.exports.answer_at.Statement.{statement}
use Rattle.wl_c.proofs.exports.answer_at.Code as code
use Rattle.wl_c.specs.contracts.reply.answer_line as g
use Rattle.wl_c.proofs.reply.answer_line.Met.{met}

abbrev stayed : Stays f.ended.signature.params f.ended.kept
stayed = (
  stay_dropped _ yes,
  (
    stay_dropped _ yes,
    (
      stay_dropped _ yes,
      (stay_dropped _ yes, (stay_dropped _ yes, tt)),
    ),
  ),
)

pub answer_at_spec : {M : Type 1} → statement M
answer_at_spec 𝓤 𝓛 𝓜 𝓡 wired =
    let c = f.clauses 𝓛 𝓜.mem 𝓡.returns in let W = walk_of 𝓛 f.ended stayed c in let 𝓣 = tables 𝓤 𝓛.H 𝓜 𝓡 𝓡.env in
    let goes = Goes-dropped 𝓛 0 (plain (λ _. RawPtr)) yes (λ κs x w. refl) in
    let counts = Goes-dropped 𝓛 0 (plain (λ _. usize)) yes (λ κs x w. refl) in
    proved 𝓛 f.ended stayed c 𝓜 𝓡 (goes, (goes, (counts, (goes, (goes, tt)))))
    f.Key.name code.function (code.unfolded 𝓤 𝓛.H 𝓜 𝓡 wired)
    (λ κs. (rawptr_vals, (rawptr_vals, (uint_vals w64, (rawptr_vals, (rawptr_vals, tt))))))
    (λ κs. (rawptr_Tells, (rawptr_Tells, (uint_Tells w64, (rawptr_Tells, (rawptr_Tells, tt))))))
    (λ κs qs bounds a x are.
    let n = a.1.1.0 in
    let y : Ptr → Ptr → Ptr → Ptr → W.Ghost = λ w l r m. (
      (
        κs,
        qs,
        bounds,
        (w, (l, (n, (r, (m, tt))))),
        (rawptr_vals w, (rawptr_vals l, (uint_vals w64 n, (rawptr_vals r, (rawptr_vals m, tt))))),
      ),
      x,
    ) in
    let Run : Ptr → Ptr → Ptr → Ptr → SProp 𝓤 = λ w l r m. (WpFn 𝓤 𝓛.H 𝓣.C 𝓣.Λ code.function
    (ptr_val w ∷ ptr_val l ∷ vint w64 n ∷ ptr_val r ∷ ptr_val m ∷ []) (W.post (y w l r m))) in
    let w' = a.0 in let l' = a.1.0 in let r' = a.1.1.1.0 in let m' = a.1.1.1.1.0 in
    qed 𝓛 (raw (on_entry 𝓛 f.signature κs qs a (y w' l' r' m').0.4)
    ∷ (raw (fact 𝓤 (n ≤ 65536)) ⊛ ‵ (has_asked w' l' n r' m' x)) ∷ []) ∵ drop ! $ split ! $ heard ! _
    (λ short. fsplit ! $ fsplit ! $
    in_a_block ! w' (λ p. lies_at R full_share p x.world) (id⊢ 𝓤 _) (λ wb wo we.
    rewrite ! 1 (λ (p : Ptr). ‵ (ghosts.dealloc_token x.alloc (bare (lone R.mir)) p)) we refl $
    move ! (2 ∷ []) $ fsplit ! $ in_a_block ! l' (λ p. lies_at (Array u8 n) x.share p x.line) (id⊢ 𝓤 _) (λ lb lo le.
    move ! (1 ∷ []) $ fsplit ! $ in_a_block ! r' (λ p. room_at RawPtr p) (id⊢ 𝓤 _) (λ rb ro re.
    move ! (1 ∷ []) $ in_a_block ! m' (λ p. room_at usize p) (id⊢ 𝓤 _) (λ mb mo me.
    regoal ! (λ p. prop (Run p l' r' m')) we refl $ regoal ! (λ p. prop (Run (block_ptr wb wo) p r' m')) le refl $
    regoal ! (λ p. prop (Run (block_ptr wb wo) (block_ptr lb lo) p m')) re refl $ regoal !
    (λ p. prop (Run (block_ptr wb wo) (block_ptr lb lo) (block_ptr rb ro) p)) me refl $
    -- [the room of the length; that of the reply; the line; the world; the right to free it]
    move ! (2 ∷ []) $ use1 𝓛 (‵ (fsep (feq ℕ (length x.line) n) (bytes x.share x.line lb lo)))
    (bytes_apart 𝓛 x.share n x.line lb lo) $ fsplit ! $ feq_l ! (λ len.
    let few : length x.line ≤ 65536 = subst (λ (k : ℕ). k ≤ 65536) (sym len) short
    in let fits : length x.line < 2 ^ 64 = omega arith in let room : length x.line * 1 < 2 ^ 63 = omega arith in
    feq_i ! ℕ (length x.line) (length x.line) refl $ fjoin ! $
    enter ! _ _ _ _ _ $ alloc_all ! (λ l. pass_all ! refl (
      (tt, tt),
      ((tt, tt), ((tt, record { fits = are.1.1.0.1 }), ((tt, tt), ((tt, tt), tt)))),
    ) $
    sets ! (addr ! (through ! refl (stop !))) refl (tt, tt) $
    sets ! (agg ! (and_then ! (get ! refl) (and_then ! (get ! refl) (no_more !)))) refl
    (tt, (tt, (record { fits = are.1.1.0.1 }, tt))) $
    let Counted : Fml = fsep (feq ℕ (length x.line) (length x.line)) (bytes x.share x.line lb lo) in
    let s : Bor (List ℕ) = record { ref_ptr = (lb, lo); now = x.line } in
    lft_new ! tt (λ α. let κ : Lft = α ∷ [] in move ! (1 ∷ 0 ∷ []) $
    use2 𝓛 (later ((‵ ((ShrSlice (named 1) κ u8).own_val s (slice_val (lb, lo) (length x.line) ∷ [])) ⊛ ‵
    (flent κ Counted)) ⊛ ‵ (flft κ full_share)))
    (lends_shr_slice 𝓛 u8 (named 1) κ x.share x.line lb lo (fits, room) κ ((uint_Copied 𝓛 w8).shares x.share κ)
    ((κ, full_share) ∷ []) (Incl-refl κ) (Incl-refl κ)) $ await ! tt $ split ! $ split ! $
    rewrite ! 0 (λ (k : ℕ). ‵ ((ShrSlice (named 1) κ u8).own_val s (slice_val (lb, lo) k ∷ []))) len refl $
    -- [the line; its lender's part; its token; the room of the length; that of the reply; the world; the right to free
    -- it]
    lft_new ! tt (λ β. let μ : Lft = β ∷ [] in move ! (6 ∷ []) $
    use1 𝓛 (later (some (λ (γ : ℕ). ‵ ((MutRef (named 0) μ R).own_val
    (record { ref_ptr = (wb, wo); ghost_name = γ; now = x.world }) (vptr wb wo ∷ [])) ⊛ ‵
    (flent μ (Body (mem R) wb wo γ)))))
    (lends_ref 𝓛 R (named 0) μ x.world wb wo) $ await ! tt $ pick ! (λ γ. split ! $
    -- [the world's `&mut`; its lender's part; its token; the line; its lender's part; its token; the rooms; the right]
    let G = triple_of 𝓛 g.signature (g.spec 𝓛 𝓜.mem 𝓡.returns) in
    let z : G.Ghost = (
      (
        (μ, (κ, tt)),
        (full_share, (full_share, tt)),
        tt,
        (record { ref_ptr = (wb, wo); ghost_name = γ; now = x.world }, (s, tt)),
        (vptr wb wo ∷ [], (slice_val (lb, lo) n ∷ [], tt)),
      ),
      tt,
    ) in
    nothing ! $ move ! (4 ∷ 0 ∷ []) $ join ! $ move ! (1 ∷ 0 ∷ []) $ join ! $
    nothing ! $ move ! (5 ∷ 0 ∷ []) $ join ! $ move ! (3 ∷ 0 ∷ []) $ join ! $ join ! $
    nothing ! $ move ! (1 ∷ 0 ∷ []) $ use2 𝓛 (raw (G.pre z)) (id⊢ 𝓤 _) $
    calls_at ! (framed 𝓤 𝓛.H 𝓜 (tables 𝓤 𝓛.H 𝓜 𝓡 𝓡.env)) G (met 𝓤 𝓛 𝓜 𝓡
    (code.calls-wl_c::reply::answer_line 𝓡.env wired)) z
    (and_then ! (get ! refl) (and_then ! (get ! refl) (no_more !))) (λ v.
    use1 𝓛 (later (some (λ (t : Reply). ((‵ (flft μ full_share) ⊛ ‵ (flft κ full_share) ⊛ ‵ ftrue) ⊛ ‵
    (T.own_val t (v ∷ []))) ⊛
    some (λ (ws : World × (Unit {0} × Unit {0})). ‵ (lasts g.ended z.0.0 z.0.3 ws) ⊛ raw
    (fact 𝓤 (Says x.world x.line t ws.0)))))) (id⊢ 𝓤 _) $
    await ! tt $ pick ! (λ t. split ! $ split ! $ split ! $ lft_end ! tt $ move ! (1 ∷ []) $ split ! $ lft_end ! tt $
    -- [the line's lifetime is over; nothing; so is the world's; the result; the ensures; the world's lender's part; the
    -- line's; ..]
    move ! (0 ∷ 6 ∷ []) $ lent_back ! tt $
    move ! (4 ∷ []) $ pick ! (λ ws. split ! $ move ! (1 ∷ []) $ heard ! _ (λ said. fsplit ! $ fsplit ! $
    move ! (5 ∷ 7 ∷ 0 ∷ []) $ use3 𝓛 (later (‵ (lies_at R full_share (block_ptr wb wo) ws.0)))
    (ref_back 𝓛 R μ γ ws.0 wb wo) $ await ! tt $
    move ! (1 ∷ []) $ drop ! $ move ! (1 ∷ []) $ drop ! $ move ! (2 ∷ []) $ drop ! $
    -- [the world; the line; the result; the room of the length; that of the reply; the right to free the world]
    move ! (2 ∷ []) $ peeks ! T (Is T) (shows 𝓛 T) t (v ∷ []) (λ is. drop ! $
    let e = reply_laws.lowers.val_is t (v ∷ []) is in
    let good = (subst (Typed T.mir) e ((lawful reply_type.the_type reply_laws.the_laws 𝓛).typed t (v ∷ []) is)).0 in
    move ! (0 ∷ 4 ∷ []) $ fjoin ! $
    move ! (1 ∷ []) $ fsplit ! $ drop ! $ feq_i ! ℕ (length x.line) n len $ fjoin ! $
    use1 𝓛 (‵ (part_at (Array u8 n) x.share x.line lb lo)) (bytes_whole 𝓛 x.share n x.line lb lo) $
    -- [the line; the world and the right; the room of the length; that of the reply]
    let fields = owed reply_type.the_type reply_laws.the_laws t (v ∷ []) is in
    let Y : W.Ghost = y (block_ptr wb wo) (block_ptr lb lo) (block_ptr rb ro) (block_ptr mb mo) in
    let ends : Val = vint w32 (of_z w32 t.code) in
    let Outs : Bool → Ptr → ℕ → Fml = λ b p k. rooms b (block_ptr rb ro) (block_ptr mb mo) p k in
    let outcome : Result (Unit {0}) Fault = said.0 in
    let out : Sq 𝓛 (‵ (Outs (is_ok outcome) (vec_ptr ws.0.reply) (length ws.0.reply.items))
    ∷ ‵ (part_at (Array u8 n) x.share x.line lb lo) ∷ ‵ (handle x.alloc (block_ptr wb wo) ws.0) ∷ [])
    (prop (W.post Y ends)) =
    move ! (1 ∷ 0 ∷ []) $ fjoin ! $ move ! (1 ∷ 0 ∷ []) $ fjoin ! $
    fpack ! ((t.code ≡ code_of outcome) × Answered x.world x.line outcome ws.0)
    (λ _. fsep (handle x.alloc (block_ptr wb wo) ws.0)
    (fsep (lies_at (Array u8 n) x.share (block_ptr lb lo) x.line)
    (told outcome (block_ptr rb ro) (block_ptr mb mo) ws.0))) (said.2.code, said.1) $
    fpack ! (Result (Unit {0}) Fault) (λ o. fex ((t.code ≡ code_of o) × Answered x.world x.line o ws.0)
    (λ _. fsep (handle x.alloc (block_ptr wb wo) ws.0)
    (fsep (lies_at (Array u8 n) x.share (block_ptr lb lo) x.line) (told o (block_ptr rb ro) (block_ptr mb mo) ws.0))))
    outcome $
    fpack ! World (λ now. fex (Result (Unit {0}) Fault) (λ o. fex ((t.code ≡ code_of o) × Answered x.world x.line o now)
    (λ _. fsep (handle x.alloc (block_ptr wb wo) now)
    (fsep (lies_at (Array u8 n) x.share (block_ptr lb lo) x.line) (told o (block_ptr rb ro) (block_ptr mb mo) now)))))
    ws.0 $
    suffices ! _ (ends_at 𝓛 f.ended stayed c Y ends t.code (tt, (tt, (tt, (tt, (tt, tt)))))
    (tt, (tt, (tt, (tt, (tt, tt)))))) $
    owned ! i32 _ (sint_Makes 𝓛 w32) t.code _ (refl, fields.1.0.1) $
    nothing ! $ nothing ! $ join ! $ nothing ! $ join ! $ nothing ! $ join ! $ nothing ! $ join ! $ nothing ! $ join ! $
    nothing ! $ group ! 3 $ done ! in
    lands_as ! (ap only e) refl good $
    sets ! (of_opd ! (get_in ! (fld ! refl (stop !)) (sub ! 0 refl (whole !)))) refl (tt, tt) $
    first ! $ branches ! (get ! refl)
    (λ yes'.
    assigns ! (of_opd ! (get_in ! (fld ! refl (stop !)) (sub ! 2 refl (whole !)))) (through ! refl (stop !))
    (init ! 3 refl ((rawptr_Lawful 𝓛).typed t.bytes _ refl).0) $
    sets ! (of_opd ! (get_in ! (fld ! refl (stop !)) (sub ! 3 refl (whole !)))) refl
    (tt, record { fits = fields.1.1.1.0.1 }) $
    assigns_last ! (of_opd ! (get ! refl)) (through ! refl (stop !))
    (init ! 2 refl (tt, record { fits = fields.1.1.1.0.1 })) $
    exec ! 𝓣.C 𝓣.Λ (env code.Mir.locals l) code.Mir.t-6 (at_ret _ (W.post Y)) $
    sets ! (of_opd ! (get_in ! (fld ! refl (stop !)) (sub ! 1 refl (whole !)))) refl
    ((sint_Lawful 𝓛 w32).typed t.code _ fields.1.0).0 $
    returns ! (look_at ! 0 refl) $ free_all ! refl $
    move ! (3 ∷ []) $ use1 𝓛 (‵ (lies_at RawPtr full_share (block_ptr rb ro) t.bytes))
    (ptr_in 𝓛 full_share t.bytes rb ro) $
    move ! (3 ∷ []) $ use1 𝓛 (‵ (lies_at usize full_share (block_ptr mb mo) t.length))
    (uint_in 𝓛 full_share w64 t.length mb mo) $ move ! (1 ∷ 0 ∷ []) $ fjoin ! $
    rewrite ! 0 (λ (p : Ptr). ‵ (Outs true p t.length)) said.2.at refl $ rewrite ! 0
    (λ (k : ℕ). ‵ (Outs true (vec_ptr ws.0.reply) k)) said.2.length_is refl $
    rewrite ! 0 (λ (b : Bool). ‵ (Outs b (vec_ptr ws.0.reply) (length ws.0.reply.items)))
    (sym (is_true t.is_done yes') ∙ said.2.done) refl $ out)
    (λ not'. skips ! $ exec ! 𝓣.C 𝓣.Λ (env code.Mir.locals l) code.Mir.t-6 (at_ret _ (W.post Y)) $
    sets ! (of_opd ! (get_in ! (fld ! refl (stop !)) (sub ! 1 refl (whole !)))) refl
    ((sint_Lawful 𝓛 w32).typed t.code _ fields.1.0).0 $
    returns ! (look_at ! 0 refl) $ free_all ! refl $
    move ! (3 ∷ 2 ∷ []) $ fjoin ! $
    rewrite ! 0 (λ (b : Bool). ‵ (Outs b (vec_ptr ws.0.reply) (length ws.0.reply.items)))
    (sym (is_false t.is_done not') ∙ said.2.done) refl $ out)))))))))))))))))
