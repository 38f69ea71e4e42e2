-- `audit_at` meets its contract: a walk of its MIR, by hand.
use Rattle.std.proofs.Common.{◌≡◌, ℕ, [], ◌∷◌, length, refl, sym, ap, ◌∙◌, subst, w32, w64}
use Rattle.std.proofs.raw_atomic.Walks.{proved}
use base.Fraction.{full_share}
use base.Logic.{SProp, id⊢}
use base.Fml.{Lft, Fml, ftrue, fsep, flft, flent, fex}
use lib.Ieee.Bits.{is_false}
use mir.Syntax.{named}
use mir.Raw.{raw as bare}
use mir.Val.{Val, vint, vptr, of_z}
use contract.Monad.{fact}
use contract.Running.{tables}
use prog.Wp.{WpFn}
use types.Kit.{‵, raw, ◌⊛◌, some, later, prop, at_ret, Sq, ◌$◌, ◌∵◌, !, qed, done, move, drop, use1, use2, use3, split}
use types.Kit.{join, fsplit, fjoin, fpack, pick, await, rewrite, regoal, suffices, group}
use types.Tokens.{lft_new, lft_end}
use types.Run.{enter, of_opd, addr, stop, fld, no_more, and_then, assigns, assigns_last, init, first, branches, skips}
use types.Run.{exec, returns}
use types.ByLocal.{alloc_all, pass_all, free_all, look_at, get, get_in, through, sets, lands_as, env}
use types.Part.{sub, whole}
use denote.Builtin.{usize, i32}
use denote.Exit.{yes}
use denote.Laws.{shows, Is, Typed}
use denote.Lend.{lends_ref, ref_back}
use denote.Memory.{mem, lone}
use denote.Signed.{sint_Makes, sint_Lawful}
use denote.Floats.{is_true}
use Rattle.std.specs.Prelude.{Bool, true}
use Rattle.std.specs.Vec.{vec_ptr}
use denote.Plain.{uint_in}
use denote.RawPtr.{Ptr, RawPtr, block_ptr, ptr_val, lies_at, room_at, in_a_block, rawptr_vals, rawptr_Tells}
use denote.RawPtr.{rawptr_Lawful}
use denote.Ref.{MutRef}
use denote.Signature.{plain}
use denote.Steps.{nothing, owned, peeks, heard, only}
use denote.Triple.Call.{calls_at}
use denote.Triple.Clauses.{lasts}
use denote.Triple.Entry.{on_entry}
use denote.Triple.Spec.{triple_of}
use denote.Triple.Table.{framed}
use denote.Triple.Walked.{Stays, walk_of, stay_dropped, Goes-dropped, ends_at}
use types.SemTy.{Body}
use Rattle.std.specs.contracts.impls.GlobalAllocator.TheImpl.{ghosts}
use Rattle.wl_c.specs.Handles.{SaysAudit, Audited, rooms, told, handle}
use Rattle.wl_c.specs.inner.Handles.{has_audit}
use Rattle.wl_c.specs.Codes.{code_of}
use Rattle.wl_c.specs.declared.fault.Fault.{Fault}
use Rattle.std.specs.Prelude.{Result, is_ok}
use Rattle.wl_c.specs.declared.reply.Reply.{Reply}
use Rattle.wl_c.specs.declared.world.World.{World}
use Rattle.wl_c.specs.contracts.world.World.{the_row as R}
use Rattle.wl_c.specs.contracts.reply.Reply.{the_row as T}
use Rattle.wl_c.specs.contracts.reply.Reply as reply_type
use denote.Struct.Laws.{lawful, owed}
use Rattle.wl_c.proofs.reply.Reply.TheLaws as reply_laws
use Rattle.wl_c.proofs.PointerSteps.{ptr_in}
use Rattle.wl_c.specs.contracts.exports.audit_at as f
use Rattle.wl_c.proofs.exports.audit_at.Statement.{statement}
use Rattle.wl_c.proofs.exports.audit_at.Code as code
use Rattle.wl_c.specs.contracts.reply.audit_lines as g
use Rattle.wl_c.proofs.reply.audit_lines.Met.{met}

abbrev stayed : Stays f.ended.signature.params f.ended.kept
stayed = (stay_dropped _ yes, (stay_dropped _ yes, (stay_dropped _ yes, tt)))

pub audit_at_spec : {M : Type 1} → statement M
audit_at_spec 𝓤 𝓛 𝓜 𝓡 wired =
    let c = f.clauses 𝓛 𝓜.mem 𝓡.returns in let W = walk_of 𝓛 f.ended stayed c in let 𝓣 = tables 𝓤 𝓛.H 𝓜 𝓡 𝓡.env in
    let goes = Goes-dropped 𝓛 0 (plain (λ _. RawPtr)) yes (λ κs x w. refl) in
    proved 𝓛 f.ended stayed c 𝓜 𝓡 (goes, (goes, (goes, tt)))
    f.Key.name code.function (code.unfolded 𝓤 𝓛.H 𝓜 𝓡 wired)
    (λ κs. (rawptr_vals, (rawptr_vals, (rawptr_vals, tt)))) (λ κs. (rawptr_Tells, (rawptr_Tells, (rawptr_Tells, tt))))
    (λ κs qs bounds a x are.
    let y : Ptr → Ptr → Ptr → W.Ghost = λ w r m. (
      (
        κs,
        qs,
        bounds,
        (w, (r, (m, tt))),
        (rawptr_vals w, (rawptr_vals r, (rawptr_vals m, tt))),
      ),
      x,
    ) in
    let Run : Ptr → Ptr → Ptr → SProp 𝓤 = λ w r m. WpFn 𝓤 𝓛.H 𝓣.C 𝓣.Λ code.function
    (ptr_val w ∷ ptr_val r ∷ ptr_val m ∷ []) (W.post (y w r m)) in
    let w' = a.0 in let r' = a.1.0 in let m' = a.1.1.0 in
    qed 𝓛 (raw (on_entry 𝓛 f.signature κs qs a (y w' r' m').0.4) ∷ ‵ (has_audit w' r' m' x) ∷ []) ∵ drop ! $ fsplit ! $
    fsplit ! $
    in_a_block ! w' (λ p. lies_at R full_share p x.world) (id⊢ 𝓤 _) (λ wb wo we.
    rewrite ! 1 (λ (p : Ptr). ‵ (ghosts.dealloc_token x.alloc (bare (lone R.mir)) p)) we refl $
    move ! (2 ∷ []) $ fsplit ! $ in_a_block ! r' (λ p. room_at RawPtr p) (id⊢ 𝓤 _) (λ rb ro re.
    move ! (1 ∷ []) $ in_a_block ! m' (λ p. room_at usize p) (id⊢ 𝓤 _) (λ mb mo me.
    regoal ! (λ p. prop (Run p r' m')) we refl $ regoal ! (λ p. prop (Run (block_ptr wb wo) p m')) re refl $
    regoal ! (λ p. prop (Run (block_ptr wb wo) (block_ptr rb ro) p)) me refl $
    -- [the room of the length; that of the reply; the world; the right to free it]
    enter ! _ _ _ _ _ $ alloc_all ! (λ l. pass_all ! refl ((tt, tt), ((tt, tt), ((tt, tt), tt))) $
    sets ! (addr ! (through ! refl (stop !))) refl (tt, tt) $
    lft_new ! tt (λ β. let μ : Lft = β ∷ [] in move ! (3 ∷ []) $
    use1 𝓛 (later (some (λ (γ : ℕ). ‵ ((MutRef (named 0) μ R).own_val
    (record { ref_ptr = (wb, wo); ghost_name = γ; now = x.world }) (vptr wb wo ∷ [])) ⊛ ‵
    (flent μ (Body (mem R) wb wo γ)))))
    (lends_ref 𝓛 R (named 0) μ x.world wb wo) $ await ! tt $ pick ! (λ γ. split ! $
    -- [the world's `&mut`; its lender's part; its token; the rooms; the right]
    let G = triple_of 𝓛 g.signature (g.spec 𝓛 𝓜.mem 𝓡.returns) in
    let z : G.Ghost = (
      (
        (μ, tt),
        (full_share, tt),
        tt,
        (
          record { ref_ptr = (wb, wo); ghost_name = γ; now = x.world },
          tt,
        ),
        (vptr wb wo ∷ [], tt),
      ),
      tt,
    ) in
    nothing ! $ move ! (1 ∷ 0 ∷ []) $ join ! $ nothing ! $ move ! (3 ∷ 0 ∷ []) $ join ! $ join ! $
    nothing ! $ move ! (1 ∷ 0 ∷ []) $ use2 𝓛 (raw (G.pre z)) (id⊢ 𝓤 _) $
    calls_at ! (framed 𝓤 𝓛.H 𝓜 (tables 𝓤 𝓛.H 𝓜 𝓡 𝓡.env)) G (met 𝓤 𝓛 𝓜 𝓡
    (code.calls-wl_c::reply::audit_lines 𝓡.env wired)) z
    (and_then ! (get ! refl) (no_more !)) (λ v.
    use1 𝓛 (later (some (λ (t : Reply). ((‵ (flft μ full_share) ⊛ ‵ ftrue) ⊛ ‵ (T.own_val t (v ∷ []))) ⊛
    some (λ (ws : World × Unit {0}). ‵ (lasts g.ended z.0.0 z.0.3 ws) ⊛ raw (fact 𝓤 (SaysAudit x.world t ws.0))))))
    (id⊢ 𝓤 _) $
    await ! tt $ pick ! (λ t. split ! $ split ! $ split ! $ lft_end ! tt $
    -- [the world's lifetime is over; nothing; the result; the ensures; the world's lender's part; ..]
    move ! (3 ∷ []) $ pick ! (λ ws. split ! $ move ! (1 ∷ []) $ heard ! _ (λ said. fsplit ! $ fsplit ! $
    move ! (3 ∷ 6 ∷ 0 ∷ []) $ use3 𝓛 (later (‵ (lies_at R full_share (block_ptr wb wo) ws.0)))
    (ref_back 𝓛 R μ γ ws.0 wb wo) $ await ! tt $
    move ! (1 ∷ []) $ drop ! $ move ! (1 ∷ []) $ drop ! $ move ! (1 ∷ []) $ drop ! $
    -- [the world; the result; the room of the length; that of the reply; the right to free the world]
    move ! (1 ∷ []) $ peeks ! T (Is T) (shows 𝓛 T) t (v ∷ []) (λ is. drop ! $
    let e = reply_laws.lowers.val_is t (v ∷ []) is in
    let good = (subst (Typed T.mir) e ((lawful reply_type.the_type reply_laws.the_laws 𝓛).typed t (v ∷ []) is)).0 in
    move ! (0 ∷ 3 ∷ []) $ fjoin ! $
    -- [the world and the right; the room of the length; that of the reply]
    let fields = owed reply_type.the_type reply_laws.the_laws t (v ∷ []) is in
    let Y : W.Ghost = y (block_ptr wb wo) (block_ptr rb ro) (block_ptr mb mo) in
    let ends : Val = vint w32 (of_z w32 t.code) in
    let Outs : Bool → Ptr → ℕ → Fml = λ b p k. rooms b (block_ptr rb ro) (block_ptr mb mo) p k in
    let outcome : Result (Unit {0}) Fault = said.0 in
    let out : Sq 𝓛 (‵ (Outs (is_ok outcome) (vec_ptr ws.0.reply) (length ws.0.reply.items))
    ∷ ‵ (handle x.alloc (block_ptr wb wo) ws.0) ∷ []) (prop (W.post Y ends)) =
    move ! (1 ∷ 0 ∷ []) $ fjoin ! $
    fpack ! ((t.code ≡ code_of outcome) × Audited x.world outcome ws.0)
    (λ _. fsep (handle x.alloc (block_ptr wb wo) ws.0) (told outcome (block_ptr rb ro) (block_ptr mb mo) ws.0))
    (said.2.code, said.1) $
    fpack ! (Result (Unit {0}) Fault) (λ o. fex ((t.code ≡ code_of o) × Audited x.world o ws.0)
    (λ _. fsep (handle x.alloc (block_ptr wb wo) ws.0) (told o (block_ptr rb ro) (block_ptr mb mo) ws.0))) outcome $
    fpack ! World (λ now. fex (Result (Unit {0}) Fault) (λ o. fex ((t.code ≡ code_of o) × Audited x.world o now)
    (λ _. fsep (handle x.alloc (block_ptr wb wo) now) (told o (block_ptr rb ro) (block_ptr mb mo) now)))) ws.0 $
    suffices ! _ (ends_at 𝓛 f.ended stayed c Y ends t.code (tt, (tt, (tt, tt))) (tt, (tt, (tt, tt)))) $
    owned ! i32 _ (sint_Makes 𝓛 w32) t.code _ (refl, fields.1.0.1) $
    nothing ! $ nothing ! $ join ! $ nothing ! $ join ! $ nothing ! $ join ! $ nothing ! $ group ! 3 $ done ! in
    lands_as ! (ap only e) refl good $
    sets ! (of_opd ! (get_in ! (fld ! refl (stop !)) (sub ! 0 refl (whole !)))) refl (tt, tt) $
    first ! $ branches ! (get ! refl)
    (λ yes'.
    assigns ! (of_opd ! (get_in ! (fld ! refl (stop !)) (sub ! 2 refl (whole !)))) (through ! refl (stop !))
    (init ! 2 refl ((rawptr_Lawful 𝓛).typed t.bytes _ refl).0) $
    sets ! (of_opd ! (get_in ! (fld ! refl (stop !)) (sub ! 3 refl (whole !)))) refl
    (tt, record { fits = fields.1.1.1.0.1 }) $
    assigns_last ! (of_opd ! (get ! refl)) (through ! refl (stop !))
    (init ! 1 refl (tt, record { fits = fields.1.1.1.0.1 })) $
    exec ! 𝓣.C 𝓣.Λ (env code.Mir.locals l) code.Mir.t-5 (at_ret _ (W.post Y)) $
    sets ! (of_opd ! (get_in ! (fld ! refl (stop !)) (sub ! 1 refl (whole !)))) refl
    ((sint_Lawful 𝓛 w32).typed t.code _ fields.1.0).0 $
    returns ! (look_at ! 0 refl) $ free_all ! refl $
    move ! (2 ∷ []) $ use1 𝓛 (‵ (lies_at RawPtr full_share (block_ptr rb ro) t.bytes))
    (ptr_in 𝓛 full_share t.bytes rb ro) $
    move ! (2 ∷ []) $ use1 𝓛 (‵ (lies_at usize full_share (block_ptr mb mo) t.length))
    (uint_in 𝓛 full_share w64 t.length mb mo) $ move ! (1 ∷ 0 ∷ []) $ fjoin ! $
    rewrite ! 0 (λ (p : Ptr). ‵ (Outs true p t.length)) said.2.at refl $ rewrite ! 0
    (λ (k : ℕ). ‵ (Outs true (vec_ptr ws.0.reply) k)) said.2.length_is refl $
    rewrite ! 0 (λ (b : Bool). ‵ (Outs b (vec_ptr ws.0.reply) (length ws.0.reply.items)))
    (sym (is_true t.is_done yes') ∙ said.2.done) refl $ out)
    (λ not'. skips ! $ exec ! 𝓣.C 𝓣.Λ (env code.Mir.locals l) code.Mir.t-5 (at_ret _ (W.post Y)) $
    sets ! (of_opd ! (get_in ! (fld ! refl (stop !)) (sub ! 1 refl (whole !)))) refl
    ((sint_Lawful 𝓛 w32).typed t.code _ fields.1.0).0 $
    returns ! (look_at ! 0 refl) $ free_all ! refl $
    move ! (2 ∷ 1 ∷ []) $ fjoin ! $
    rewrite ! 0 (λ (b : Bool). ‵ (Outs b (vec_ptr ws.0.reply) (length ws.0.reply.items)))
    (sym (is_false t.is_done not') ∙ said.2.done) refl $ out)))))))))))))
