-- `weblocks_audit` meets its contract: a walk of its MIR, by hand.
use Rattle.std.proofs.Common.{◌≡◌, [], ◌∷◌, refl, ap, w32}
use Rattle.std.proofs.raw_atomic.Walks.{proved}
use Rattle.std.specs.Prelude.{Bool, true, false, ℤ}
use base.Logic.{emp, id⊢}
use base.Fml.{ftrue}
use lib.Ieee.Bits.{is_true, is_false}
use mir.Val.{Val}
use contract.Monad.{fact, fact_i}
use contract.Running.{tables}
use types.Kit.{‵, raw, ◌⊛◌, some, later, prop, at_ret, Sq, ◌$◌, ◌∵◌, !, qed, done, move, drop, use0, use1, use2, split}
use types.Kit.{join, fsplit, fjoin, fpack, feq_l, pick, await, suffices, group}
use types.Run.{enter, of_opd, no_more, and_then, first, branches, skips, exec, returns, returns_within}
use types.ByLocal.{alloc_all, pass_all, free_all, look_at, get, sets, lands_as, env}
use denote.Builtin.{usize, i32, bool}
use denote.Exit.{yes}
use denote.Laws.{shows, Is}
use denote.Signed.{sint_Lawful}
use denote.RawPtr.{Ptr, RawPtr, InBlock, Testable, room_at, rawptr_vals, rawptr_Tells, rawptr_Lawful, rawptr_Makes}
use denote.Signature.{plain}
use denote.Steps.{nothing, owned, peeks, heard, only}
use denote.Triple.Call.{calls_at}
use denote.Triple.Clauses.{lasts}
use denote.Triple.Entry.{on_entry}
use denote.Triple.Spec.{triple_of}
use denote.Triple.Table.{framed}
use denote.Triple.Walked.{Stays, walk_of, stay_dropped, Goes-dropped, ends_at}
use Rattle.wl_c.specs.Handles.{may_audit, was_audited, had_audit, after_audit, handle, HasNull}
use Rattle.wl_c.specs.Codes.{fault_code}
use Rattle.wl_c.specs.declared.fault.Fault.TheVariants.{Null}
use Rattle.wl_c.proofs.PointerSteps.{opens_non_null}
use Rattle.wl_c.specs.contracts.exports.weblocks_audit as f
use Rattle.wl_c.proofs.exports.weblocks_audit.Statement.{statement}
use Rattle.wl_c.proofs.exports.weblocks_audit.Code as code
use Rattle.wl_c.specs.contracts.pointers.can_audit as may
use Rattle.wl_c.proofs.pointers.can_audit.Met.{met as may_met}
use Rattle.wl_c.specs.contracts.exports.audit_at as at
use Rattle.wl_c.proofs.exports.audit_at.Met.{met as at_met}
use Rattle.wl_c.specs.contracts.pointers.code_of_null as why
use Rattle.wl_c.proofs.pointers.code_of_null.Met.{met as why_met}

abbrev stayed : Stays f.ended.signature.params f.ended.kept
stayed = (stay_dropped _ yes, (stay_dropped _ yes, (stay_dropped _ yes, tt)))

pub weblocks_audit_spec : {M : Type 1} → statement M
weblocks_audit_spec 𝓤 𝓛 𝓜 𝓡 wired =
    let c = f.clauses 𝓛 𝓜.mem 𝓡.returns in let W = walk_of 𝓛 f.ended stayed c in let 𝓣 = tables 𝓤 𝓛.H 𝓜 𝓡 𝓡.env in
    let goes = Goes-dropped 𝓛 0 (plain (λ _. RawPtr)) yes (λ κs x w. refl) in
    proved 𝓛 f.ended stayed c 𝓜 𝓡 (goes, (goes, (goes, tt)))
    f.Key.name code.function (code.unfolded 𝓤 𝓛.H 𝓜 𝓡 wired)
    (λ κs. (rawptr_vals, (rawptr_vals, (rawptr_vals, tt)))) (λ κs. (rawptr_Tells, (rawptr_Tells, (rawptr_Tells, tt))))
    (λ κs qs bounds a x are.
    let w' = a.0 in let r' = a.1.0 in let m' = a.1.1.0 in
    let Y : W.Ghost = ((κs, qs, bounds, a, (rawptr_vals w', (rawptr_vals r', (rawptr_vals m', tt)))), x) in
    let typed = λ (p : Ptr). ((rawptr_Lawful 𝓛).typed p _ refl).0 in
    let calls = framed 𝓤 𝓛.H 𝓜 (tables 𝓤 𝓛.H 𝓜 𝓡 𝓡.env) in
    qed 𝓛 (raw (on_entry 𝓛 f.signature κs qs a Y.0.4) ∷ (raw (fact 𝓤 (Testable w' × Testable r' × Testable m')) ⊛ ‵
    (may_audit w' r' m' x)) ∷ []) ∵ drop ! $ split ! $ heard ! _ (λ testable.
    enter ! _ _ _ _ _ $ alloc_all ! (λ l. pass_all ! refl (typed w', (typed r', (typed m', tt))) $
    let G = triple_of 𝓛 may.signature (may.spec 𝓛 𝓜.mem 𝓡.returns) in
    let z : G.Ghost = ((κs, qs, bounds, a, Y.0.4), tt) in
    let entry : Sq 𝓛 [] (prop (on_entry 𝓛 f.signature κs qs a Y.0.4)) =
    nothing ! $ owned ! RawPtr _ (rawptr_Makes 𝓛) m' _ refl $ join ! $ owned ! RawPtr _ (rawptr_Makes 𝓛) r' _ refl $
    join ! $ owned ! RawPtr _ (rawptr_Makes 𝓛) w' _ refl $ join ! $ nothing ! $ join ! $ done ! in
    use0 𝓛 (raw (fact 𝓤 (Testable w' × Testable r' × Testable m'))) (fact_i 𝓤 _ (emp 𝓤) testable) $
    use0 𝓛 (raw (on_entry 𝓛 f.signature κs qs a Y.0.4)) (qed 𝓛 [] ∵ entry) $ use2 𝓛 (raw (G.pre z)) (id⊢ 𝓤 _) $
    calls_at ! calls G (may_met 𝓤 𝓛 𝓜 𝓡 (code.calls-wl_c::pointers::can_audit 𝓡.env wired)) z
    (and_then ! (get ! refl) (and_then ! (get ! refl) (and_then ! (get ! refl) (no_more !)))) (λ v.
    use1 𝓛 (later (some (λ (b : Bool). (‵ ftrue ⊛ ‵ (bool.own_val b (v ∷ []))) ⊛
    some (λ (ws : (Unit {0} × (Unit {0} × (Unit {0} × Unit {0})))). ‵ (lasts may.ended κs a ws) ⊛ raw
    (fact 𝓤 ((b ≡ true → InBlock w' × InBlock r' × InBlock m') × (b ≡ false → HasNull (w' ∷ r' ∷ m' ∷ []))))))))
    (id⊢ 𝓤 _) $
    await ! tt $ pick ! (λ b. split ! $ split ! $ drop ! $ feq_l !
    (λ e. pick ! (λ ws. split ! $ drop ! $ heard ! _ (λ ok.
    lands_as ! (ap only e) refl (tt, tt) $
    let out : (v : Val) (n' : ℤ) → Sq 𝓛 (‵ (i32.own_val n' (v ∷ [])) ∷ ‵ (after_audit w' r' m' x n') ∷ [])
    (prop (W.post Y v)) = λ v n'.
    suffices ! _ (ends_at 𝓛 f.ended stayed c Y v n' (tt, (tt, (tt, tt))) (tt, (tt, (tt, tt)))) $
    nothing ! $ nothing ! $ join ! $ nothing ! $ join ! $ nothing ! $ join ! $ nothing ! $ group ! 3 $ done ! in
    first ! $ branches ! (get ! refl)
    (λ t. let inside = ok.0 (is_true b t) in
    fsplit ! $ use1 𝓛 (‵ (handle x.alloc w' x.world)) (opens_non_null 𝓛 w' _ inside.0) $
    move ! (1 ∷ []) $ fsplit ! $ use1 𝓛 (‵ (room_at RawPtr r')) (opens_non_null 𝓛 r' _ inside.1) $
    move ! (1 ∷ []) $ use1 𝓛 (‵ (room_at usize m')) (opens_non_null 𝓛 m' _ inside.2) $
    move ! (1 ∷ 0 ∷ []) $ fjoin ! $ move ! (1 ∷ 0 ∷ []) $ fjoin ! $
    sets ! (of_opd ! (get ! refl)) refl (typed w') $
    let G2 = triple_of 𝓛 at.signature (at.spec 𝓛 𝓜.mem 𝓡.returns) in
    let z2 : G2.Ghost = ((κs, qs, bounds, a, Y.0.4), x) in
    use0 𝓛 (raw (on_entry 𝓛 f.signature κs qs a Y.0.4)) (qed 𝓛 [] ∵ entry) $ use2 𝓛 (raw (G2.pre z2)) (id⊢ 𝓤 _) $
    calls_at ! calls G2 (at_met 𝓤 𝓛 𝓜 𝓡 (code.calls-wl_c::exports::audit_at 𝓡.env wired)) z2
    (and_then ! (get ! refl) (and_then ! (get ! refl) (and_then ! (get ! refl) (no_more !)))) (λ v.
    use1 𝓛 (later (some (λ (n' : ℤ). (‵ ftrue ⊛ ‵ (i32.own_val n' (v ∷ []))) ⊛
    some (λ (ws : (Unit {0} × (Unit {0} × (Unit {0} × Unit {0})))). ‵ (lasts at.ended κs a ws) ⊛ ‵
    (was_audited w' r' m' x n'))))) (id⊢ 𝓤 _) $
    await ! tt $ pick ! (λ n'. split ! $ split ! $ drop ! $ peeks ! i32 (Is i32) (shows 𝓛 i32) n' (v ∷ [])
    (λ is. move ! (1 ∷ []) $ pick ! (λ ws. split ! $ drop ! $
    lands_as ! refl refl ((sint_Lawful 𝓛 w32).typed n' _ is).0 $
    returns_within ! (W.post Y) refl (look_at ! 0 refl) $ free_all ! refl $
    fpack ! Bool (λ asked. had_audit asked w' r' m' x n') true $ move ! (1 ∷ 0 ∷ []) $ out v n')))))
    (λ t. skips ! $ exec ! 𝓣.C 𝓣.Λ (env code.Mir.locals l) code.Mir.t-3 (at_ret _ (W.post Y)) $
    let G3 = triple_of 𝓛 why.signature (why.spec 𝓛 𝓜.mem 𝓡.returns) in
    let z3 : G3.Ghost = ((κs, qs, bounds, tt, tt), tt) in
    nothing ! $ nothing ! $ nothing ! $ join ! $ use2 𝓛 (raw (G3.pre z3)) (id⊢ 𝓤 _) $
    calls_at ! calls G3 (why_met 𝓤 𝓛 𝓜 𝓡 (code.calls-wl_c::pointers::code_of_null 𝓡.env wired)) z3 (no_more !) (λ v.
    use1 𝓛 (later (some (λ (n' : ℤ). (‵ ftrue ⊛ ‵ (i32.own_val n' (v ∷ []))) ⊛
    some (λ (ws : Unit {0}). ‵ (lasts why.ended κs tt ws) ⊛ raw (fact 𝓤 (n' ≡ fault_code Null)))))) (id⊢ 𝓤 _) $
    await ! tt $ pick ! (λ n'. split ! $ split ! $ drop ! $ peeks ! i32 (Is i32) (shows 𝓛 i32) n' (v ∷ [])
    (λ is. move ! (1 ∷ []) $ pick ! (λ ws. split ! $ drop ! $ heard ! _ (λ no.
    lands_as ! refl refl ((sint_Lawful 𝓛 w32).typed n' _ is).0 $
    returns ! (look_at ! 0 refl) $ free_all ! refl $ move ! (1 ∷ []) $
    fpack ! ((n' ≡ fault_code Null) × HasNull (w' ∷ r' ∷ m' ∷ [])) (λ _. may_audit w' r' m' x)
    (no, ok.1 (is_false b t)) $
    fpack ! Bool (λ asked. had_audit asked w' r' m' x n') false $ move ! (1 ∷ 0 ∷ []) $ out v n'))))))))))))))
