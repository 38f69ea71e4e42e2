-- `weblocks_answer` meets its contract: a walk of its MIR, by hand.
use Rattle.std.proofs.Common.{◌≡◌, ◌≤◌, ◌<◌, ◌⊎◌, [], ◌∷◌, refl, ap, w32, w64}
use Rattle.std.proofs.raw_atomic.Walks.{proved}
use Rattle.std.specs.Prelude.{Bool, true, false, ℤ}
use base.Logic.{emp, id⊢}
use base.Fml.{ftrue}
use lib.Ieee.Bits.{is_true, is_false}
use mir.Val.{Val}
use contract.Monad.{fact, fact_i}
use contract.Running.{tables}
use types.Kit.{‵, raw, ◌⊛◌, some, later, prop, at_ret, Sq, ◌$◌, ◌∵◌, !, qed, done, move, drop, use0, use1, use2, split}
use types.Kit.{join, fsplit, fjoin, fpack, feq_l, pick, await, suffices, group}
use types.Run.{enter, of_opd, no_more, and_then, first, branches, skips, exec, returns, returns_within}
use types.ByLocal.{alloc_all, pass_all, free_all, look_at, get, sets, lands_as, env}
use denote.Builtin.{u8, usize, i32, bool}
use denote.Exit.{yes}
use denote.Laws.{shows, Is}
use denote.Plain.{uint_Makes, uint_vals, uint_Tells}
use denote.Signed.{sint_Lawful}
use denote.Array.{Array}
use denote.RawPtr.{Ptr, RawPtr, InBlock, Testable, lies_at, room_at, rawptr_vals, rawptr_Tells, rawptr_Lawful}
use denote.RawPtr.{rawptr_Makes}
use denote.Signature.{plain}
use denote.Steps.{nothing, owned, peeks, heard, only}
use denote.Triple.Call.{calls_at}
use denote.Triple.Clauses.{lasts}
use denote.Triple.Entry.{on_entry}
use denote.Triple.Spec.{triple_of}
use denote.Triple.Table.{framed}
use denote.Triple.Walked.{Stays, walk_of, stay_dropped, Goes-dropped, ends_at}
use Rattle.wl_c.specs.Handles.{may_ask, was_answered, had_answer, after_answer, handle, HasNull, IsBarred}
use Rattle.wl_c.specs.inner.Handles.{IsLineFault}
use Rattle.wl_c.proofs.PointerSteps.{barred, opens_non_null}
use Rattle.wl_c.specs.contracts.exports.weblocks_answer as f
use Rattle.wl_c.proofs.exports.weblocks_answer.Statement.{statement}
use Rattle.wl_c.proofs.exports.weblocks_answer.Code as code
use Rattle.wl_c.specs.contracts.pointers.can_answer as may
use Rattle.wl_c.proofs.pointers.can_answer.Met.{met as may_met}
use Rattle.wl_c.specs.contracts.exports.answer_at as at
use Rattle.wl_c.proofs.exports.answer_at.Met.{met as at_met}
use Rattle.wl_c.specs.contracts.pointers.code_of_line as why
use Rattle.wl_c.proofs.pointers.code_of_line.Met.{met as why_met}

abbrev stayed : Stays f.ended.signature.params f.ended.kept
stayed = (
  stay_dropped _ yes,
  (
    stay_dropped _ yes,
    (
      stay_dropped _ yes,
      (stay_dropped _ yes, (stay_dropped _ yes, tt)),
    ),
  ),
)

pub weblocks_answer_spec : {M : Type 1} → statement M
weblocks_answer_spec 𝓤 𝓛 𝓜 𝓡 wired =
    let c = f.clauses 𝓛 𝓜.mem 𝓡.returns in let W = walk_of 𝓛 f.ended stayed c in let 𝓣 = tables 𝓤 𝓛.H 𝓜 𝓡 𝓡.env in
    let goes = Goes-dropped 𝓛 0 (plain (λ _. RawPtr)) yes (λ κs x w. refl) in
    let counts = Goes-dropped 𝓛 0 (plain (λ _. usize)) yes (λ κs x w. refl) in
    proved 𝓛 f.ended stayed c 𝓜 𝓡 (goes, (goes, (counts, (goes, (goes, tt)))))
    f.Key.name code.function (code.unfolded 𝓤 𝓛.H 𝓜 𝓡 wired)
    (λ κs. (rawptr_vals, (rawptr_vals, (uint_vals w64, (rawptr_vals, (rawptr_vals, tt))))))
    (λ κs. (rawptr_Tells, (rawptr_Tells, (uint_Tells w64, (rawptr_Tells, (rawptr_Tells, tt))))))
    (λ κs qs bounds a x are.
    let w' = a.0 in let l' = a.1.0 in let n = a.1.1.0 in let r' = a.1.1.1.0 in let m' = a.1.1.1.1.0 in
    let Y : W.Ghost = (
      (
        κs,
        qs,
        bounds,
        a,
        (
          rawptr_vals w',
          (rawptr_vals l', (uint_vals w64 n, (rawptr_vals r', (rawptr_vals m', tt)))),
        ),
      ),
      x,
    ) in
    let typed = λ (p : Ptr). ((rawptr_Lawful 𝓛).typed p _ refl).0 in
    let calls = framed 𝓤 𝓛.H 𝓜 (tables 𝓤 𝓛.H 𝓜 𝓡 𝓡.env) in
    qed 𝓛 (raw (on_entry 𝓛 f.signature κs qs a Y.0.4) ∷ (raw
    (fact 𝓤 (Testable w' × Testable l' × Testable r' × Testable m')) ⊛ ‵ (may_ask w' l' n r' m' x)) ∷ []) ∵ drop ! $
    split ! $ heard ! _ (λ testable.
    enter ! _ _ _ _ _ $ alloc_all ! (λ l. pass_all ! refl (
      typed w',
      (typed l', ((tt, record { fits = are.1.1.0.1 }), (typed r', (typed m', tt)))),
    ) $
    let G = triple_of 𝓛 may.signature (may.spec 𝓛 𝓜.mem 𝓡.returns) in
    let z : G.Ghost = ((κs, qs, bounds, a, Y.0.4), tt) in
    let entry : Sq 𝓛 [] (prop (on_entry 𝓛 f.signature κs qs a Y.0.4)) =
    nothing ! $ owned ! RawPtr _ (rawptr_Makes 𝓛) m' _ refl $ join ! $ owned ! RawPtr _ (rawptr_Makes 𝓛) r' _ refl $
    join ! $ owned ! usize _ (uint_Makes 𝓛 w64) n _ (refl, are.1.1.0.1) $ join ! $
    owned ! RawPtr _ (rawptr_Makes 𝓛) l' _ refl $ join ! $ owned ! RawPtr _ (rawptr_Makes 𝓛) w' _ refl $ join ! $
    nothing ! $ join ! $ done ! in
    use0 𝓛 (raw (fact 𝓤 (Testable w' × Testable l' × Testable r' × Testable m'))) (fact_i 𝓤 _ (emp 𝓤) testable) $
    use0 𝓛 (raw (on_entry 𝓛 f.signature κs qs a Y.0.4)) (qed 𝓛 [] ∵ entry) $ use2 𝓛 (raw (G.pre z)) (id⊢ 𝓤 _) $
    calls_at ! calls G (may_met 𝓤 𝓛 𝓜 𝓡 (code.calls-wl_c::pointers::can_answer 𝓡.env wired)) z
    (and_then ! (get ! refl) (and_then ! (get ! refl) (and_then ! (get ! refl)
    (and_then ! (get ! refl) (and_then ! (get ! refl) (no_more !)))))) (λ v.
    use1 𝓛 (later (some (λ (b : Bool). (‵ ftrue ⊛ ‵ (bool.own_val b (v ∷ []))) ⊛
    some (λ (ws : (Unit {0} × (Unit {0} × (Unit {0} × (Unit {0} × (Unit {0} × Unit {0})))))). ‵
    (lasts may.ended κs a ws) ⊛ raw (fact 𝓤 ((b ≡ true → InBlock w' × InBlock l' × InBlock r' × InBlock m'
    × (n ≤ 65536)) × (b ≡ false → HasNull (w' ∷ l' ∷ r' ∷ m' ∷ []) ⊎ (65536 < n)))))))) (id⊢ 𝓤 _) $
    await ! tt $ pick ! (λ b. split ! $ split ! $ drop ! $ feq_l !
    (λ e. pick ! (λ ws. split ! $ drop ! $ heard ! _ (λ ok.
    lands_as ! (ap only e) refl (tt, tt) $
    let out : (v : Val) (n' : ℤ) → Sq 𝓛 (‵ (i32.own_val n' (v ∷ [])) ∷ ‵ (after_answer w' l' n r' m' x n') ∷ [])
    (prop (W.post Y v)) = λ v n'.
    suffices ! _ (ends_at 𝓛 f.ended stayed c Y v n' (tt, (tt, (tt, (tt, (tt, tt))))) (tt, (tt, (tt, (tt, (tt, tt)))))) $
    nothing ! $ nothing ! $ join ! $ nothing ! $ join ! $ nothing ! $ join ! $ nothing ! $ join ! $ nothing ! $ join ! $
    nothing ! $ group ! 3 $ done ! in
    first ! $ branches ! (get ! refl)
    (λ t. let inside = ok.0 (is_true b t) in
    fsplit ! $ use1 𝓛 (‵ (handle x.alloc w' x.world)) (opens_non_null 𝓛 w' _ inside.0) $
    move ! (1 ∷ []) $ fsplit ! $ use1 𝓛 (‵ (lies_at (Array u8 n) x.share l' x.line)) (opens_non_null 𝓛 l' _ inside.1) $
    move ! (1 ∷ []) $ fsplit ! $ use1 𝓛 (‵ (room_at RawPtr r')) (opens_non_null 𝓛 r' _ inside.2) $
    move ! (1 ∷ []) $ use1 𝓛 (‵ (room_at usize m')) (opens_non_null 𝓛 m' _ inside.3) $
    move ! (1 ∷ 0 ∷ []) $ fjoin ! $ move ! (1 ∷ 0 ∷ []) $ fjoin ! $ move ! (1 ∷ 0 ∷ []) $ fjoin ! $
    sets ! (of_opd ! (get ! refl)) refl (typed w') $
    let G2 = triple_of 𝓛 at.signature (at.spec 𝓛 𝓜.mem 𝓡.returns) in
    let z2 : G2.Ghost = ((κs, qs, bounds, a, Y.0.4), x) in
    use0 𝓛 (raw (fact 𝓤 (n ≤ 65536))) (fact_i 𝓤 _ (emp 𝓤) inside.4) $ join ! $
    use0 𝓛 (raw (on_entry 𝓛 f.signature κs qs a Y.0.4)) (qed 𝓛 [] ∵ entry) $ use2 𝓛 (raw (G2.pre z2)) (id⊢ 𝓤 _) $
    calls_at ! calls G2 (at_met 𝓤 𝓛 𝓜 𝓡 (code.calls-wl_c::exports::answer_at 𝓡.env wired)) z2
    (and_then ! (get ! refl) (and_then ! (get ! refl) (and_then ! (get ! refl)
    (and_then ! (get ! refl) (and_then ! (get ! refl) (no_more !)))))) (λ v.
    use1 𝓛 (later (some (λ (n' : ℤ). (‵ ftrue ⊛ ‵ (i32.own_val n' (v ∷ []))) ⊛
    some (λ (ws : (Unit {0} × (Unit {0} × (Unit {0} × (Unit {0} × (Unit {0} × Unit {0})))))). ‵ (lasts at.ended κs a ws)
    ⊛ ‵ (was_answered w' l' n r' m' x n'))))) (id⊢ 𝓤 _) $
    await ! tt $ pick ! (λ n'. split ! $ split ! $ drop ! $ peeks ! i32 (Is i32) (shows 𝓛 i32) n' (v ∷ [])
    (λ is. move ! (1 ∷ []) $ pick ! (λ ws. split ! $ drop ! $
    lands_as ! refl refl ((sint_Lawful 𝓛 w32).typed n' _ is).0 $
    returns_within ! (W.post Y) refl (look_at ! 0 refl) $ free_all ! refl $
    fpack ! Bool (λ asked. had_answer asked w' l' n r' m' x n') true $ move ! (1 ∷ 0 ∷ []) $ out v n')))))
    (λ t. skips ! $ exec ! 𝓣.C 𝓣.Λ (env code.Mir.locals l) code.Mir.t-3 (at_ret _ (W.post Y)) $
    let G3 = triple_of 𝓛 why.signature (why.spec 𝓛 𝓜.mem 𝓡.returns) in
    let z3 : G3.Ghost = ((κs, qs, bounds, (n, tt), (uint_vals w64 n, tt)), tt) in
    nothing ! $ nothing ! $ owned ! usize _ (uint_Makes 𝓛 w64) n _ (refl, are.1.1.0.1) $ join ! $ nothing ! $ join ! $
    use2 𝓛 (raw (G3.pre z3)) (id⊢ 𝓤 _) $
    calls_at ! calls G3 (why_met 𝓤 𝓛 𝓜 𝓡 (code.calls-wl_c::pointers::code_of_line 𝓡.env wired)) z3
    (and_then ! (get ! refl) (no_more !)) (λ v.
    use1 𝓛 (later (some (λ (n' : ℤ). (‵ ftrue ⊛ ‵ (i32.own_val n' (v ∷ []))) ⊛
    some (λ (ws : Unit {0} × Unit {0}). ‵ (lasts why.ended κs (n, tt) ws) ⊛ raw (fact 𝓤 (IsLineFault n n'))))))
    (id⊢ 𝓤 _) $
    await ! tt $ pick ! (λ n'. split ! $ split ! $ drop ! $ peeks ! i32 (Is i32) (shows 𝓛 i32) n' (v ∷ [])
    (λ is. move ! (1 ∷ []) $ pick ! (λ ws. split ! $ drop ! $ heard ! _ (λ no.
    lands_as ! refl refl ((sint_Lawful 𝓛 w32).typed n' _ is).0 $
    returns ! (look_at ! 0 refl) $ free_all ! refl $ move ! (1 ∷ []) $
    fpack ! (IsBarred (w' ∷ l' ∷ r' ∷ m' ∷ []) n n') (λ _. may_ask w' l' n r' m' x)
    (barred (w' ∷ l' ∷ r' ∷ m' ∷ []) n n' (ok.1 (is_false b t)) no) $
    fpack ! Bool (λ asked. had_answer asked w' l' n r' m' x n') false $ move ! (1 ∷ 0 ∷ []) $ out v n'))))))))))))))
