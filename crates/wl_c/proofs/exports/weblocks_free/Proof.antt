-- `weblocks_free` meets its contract: a walk of its MIR, by hand.
use Rattle.std.proofs.Common.{◌≡◌, [], ◌∷◌, refl, ap}
use Rattle.std.proofs.raw_atomic.Walks.{proved}
use Rattle.std.specs.Prelude.{Bool, true}
use Rattle.std.specs.Ptr.{if_non_null}
use base.Logic.{emp, id⊢}
use base.Fml.{ftrue}
use lib.Ieee.Bits.{is_true}
use mir.Val.{vunit}
use contract.Monad.{fact, fact_i}
use contract.Running.{tables}
use types.Kit.{‵, raw, ◌⊛◌, some, later, prop, at_ret, Sq, ◌$◌, ◌∵◌, !, qed, done, drop, use0, use1, use2, split, join}
use types.Kit.{feq_l, feq_i, pick, await, suffices, group}
use types.Run.{enter, of_opd, unit_lit, no_more, and_then, first, branches, skips, exec, returns, returns_within}
use types.ByLocal.{alloc_all, pass_all, free_all, look_at, get, sets, lands_as, env}
use denote.Builtin.{bool, unit}
use denote.Exit.{yes}
use denote.RawPtr.{RawPtr, InBlock, Testable, rawptr_vals, rawptr_Tells, rawptr_Lawful, rawptr_Makes}
use denote.Signature.{plain}
use denote.Struct.Laws.{vals, tells, lawful, makes}
use denote.Steps.{nothing, owned, heard, only}
use denote.Triple.Call.{calls_at}
use denote.Triple.Clauses.{lasts, Lasts}
use denote.Triple.Entry.{on_entry}
use denote.Triple.Spec.{triple_of}
use denote.Triple.Table.{framed}
use denote.Triple.Walked.{Stays, walk_of, stay_dropped, Goes-dropped, ends_at}
use Rattle.wl_c.specs.Handles.{handle}
use Rattle.std.specs.contracts.alloc.Global as heap
use Rattle.std.proofs.alloc.Global.TheLaws as heap_laws
use Rattle.wl_c.proofs.PointerSteps.{opens_non_null}
use Rattle.wl_c.specs.contracts.exports.weblocks_free as f
use Rattle.wl_c.proofs.exports.weblocks_free.Statement.{statement}
use Rattle.wl_c.proofs.exports.weblocks_free.Code as code
use Rattle.wl_c.specs.contracts.pointers.can_end as can
use Rattle.wl_c.proofs.pointers.can_end.Met.{met as can_met}
use Rattle.wl_c.specs.contracts.exports.end as end
use Rattle.wl_c.proofs.exports.end.Met.{met as end_met}

abbrev stayed : Stays f.ended.signature.params f.ended.kept
stayed = (stay_dropped _ yes, (stay_dropped _ yes, tt))

pub weblocks_free_spec : {M : Type 1} → statement M
weblocks_free_spec 𝓤 𝓛 𝓜 𝓡 wired =
    let c = f.clauses 𝓛 𝓜.mem 𝓡.returns in let W = walk_of 𝓛 f.ended stayed c in let 𝓣 = tables 𝓤 𝓛.H 𝓜 𝓡 𝓡.env in
    proved 𝓛 f.ended stayed c 𝓜 𝓡 (
      Goes-dropped 𝓛 0 (plain (λ _. heap.the_row)) yes (λ κs x w. refl),
      (Goes-dropped 𝓛 0 (plain (λ _. RawPtr)) yes (λ κs x w. refl), tt),
    )
    f.Key.name code.function (code.unfolded 𝓤 𝓛.H 𝓜 𝓡 wired)
    (λ κs. (vals heap.the_type heap_laws.the_laws, (rawptr_vals, tt)))
    (λ κs. (tells heap.the_type heap_laws.the_laws, (rawptr_Tells, tt))) (λ κs qs bounds a x are.
    let p = a.1.0 in
    let h = vals heap.the_type heap_laws.the_laws a.0 in
    let Y : W.Ghost = ((κs, qs, bounds, a, (h, (rawptr_vals p, tt))), x) in
    let calls = framed 𝓤 𝓛.H 𝓜 (tables 𝓤 𝓛.H 𝓜 𝓡 𝓡.env) in
    qed 𝓛 (raw (on_entry 𝓛 f.signature κs qs a Y.0.4) ∷ (raw (fact 𝓤 (Testable p)) ⊛ ‵ (if_non_null p (handle a.0 p x)))
    ∷ []) ∵ drop ! $ split ! $ heard ! _ (λ testable.
    enter ! _ _ _ _ _ $ alloc_all ! (λ l. pass_all ! refl (
      ((lawful heap.the_type heap_laws.the_laws 𝓛).typed a.0 _
          are.0).0,
      (((rawptr_Lawful 𝓛).typed p _ refl).0, tt),
    ) $
    let fin : Sq 𝓛 [] (prop (W.post Y vunit)) =
    suffices ! _ (ends_at 𝓛 f.ended stayed c Y vunit tt (tt, (tt, tt)) (tt, (tt, tt))) $
    nothing ! $ feq_i ! _ (vunit ∷ []) _ refl $ nothing ! $ nothing ! $ join ! $ nothing ! $ join ! $ nothing ! $ group
    ! 3 $ done ! in
    let G = triple_of 𝓛 can.signature (can.spec 𝓛 𝓜.mem 𝓡.returns) in
    let z : G.Ghost = ((κs, qs, bounds, (p, tt), (rawptr_vals p, tt)), tt) in
    use0 𝓛 (raw (fact 𝓤 (Testable p))) (fact_i 𝓤 _ (emp 𝓤) testable) $
    nothing ! $ owned ! RawPtr _ (rawptr_Makes 𝓛) p _ refl $ join ! $ nothing ! $ join ! $ use2 𝓛 (raw (G.pre z))
    (id⊢ 𝓤 _) $
    calls_at ! calls G (can_met 𝓤 𝓛 𝓜 𝓡 (code.calls-wl_c::pointers::can_end 𝓡.env wired)) z
    (and_then ! (get ! refl) (no_more !)) (λ v.
    use1 𝓛 (later (some (λ (b : Bool). (‵ ftrue ⊛ ‵ (bool.own_val b (v ∷ []))) ⊛ some
    (λ (ws : Unit {0} × Unit {0}). ‵ (lasts can.ended κs (p, tt) ws) ⊛ raw (fact 𝓤 (b ≡ true → InBlock p))))))
    (id⊢ 𝓤 _) $
    await ! tt $ pick ! (λ b. split ! $ split ! $ drop ! $ feq_l !
    (λ e. pick ! (λ ws. split ! $ drop ! $ heard ! _ (λ ok.
    lands_as ! (ap only e) refl (tt, tt) $
    first ! $ branches ! (get ! refl)
    (λ t. use1 𝓛 (‵ (handle a.0 p x)) (opens_non_null 𝓛 p _ (ok (is_true b t))) $ sets ! (of_opd ! (get ! refl)) refl
    ((rawptr_Lawful 𝓛).typed p _ refl).0 $
    let G2 = triple_of 𝓛 end.signature (end.spec 𝓛 𝓜.mem 𝓡.returns) in
    let z2 : G2.Ghost = ((κs, qs, bounds, a, Y.0.4), x) in
    nothing ! $ owned ! RawPtr _ (rawptr_Makes 𝓛) p _ refl $ join ! $ owned ! heap.the_row _
    (makes heap.the_type heap_laws.the_plain 𝓛) a.0 _ are.0 $ join ! $ nothing ! $ join ! $
    use2 𝓛 (raw (G2.pre z2)) (id⊢ 𝓤 _) $
    calls_at ! calls G2 (end_met 𝓤 𝓛 𝓜 𝓡 (code.calls-wl_c::exports::end 𝓡.env wired)) z2
    (and_then ! (get ! refl) (and_then ! (get ! refl) (no_more !))) (λ u.
    use1 𝓛 (later (some (λ (r : Unit {0}). (‵ ftrue ⊛ ‵ (unit.own_val r (u ∷ []))) ⊛ some
    (λ (ws : Lasts end.ended κs a). ‵ (lasts end.ended κs a ws) ⊛ ‵ ftrue)))) (id⊢ 𝓤 _) $
    await ! tt $ pick ! (λ r. split ! $ split ! $ drop ! $ feq_l ! (λ is_unit. drop ! $
    lands_as ! (ap only is_unit) refl (tt, tt) $ returns_within ! (W.post Y) refl (look_at ! 0 refl) $ free_all ! refl $
    fin))))
    (λ t. skips ! $ exec ! 𝓣.C 𝓣.Λ (env code.Mir.locals l) code.Mir.t-3 (at_ret _ (W.post Y)) $ drop ! $
    sets ! (of_opd ! (unit_lit !)) refl (tt, tt) $ returns ! (look_at ! 0 refl) $ free_all ! refl $ fin)))))))))
