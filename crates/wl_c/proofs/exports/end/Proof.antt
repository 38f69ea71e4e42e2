-- `end` meets its contract: a walk of its MIR, by hand.
use Rattle.std.proofs.Common.{◌≡◌, List, [], ◌∷◌, refl, ap}
use Rattle.std.proofs.raw_atomic.Walks.{proved}
use base.Fraction.{full_share}
use base.Logic.{emp, id⊢}
use base.Fml.{Lft, ftrue, fsep, flft}
use mir.Syntax.{impl, tcons, tnil, dnil}
use mir.Val.{Val, vunit}
use contract.Monad.{fact, fact_i}
use contract.BorrowLft.{◌⊑◌}
use contract.Running.{tables, within}
use contract.Lifetimes.{Lfts}
use types.Kit.{‵, raw, ◌⊛◌, some, later, ◌$◌, ◌∵◌, !, qed, done, move, drop, use0, use1, use2, split, join, fsplit}
use types.Kit.{feq_l, feq_i, pick, await, suffices, group}
use types.Run.{enter, of_opd, unit_lit, no_more, and_then, returns}
use types.ByLocal.{alloc_all, pass_all, free_all, look_at, get, sets, lands_as}
use types.Tokens.{lft_new}
use denote.Builtin.{unit}
use denote.Exit.{yes}
use denote.RawPtr.{RawPtr, rawptr_vals, rawptr_Tells, rawptr_Lawful}
use denote.Param.NoDrop as NoDrop
use denote.Param.{layout}
use types.Kit.{fjoin3}
use denote.Signature.{plain}
use denote.Steps.{nothing, only}
use denote.Triple.Call.{calls_at}
use denote.Triple.Clauses.{lasts, Lasts}
use denote.Triple.Spec.{triple_of}
use denote.Triple.Table.{framed}
use denote.Triple.Walked.{Stays, walk_of, stay_dropped, Goes-dropped, ends_at}
use Rattle.wl_c.specs.Handles.{handle}
use denote.Struct.Laws.{vals, tells, lawful}
use Rattle.std.proofs.BoxSteps.Form.{Bx, B, word, box_typed}
use Rattle.std.proofs.BoxSteps.Steps.{box_out, box_in}
use Rattle.wl_c.proofs.world.World.TheLaws as world_laws
use Rattle.std.specs.contracts.alloc.Global as heap
use Rattle.std.proofs.alloc.Global.TheLaws as heap_laws
use Rattle.std.specs.contracts.impls.GlobalAllocator.TheImpl as allocator
use Rattle.std.proofs.impls.GlobalAllocator.TheImpl.Met as allocator_met
use Rattle.std.specs.contracts.boxed.Box.from_raw as from
use Rattle.std.proofs.boxed.Box.from_raw.Met as from_met
use Rattle.wl_c.specs.contracts.exports.end as f
use Rattle.wl_c.proofs.exports.end.Statement.{statement}
use Rattle.wl_c.proofs.exports.end.Code as code
use Rattle.wl_c.proofs.exports.end.Lts as lts
use Rattle.wl_c.specs.contracts.exports.drop_world as go
use Rattle.wl_c.proofs.exports.drop_world.Met.{met as go_met}

abbrev stayed : Stays f.ended.signature.params f.ended.kept
stayed = (stay_dropped _ yes, (stay_dropped _ yes, tt))

pub end_spec : {M : Type 1} → statement M
unfolding Rattle.wl_c.proofs.Destruct++none.drop.Code.code
end_spec {M = M} 𝓤 𝓛 𝓜 𝓡 wired =
    let c = f.clauses 𝓛 𝓜.mem 𝓡.returns in let W = walk_of 𝓛 f.ended stayed c in let 𝓣 = tables 𝓤 𝓛.H 𝓜 𝓡 𝓡.env in
    proved 𝓛 f.ended stayed c 𝓜 𝓡 (
      Goes-dropped 𝓛 0 (plain (λ _. heap.the_row)) yes (λ κs x w. refl),
      (Goes-dropped 𝓛 0 (plain (λ _. RawPtr)) yes (λ κs x w. refl), tt),
    )
    f.Key.name code.function (code.unfolded 𝓤 𝓛.H 𝓜 𝓡 wired)
    (λ κs. (vals heap.the_type heap_laws.the_laws, (rawptr_vals, tt)))
    (λ κs. (tells heap.the_type heap_laws.the_laws, (rawptr_Tells, tt))) (λ κs qs bounds a x are.
    let h = vals heap.the_type heap_laws.the_laws a.0 in
    let Y : W.Ghost = ((κs, qs, bounds, a, (h, (rawptr_vals a.1.0, tt))), x) in
    let ℓs : Lfts 2 = ([], ([], tt)) in let 𝓡' = within 𝓤 𝓛.H 𝓜 𝓡 𝓡.env in
    let Z' = heap.the_row in let X = lts.arg-0-0 ℓs in let Z = lts.arg-0-1 ℓs in
    let dd = impl ("wl_c::Destruct++none::drop" ∷ []) (tcons (layout (lts.impl_arg-0-0 ℓs)) tnil) dnil in
    let E : Bx = record {
      row = X;
      laws = lts.laws-0-0 ℓs;
      al =
          record { row = Z; laws = lts.laws-0-1 ℓs; g = allocator.ghosts; d = allocator.dict; drops = dd };
    } in
    let G = triple_of 𝓛 (from.signature X Z allocator.ghosts allocator.dict dd)
    (from.spec X Z allocator.ghosts allocator.dict dd 𝓛 𝓜.mem 𝓡.returns) in
    let Ce = from.ended X Z allocator.ghosts allocator.dict dd in
    let known = from_met.met 𝓤 𝓛 𝓜 𝓡' (code.calls-std::boxed::Box::from_raw 𝓡.env wired) X Z (lts.laws-0-0 ℓs)
    (lts.laws-0-1 ℓs) allocator.ghosts allocator.dict dd
    (allocator_met.passed 𝓡.env (code.calls-std::impls::GlobalAllocator::allocate 𝓡.env wired)
    (code.calls-std::impls::GlobalAllocator::deallocate 𝓡.env wired)
    (code.calls-std::impls::GlobalAllocator::grow 𝓡.env wired)
    (code.calls-std::impls::GlobalAllocator::shrink 𝓡.env wired) M 𝓤 𝓛 𝓜 𝓡)
    (NoDrop.glues "wl_c::Destruct++none::drop" 𝓡.env (code.calls-wl_c::Destruct++none::drop 𝓡.env wired)
    (lts.impl_arg-0-0 ℓs) (lts.impl_laws-0-0 ℓs) M 𝓤 𝓛 𝓜 𝓡) in
    qed 𝓛 ((‵ ftrue ⊛ ‵ (fsep (Z'.own_val a.0 h) (fsep (RawPtr.own_val a.1.0 (rawptr_vals a.1.0)) ftrue)))
    ∷ ‵ (handle a.0 a.1.0 x) ∷ []) ∵ split ! $ drop ! $ fsplit ! $ move ! (1 ∷ []) $ drop ! $
    -- [the allocator; the world]
    enter ! _ _ _ _ _ $ alloc_all ! (λ l. pass_all ! refl (
      ((lawful heap.the_type heap_laws.the_laws 𝓛).typed a.0 _
          are.0).0,
      (((rawptr_Lawful 𝓛).typed a.1.0 _ refl).0, tt),
    ) $
    lft_new ! tt (λ α. lft_new ! tt (λ β. let κ : Lft = α ∷ [] in let μ : Lft = β ∷ [] in
    let y : G.Ghost = (
      (
        (κ, (μ, tt)),
        (full_share, (full_share, tt)),
        tt,
        (a.0, (a.1.0, tt)),
        (h, (rawptr_vals a.1.0, tt)),
      ),
      x,
    ) in
    move ! (3 ∷ []) $ use0 𝓛 (raw (fact 𝓤 (μ ⊑ Z.lives))) (fact_i 𝓤 _ (emp 𝓤) (heap_laws.the_within μ)) $ join ! $
    use0 𝓛 (raw (fact 𝓤 (κ ⊑ X.lives))) (fact_i 𝓤 _ (emp 𝓤) (world_laws.the_within κ)) $ join ! $
    nothing ! $ feq_i ! (List Val) (rawptr_vals a.1.0) (rawptr_vals a.1.0) refl $ move ! (5 ∷ 0 ∷ 1 ∷ []) $ fjoin3 ! $
    nothing ! $ move ! (3 ∷ 0 ∷ []) $ join ! $ move ! (3 ∷ 0 ∷ []) $ join ! $ join ! $ join ! $ use1 𝓛 (raw (G.pre y))
    (id⊢ 𝓤 _) $
    calls_at ! (framed 𝓤 𝓛.H 𝓜 (tables 𝓤 𝓛.H 𝓜 𝓡 𝓡.env)) G known y
    (and_then ! (get ! refl) (and_then ! (get ! refl) (no_more !))) (λ u.
    use1 𝓛 (later (some (λ (r : (B E).Denot). ((‵ (flft κ full_share) ⊛ ‵ (flft μ full_share) ⊛ ‵ ftrue) ⊛ ‵
    ((B E).own_val r (u ∷ []))) ⊛
    some (λ (ws : Lasts Ce (κ, (μ, tt)) (a.0, (a.1.0, tt))). ‵ (lasts Ce (κ, (μ, tt)) (a.0, (a.1.0, tt)) ws) ⊛
    (raw (fact 𝓤 (r.value ≡ x)) ⊛ raw (fact 𝓤 (r.alloc ≡ a.0))))))) (id⊢ 𝓤 _) $
    await ! tt $ pick ! (λ r. split ! $ split ! $ drop ! $ move ! (1 ∷ []) $ drop ! $
    box_out E ! r (u ∷ []) (λ b' o' hw e' eu fw. box_in E ! r b' o' r.value e' refl $ let w' = word E hw b' o' in
    lands_as ! (ap only eu) refl (box_typed E hw b' o' fw) $
    let G2 = triple_of 𝓛 go.signature (go.spec 𝓛 𝓜.mem 𝓡.returns) in
    let z2 : G2.Ghost = ((κs, qs, bounds, (r, tt), (w' ∷ [], tt)), tt) in
    nothing ! $ move ! (1 ∷ 0 ∷ []) $ join ! $ nothing ! $ join ! $ nothing ! $ move ! (1 ∷ 0 ∷ []) $ use2 𝓛
    (raw (G2.pre z2)) (id⊢ 𝓤 _) $
    calls_at ! (framed 𝓤 𝓛.H 𝓜 (tables 𝓤 𝓛.H 𝓜 𝓡 𝓡.env)) G2
    (go_met 𝓤 𝓛 𝓜 𝓡 (code.calls-wl_c::exports::drop_world 𝓡.env wired)) z2 (and_then ! (get ! refl) (no_more !)) (λ v.
    use1 𝓛 (later (some (λ (r2 : Unit {0}). (‵ ftrue ⊛ ‵ (unit.own_val r2 (v ∷ []))) ⊛ some
    (λ (ws : Lasts go.ended κs (r, tt)). ‵ (lasts go.ended κs (r, tt) ws) ⊛ ‵ ftrue)))) (id⊢ 𝓤 _) $
    await ! tt $ pick ! (λ r2. split ! $ split ! $ drop ! $ feq_l ! (λ is_unit. drop ! $
    lands_as ! (ap only is_unit) refl (tt, tt) $ sets ! (of_opd ! (unit_lit !)) refl (tt, tt) $ returns !
    (look_at ! 0 refl) $ free_all ! refl $
    suffices ! _ (ends_at 𝓛 f.ended stayed c Y vunit tt (tt, (tt, tt)) (tt, (tt, tt))) $
    nothing ! $ feq_i ! _ (vunit ∷ []) _ refl $ nothing ! $ nothing ! $ join ! $ nothing ! $ join ! $ nothing ! $ group
    ! 3 $ done !))))))))))
