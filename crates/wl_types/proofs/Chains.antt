-- Facts on phases that other crates cite.
use Rattle.std.proofs.Common.{◌≡◌, arith, true, inl, refl, List, [], ◌∷◌, ⊎_elim}
use Rattle.std.specs.Prelude.{IsTrue}
use Rattle.wl_types.specs.declared.phases.Phase.{Phase}
use Rattle.wl_types.specs.declared.phases.Phase.TheVariants.{Pending, Granted, Taken, Unavailable, Aborted, Released}
use Rattle.wl_types.specs.declared.phases.Phase.TheVariants.{Stolen}
use Rattle.wl_types.specs.Phases.{is_move, leads, Reaches, IsPath}

pub leads-trans : (s t u : Phase) → IsTrue (leads s t) → IsTrue (leads t u) → IsTrue (leads s u)
leads-trans s t u p q = grind (arith)

pub reaches-trans : (s t u : Phase) → Reaches s t → Reaches t u → Reaches s u
reaches-trans s t u p q = grind (arith, leads-trans)

pub move-reaches : (s t : Phase) → is_move s t ≡ true → Reaches s t
move-reaches s t m = grind arith

pub path-reaches : (s t : Phase) (us : List Phase) → IsPath s us t → Reaches s t
path-reaches s t [] p = inl p
path-reaches s t (u ∷ us) p = reaches-trans s u t (move-reaches s u p.0) (path-reaches u t us p.1)

leads-path : (s t : Phase) → leads s t ≡ true → (us : List Phase) × IsPath s us t
leads-path Pending Pending h = absurd (cc)
leads-path Pending Granted h = (Granted ∷ [], (refl, refl))
leads-path Pending Taken h = (Granted ∷ Taken ∷ [], (refl, (refl, refl)))
leads-path Pending Unavailable h = (Unavailable ∷ [], (refl, refl))
leads-path Pending (Aborted reason) h = (Aborted reason ∷ [], (refl, refl))
leads-path Pending Released h = (Granted ∷ Released ∷ [], (refl, (refl, refl)))
leads-path Pending Stolen h = (Granted ∷ Stolen ∷ [], (refl, (refl, refl)))
leads-path Granted t h = (t ∷ [], (h, refl))
leads-path Taken t h = (t ∷ [], (h, refl))
leads-path Unavailable t h = (t ∷ [], (h, refl))
leads-path (Aborted reason) t h = (t ∷ [], (h, refl))
leads-path Released t h = (t ∷ [], (h, refl))
leads-path Stolen t h = (t ∷ [], (h, refl))

pub reaches-path : (s t : Phase) → Reaches s t → (us : List Phase) × IsPath s us t
reaches-path s t r = ⊎_elim (λ (e : s ≡ t). let p : (us : List Phase) × IsPath s us t = ([], e) in p) (leads-path s t) r
