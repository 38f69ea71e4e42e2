-- Observations that fit what was last reported.
use Rattle.std.proofs.Common.{◌≡◌, ◌∙◌, ℕ, List, Bool, true, false, inl, inr, refl, sym, ap, subst, cond}
use Rattle.std.specs.Prelude.{slice_index_or}
use Rattle.wl_types.specs.declared.phases.Phase.{Phase}
use Rattle.wl_types.specs.declared.phases.Phase.TheVariants.{Pending, Granted, Taken, Unavailable, Aborted, Released}
use Rattle.wl_types.specs.declared.phases.Phase.TheVariants.{Stolen}
use Rattle.wl_types.specs.Phases.{Reaches}
use Rattle.wl_codec.specs.declared.reply.Outcome.{Outcome}
use Rattle.wl_session.specs.inner.Places.{IsAt}
use Rattle.wl_session.specs.LastReported.{RequestPhase, Fits, is_new, phase_in}

pending_reaches : (to : Phase) → Reaches Pending to
pending_reaches Pending = inl refl
pending_reaches Granted = inr refl
pending_reaches Taken = inr refl
pending_reaches Unavailable = inr refl
pending_reaches (Aborted reason) = inr refl
pending_reaches Released = inr refl
pending_reaches Stolen = inr refl

-- the request that the reply answers starts as Pending
pub fits_new : (o : Outcome) (last_reported : List RequestPhase) (observation : RequestPhase)
    → is_new o observation.0 ≡ true → Fits o last_reported observation
fits_new o last_reported observation new = record {
  known = inl new;
  reached = subst (λ (b : Bool). Reaches (cond b Pending (phase_in last_reported observation.0)) observation.1)
      (sym new) (pending_reaches observation.1);
}

-- one that stands in the list was told the phase there
pub fits_reported : (o : Outcome) (last_reported : List RequestPhase) (observation : RequestPhase) (at : ℕ)
    → is_new o observation.0 ≡ false → IsAt last_reported observation.0 at
    → Reaches (slice_index_or last_reported at (0, Pending)).1 observation.1 → Fits o last_reported observation
fits_reported o last_reported observation at old place reached =
    let here : RequestPhase = (observation.0, phase_in last_reported observation.0) in
    let found : slice_index_or last_reported at here ≡ here =
    ap (λ (n : ℕ). (n, (slice_index_or last_reported at here).1)) (place.number here)
    ∙ ap (λ (p : Phase). (observation.0, p)) (place.phase here) in
    record {
      known = inr (at, here, place.in_range, found, refl);
      reached = subst (λ (b : Bool). Reaches (cond b Pending (phase_in last_reported observation.0)) observation.1)
          (sym old) (subst (λ (p : Phase). Reaches p observation.1) (place.phase (0, Pending)) reached);
    }
