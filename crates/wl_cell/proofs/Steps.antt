-- Each load, store and exchange on the word of a cell keeps its rule.
use Rattle.std.proofs.Common.{ne_eqb, ◌≡◌, ◌≢◌, ◌⊎◌, ℕ, zero, suc, ◌<◌, Bool, true, false, true≢false, List, [], ◌∷◌}
use Rattle.std.proofs.Common.{length, set, refl, sym, ap, ◌∙◌, subst, inl, inr, ⊎_elim, arith, length-set}
use Rattle.std.specs.Prelude.{slice_index, ◌==◌, IsTrue}
use mathlib.Core.Option.{none, some, some-ne-none, some-injective}
use lib.ListN.{get_elem?}
use prog.Atomic.{either}
use Rattle.atomic_table.specs.Table.{step, keeps, Allows}
use Rattle.atomic_table.proofs.Lists.{at_set}
use Rattle.wl_types.specs.declared.phases.Phase.{Phase}
use Rattle.wl_types.specs.declared.phases.Phase.TheVariants.{Pending, Granted, Taken, Unavailable, Aborted, Released}
use Rattle.wl_types.specs.declared.phases.Phase.TheVariants.{Stolen}
use Rattle.wl_types.specs.declared.words.Reason.{Reason}
use Rattle.wl_types.specs.Phases.{Reaches}
use Rattle.wl_types.proofs.Chains.{reaches-trans}
use Rattle.wl_cell.specs.declared.view.View.{View}
use Rattle.wl_cell.specs.declared.view.View.TheVariants.{First, Keeper, Owner, Watch, Note, Spent}
use Rattle.wl_cell.specs.Words.{word_of, word_count}
use Rattle.wl_cell.specs.Seats.{may_settle}
use Rattle.wl_cell.specs.Rule.{UpToTaken, Fits, Kept, took}
use Rattle.wl_cell.specs.inner.Rule.{keeper_at, owner_at}
use Rattle.wl_cell.specs.inner.Steps.{Mine, Precedes, seeing, Looked, Settled, taking, Exchanged, TriedAbort}

-- the seats other than this one still fit when the word's phase changes
abbrev pub Others : ℕ → Phase → Phase → ℕ → Type 0
Others n from to id = (j : ℕ) (u : View) → j ≢ id → Fits n from j u → Fits n to j u

-- where a step of the seat id can go on from the phase w: the next phase and view, and that all seats fit
abbrev pub GoesOn : ℕ → ℕ → Mine → (ℕ → ℕ) → (ℕ → Mine → Type 0) → Phase → Type 0
GoesOn n id me f then w =
    (to : Phase) × (v : View) × (word_of to < word_count) × (f (word_of w) ≡ word_of to) × Fits n to id v
    × Others n w to id × then (word_of w) (v, me.1)

-- a new cell
pub opens : Kept record { words = 0 ∷ []; homes = []; views = First ∷ [] }
opens = record { phase = Pending; range = omega arith; word = refl; seats = one }
  where
    one : (j : ℕ) (v : View) → get_elem? (First ∷ []) j ≡ some v → Fits 1 Pending j v
    one zero v e = subst (Fits 1 Pending 0) (some-injective _ _ e) (refl, refl, refl)
    one (suc j) v e = absurd (some-ne-none v (sym e))

-- a step of the seat id keeps the rule where it can go on from each phase that its view fits
pub allows : (slots id : ℕ) (me : Mine) (f : ℕ → ℕ) (then : ℕ → Mine → Type 0)
    → ((n : ℕ) (w : Phase) → word_of w < word_count → Fits n w id me.0 → GoesOn n id me f then w)
    → Allows Kept slots id me 0 f then
allows slots id me f then go s kept _ at _ =
    let t = go (length s.views) kept.phase kept.range (kept.seats id me.0 at) in
    let P : List ℕ → Type 0 = λ ws. (set ws 0 (f (slice_index ws 0)) ≡ word_of t.0 ∷ []) ×
    then (slice_index ws 0) (t.1, me.1) in
    let both : P s.words = subst P (sym kept.word) (ap (λ k. k ∷ []) t.3, t.6) in
    (t.1, keeps, tt, record { phase = t.0; range = t.2; word = both.0; seats = all t.0 t.1 t.4 t.5 }, both.1)
  where
    all : (to : Phase) (v : View) → Fits (length s.views) to id v → Others (length s.views) kept.phase to id
        → (j : ℕ) (u : View) → get_elem? (set s.views id v) j ≡ some u
        → Fits (length (set s.views id v)) to j u
    all to v mine others j u e = subst (λ n. Fits n to j u) (sym (length-set s.views id v))
        (⊎_elim
        (λ (x : (j ≡ id) × (v ≡ u)). subst (λ (y : ℕ × View). Fits (length s.views) to y.0 y.1)
        (λ i. (sym x.0 i, x.1 i)) mine)
        (λ (x : (j ≢ id) × (get_elem? s.views j ≡ some u)). others j u x.0 (kept.seats j u x.1))
        (at_set s.views id j v u e))

-- a load, by the owner or a watch
sees : (n : ℕ) (w : Phase) (id : ℕ) (v : View) → Fits n w id v → Fits n w id (seeing v w) × Precedes v w
sees n w id First f = (f, tt)
sees n w id (Keeper m) f = (f, tt)
sees n w id (Owner t seen) f = ((f.0, inl refl, f.2, f.3), f.1)
sees n w id (Watch seen told) f = ((inl refl, grind arith), (f.0, f.1))
sees n w id (Note seen) f = (f, tt)
sees n w id Spent f = (f, tt)

pub looks : (slots id : ℕ) (me : Mine) → Allows Kept slots id me 0 (λ n. n) (Looked (step slots 0 0 0 none) me)
looks slots id me = allows slots id me (λ n. n) (Looked (step slots 0 0 0 none) me)
    (λ n w ok f. let s = sees n w id me.0 f in (
      w,
      seeing me.0 w,
      ok,
      refl,
      s.0,
      (λ j u _ h. h),
      (w, ok, refl, s.1, refl),
    ))

-- other seats when the keeper moves the word, where that isn't to Taken
keeper_moves : (n : ℕ) (w to : Phase) → 1 < n → Reaches w to → to ≢ Taken → Others n w to 1
keeper_moves n w to two r not j First ne f = absurd (let h = f.1 in omega arith)
keeper_moves n w to two r not j (Keeper m) ne f = absurd (ne f.0)
keeper_moves n w to two r not j (Owner t seen) ne f = (
  f.0,
  reaches-trans seen w to f.1 r,
  (λ e. reaches-trans Taken w to (f.2 e) r),
  (λ _. not),
)
keeper_moves n w to two r not j (Watch seen told) ne f = (reaches-trans seen w to f.0 r, reaches-trans told w to f.1 r)
keeper_moves n w to two r not j (Note seen) ne f = reaches-trans seen w to f r
keeper_moves n w to two r not j Spent ne f = tt

settled_reach : (m to w : Phase) → IsTrue (may_settle m to) → UpToTaken m w → Reaches w to
settled_reach m to w may s = grind arith

settled_not_taken : (m to : Phase) → IsTrue (may_settle m to) → to ≢ Taken
settled_not_taken m to may is = grind arith

pub stores : (slots id : ℕ) (me : Mine) (m to : Phase) → me.0 ≡ keeper_at m → IsTrue (may_settle m to)
    → word_of to < word_count
    → Allows Kept slots id me 0 (λ _. word_of to) (λ _. Settled (step slots 0 (word_of to) 0 none) me (word_of to))
stores slots id me m to is may range = allows slots id me (λ _. word_of to)
    (λ _. Settled (step slots 0 (word_of to) 0 none) me (word_of to))
    (λ n w ok f. let k : Fits n w id (Keeper m) = subst (Fits n w id) is f in
    let moved = keeper_moves n w to k.1 (settled_reach m to w may k.2) (settled_not_taken m to may) in
    (to, Keeper to, range, refl, (k.0, k.1, inl refl), subst (Others n w to) (sym k.0) moved, (to, refl, refl)))

phase_is_granted : (w : Phase) → (w ≡ Granted) ⊎ (w ≢ Granted)
phase_is_granted Granted = inl refl
phase_is_granted Pending = inr (λ e. absurd (cc))
phase_is_granted Taken = inr (λ e. absurd (cc))
phase_is_granted Unavailable = inr (λ e. absurd (cc))
phase_is_granted (Aborted r) = inr (λ e. absurd (cc))
phase_is_granted Released = inr (λ e. absurd (cc))
phase_is_granted Stolen = inr (λ e. absurd (cc))

-- an exchange for Granted leaves the word of each other phase
exchange_leaves : (new : ℕ) (w : Phase) → w ≢ Granted → either (word_of w == word_of Granted) new (word_of w)
    ≡ word_of w
exchange_leaves new w ne = rw (ne_eqb (word_of w) (word_of Granted) (other_word w ne)) refl
  where
    other_word : (w : Phase) → w ≢ Granted → word_of w ≢ word_of Granted
    other_word w ne e = grind arith

taking_other : (t : Bool) (s w : Phase) → w ≢ Granted → taking (Owner t s) w ≡ Owner t w
taking_other t s Pending ne = refl
taking_other t s Granted ne = absurd (ne refl)
taking_other t s Taken ne = refl
taking_other t s Unavailable ne = refl
taking_other t s (Aborted r) ne = refl
taking_other t s Released ne = refl
taking_other t s Stolen ne = refl

-- other seats when the owner takes the lock
owner_takes : (n : ℕ) → Others n Granted Taken 0
owner_takes n j First ne f = absurd (ne f.0)
owner_takes n j (Keeper m) ne f = (f.0, f.1, let s = f.2 in grind arith)
owner_takes n j (Owner t seen) ne f = absurd (ne f.0)
owner_takes n j (Watch seen told) ne f = (
  reaches-trans seen Granted Taken f.0 (inr refl),
  reaches-trans told Granted Taken f.1 (inr refl),
)
owner_takes n j (Note seen) ne f = reaches-trans seen Granted Taken f (inr refl)
owner_takes n j Spent ne f = tt

untaken : (t : Bool) → (t ≡ true → Reaches Taken Granted) → t ≡ false
untaken true h = absurd (let r = h refl in grind arith)
untaken false h = refl

pub takes : (slots id : ℕ) (me : Mine) (t : Bool) (s : Phase) → me.0 ≡ owner_at t s
    → Allows Kept slots id me 0 (λ n. either (n == word_of Granted) (word_of Taken) n)
    (Exchanged (step slots 0 (word_of Granted) (word_of Taken) none) me)
takes slots id me t s is = allows slots id me (λ n. either (n == word_of Granted) (word_of Taken) n)
    (Exchanged (step slots 0 (word_of Granted) (word_of Taken) none) me)
    (λ n w ok f. go n w ok (subst (Fits n w id) is f))
  where
    Goal : ℕ → Phase → Type 0
    Goal n w = GoesOn n id me (λ k. either (k == word_of Granted) (word_of Taken) k)
        (Exchanged (step slots 0 (word_of Granted) (word_of Taken) none) me) w

    go : (n : ℕ) (w : Phase) → word_of w < word_count → Fits n w id (Owner t s) → Goal n w
    go n w ok f = ⊎_elim
        (λ (e : w ≡ Granted). subst (λ u. Fits n u id (Owner t s) → Goal n u) (sym e)
        (λ g. let un = untaken t g.2 in (
          Taken,
          taking me.0 Granted,
          omega arith,
          refl,
          subst (λ v. Fits n Taken id (taking v Granted)) (sym is)
              (g.0, inl refl, (λ _. inl refl), (λ a. absurd (true≢false a))),
          subst (Others n Granted Taken) (sym g.0) (owner_takes n),
          (Granted, omega arith, refl, subst (λ v. Precedes v Granted) (sym is) g.1, (λ _. ap took is ∙ un), refl),
        ))
        f)
        (λ (ne : w ≢ Granted). (
          w,
          taking me.0 w,
          ok,
          exchange_leaves (word_of Taken) w ne,
          subst (λ v. Fits n w id (taking v w)) (sym is) (subst (Fits n w id) (sym (taking_other t s w ne))
              (f.0, inl refl, f.2, f.3)),
          (λ j u _ h. h),
          (w, ok, refl, subst (λ v. Precedes v w) (sym is) f.1, (λ e. absurd (ne e)), refl),
        ))
        (phase_is_granted w)

pub aborts : (slots id : ℕ) (me : Mine) (r : Reason) → me.0 ≡ keeper_at Granted → word_of (Aborted r) < word_count
    → Allows Kept slots id me 0 (λ n. either (n == word_of Granted) (word_of (Aborted r)) n)
    (TriedAbort (step slots 0 (word_of Granted) (word_of (Aborted r)) none) me)
aborts slots id me r is range = allows slots id me (λ n. either (n == word_of Granted) (word_of (Aborted r)) n)
    (TriedAbort (step slots 0 (word_of Granted) (word_of (Aborted r)) none) me)
    (λ n w ok f. at n w (subst (Fits n w id) is f))
  where
    Goal : ℕ → Phase → Type 0
    Goal n w = GoesOn n id me (λ k. either (k == word_of Granted) (word_of (Aborted r)) k)
        (TriedAbort (step slots 0 (word_of Granted) (word_of (Aborted r)) none) me) w

    at : (n : ℕ) (w : Phase) → Fits n w id (Keeper Granted) → Goal n w
    at n w f = ⊎_elim
        (λ (e : Granted ≡ w). subst (Goal n) e (
          Aborted r,
          Keeper (Aborted r),
          range,
          refl,
          (f.0, f.1, inl refl),
          subst (Others n Granted (Aborted r)) (sym f.0) (keeper_moves n Granted (Aborted r) f.1 (inr refl)
              (λ x. absurd (cc))),
          inl (refl, (r, refl, refl)),
        ))
        (λ (e : (Granted ≡ Granted) × (w ≡ Taken)). subst (Goal n) (sym e.1)
        (Taken, Keeper Taken, omega arith, refl, (f.0, f.1, inl refl), (λ j u _ h. h), inr (refl, refl)))
        f.2
