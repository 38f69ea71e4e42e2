-- Cutting a view in two and taking in another keep the rule of a cell.
use Rattle.std.proofs.Common.{◌≡◌, ◌≢◌, ◌⊎◌, ℕ, zero, suc, ◌+◌, Bool, true≢false, List, [], ◌∷◌, ◌++◌, length, set}
use Rattle.std.proofs.Common.{refl, sym, ap, ◌∙◌, subst, inl, inr, ⊎_elim, arith, length-set, length-append}
use mathlib.Core.Option.{some, some-ne-none, some-injective}
use lib.ListN.{get_elem?}
use Rattle.atomic_table.specs.Table.{Splits, Joins}
use Rattle.atomic_table.proofs.Lists.{at_set}
use Rattle.wl_types.specs.declared.phases.Phase.{Phase}
use Rattle.wl_types.specs.declared.phases.Phase.TheVariants.{Pending}
use Rattle.wl_cell.specs.declared.view.View.{View}
use Rattle.wl_cell.specs.declared.view.View.TheVariants.{First, Keeper, Owner, Watch, Note, Spent}
use Rattle.wl_cell.specs.Rule.{Fits, Kept}
use Rattle.wl_cell.specs.inner.Rule.{owner_at}
use Rattle.wl_cell.specs.inner.Steps.{owner_at_first, keeper_at_first, watch_of, note_of, told}

-- an element of a list with one more at its end
at_end : {A : Type 0} (l : List A) (a b : A) (j : ℕ) → get_elem? (l ++ a ∷ []) j ≡ some b
    → (get_elem? l j ≡ some b) ⊎ ((j ≡ length l) × (a ≡ b))
at_end [] a b zero e = inr (refl, some-injective a b e)
at_end [] a b (suc j) e = absurd (some-ne-none b (sym e))
at_end (x ∷ xs) a b zero e = inl e
at_end (x ∷ xs) a b (suc j) e = ⊎_elim inl (λ t. inr (ap suc t.0, t.1)) (at_end xs a b j e)

-- seats other than the owner's when a seat is added
grows : (n : ℕ) (w : Phase) (j : ℕ) (u : View) → j ≢ 0 → Fits n w j u → Fits (n + 1) w j u
grows n w j First ne f = absurd (ne f.0)
grows n w j (Keeper m) ne f = (f.0, omega arith, f.2)
grows n w j (Owner t s) ne f = absurd (ne f.0)
grows n w j (Watch seen old) ne f = f
grows n w j (Note seen) ne f = f
grows n w j Spent ne f = f

-- cutting the view of the first seat in two
splits : (id : ℕ) (v left right : View) → ((n : ℕ) (w : Phase) → Fits n w id v
    → (id ≡ 0) × Fits (n + 1) w id left × Fits (n + 1) w n right) → Splits Kept id v left right
splits id v left right go st kept at = record {
  phase = kept.phase;
  range = kept.range;
  word = kept.word;
  seats = all (go (length st.views) kept.phase (kept.seats id v at));
}
  where
    long : length (set st.views id left ++ right ∷ []) ≡ length st.views + 1
    long = length-append (set st.views id left) (right ∷ []) ∙ ap (λ (k : ℕ). k + 1) (length-set st.views id left)

    all : (id ≡ 0) × Fits (length st.views + 1) kept.phase id left
        × Fits (length st.views + 1) kept.phase (length st.views) right → (j : ℕ) (u : View)
        → get_elem? (set st.views id left ++ right ∷ []) j ≡ some u
        → Fits (length (set st.views id left ++ right ∷ [])) kept.phase j u
    all g j u e = subst (λ n. Fits n kept.phase j u) (sym long)
        (⊎_elim
        (λ (x : get_elem? (set st.views id left) j ≡ some u). ⊎_elim
        (λ (y : (j ≡ id) × (left ≡ u)). subst (λ (z : ℕ × View). Fits (length st.views + 1) kept.phase z.0 z.1)
        (λ i. (sym y.0 i, y.1 i)) g.1)
        (λ (y : (j ≢ id) × (get_elem? st.views j ≡ some u)). grows (length st.views) kept.phase j u
        (λ z. y.0 (z ∙ sym g.0)) (kept.seats j u y.1))
        (at_set st.views id j left u x))
        (λ (x : (j ≡ length (set st.views id left)) × (right ≡ u)). subst
        (λ (z : ℕ × View). Fits (length st.views + 1) kept.phase z.0 z.1)
        (λ i. (sym (x.0 ∙ length-set st.views id left) i, x.1 i)) g.2)
        (at_end (set st.views id left) right u j e))

pub keeper_splits : (id : ℕ) (v : View) → v ≡ First → Splits Kept id v owner_at_first keeper_at_first
keeper_splits id v is = subst (λ u. Splits Kept id u owner_at_first keeper_at_first) (sym is)
    (splits id First owner_at_first keeper_at_first
    (λ n w f. (
      f.0,
      (
        f.0,
        inl (sym f.2),
        (λ e. absurd (true≢false (sym e))),
        (λ _ e. absurd (let h = sym f.2 ∙ e in cc)),
      ),
      (f.1, omega arith, inl (sym f.2)),
    )))

pub watch_splits : (id : ℕ) (v : View) (t : Bool) (s : Phase) → v ≡ owner_at t s → Splits Kept id v v (watch_of v)
watch_splits id v t s is = subst (λ u. Splits Kept id u u (watch_of u)) (sym is)
    (splits id (owner_at t s) (owner_at t s) (Watch s Pending) (λ n w f. (f.0, f, (f.1, grind arith))))

pub note_splits : (id : ℕ) (v : View) (t : Bool) (s : Phase) → v ≡ owner_at t s → Splits Kept id v v (note_of v)
note_splits id v t s is = subst (λ u. Splits Kept id u u (note_of u)) (sym is)
    (splits id (owner_at t s) (owner_at t s) (Note s) (λ n w f. (f.0, f, f.1)))

-- a watch reads a note
tells : (n : ℕ) (w : Phase) (id other : ℕ) (v u : View) → Fits n w id v → Fits n w other u → Fits n w id (told v u)
tells n w id other (Watch s old) (Note new) f g = (f.0, g)
tells n w id other (Watch s old) First f g = f
tells n w id other (Watch s old) (Keeper m) f g = f
tells n w id other (Watch s old) (Owner t x) f g = f
tells n w id other (Watch s old) (Watch a b) f g = f
tells n w id other (Watch s old) Spent f g = f
tells n w id other First u f g = f
tells n w id other (Keeper m) u f g = f
tells n w id other (Owner t x) u f g = f
tells n w id other (Note x) u f g = f
tells n w id other Spent u f g = f

pub joins : (id : ℕ) (v : View) (other : ℕ) (u : View) → Joins Kept id v other u (told v u) Spent
joins id v other u st kept at apart there = record {
  phase = kept.phase;
  range = kept.range;
  word = kept.word;
  seats = all;
}
  where
    one : List View
    one = set st.views id (told v u)

    two : List View
    two = set one other Spent

    theirs : Fits (length st.views) kept.phase other u
    theirs = ⊎_elim (λ (x : (other ≡ id) × (told v u ≡ u)). absurd (apart x.0))
        (λ (x : (other ≢ id) × (get_elem? st.views other ≡ some u)). kept.seats other u x.1)
        (at_set st.views id other (told v u) u there)

    mine : Fits (length st.views) kept.phase id (told v u)
    mine = tells (length st.views) kept.phase id other v u (kept.seats id v at) theirs

    long : length two ≡ length st.views
    long = length-set one other Spent ∙ length-set st.views id (told v u)

    all : (j : ℕ) (x : View) → get_elem? two j ≡ some x → Fits (length two) kept.phase j x
    all j x e = subst (λ n. Fits n kept.phase j x) (sym long)
        (⊎_elim
        (λ (y : (j ≡ other) × (Spent ≡ x)). subst (Fits (length st.views) kept.phase j) y.1 tt)
        (λ (y : (j ≢ other) × (get_elem? one j ≡ some x)). ⊎_elim
        (λ (z : (j ≡ id) × (told v u ≡ x)). subst (λ (q : ℕ × View). Fits (length st.views) kept.phase q.0 q.1)
        (λ i. (sym z.0 i, z.1 i)) mine)
        (λ (z : (j ≢ id) × (get_elem? st.views j ≡ some x)). kept.seats j x z.1)
        (at_set st.views id j (told v u) x y.1))
        (at_set one other j Spent x e))
