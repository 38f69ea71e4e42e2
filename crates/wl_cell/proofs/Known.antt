-- What the rule of a cell means for what its seats know.
use Rattle.std.proofs.Common.{◌≡◌, ◌⊎◌, ◌∙◌, ℕ, true, refl, inl, ⊎_elim, subst, sym, arith}
use Rattle.std.specs.Prelude.{IsTrue}
use Rattle.wl_types.specs.declared.phases.Phase.{Phase}
use Rattle.wl_types.specs.declared.phases.Phase.TheVariants.{Taken, Aborted}
use Rattle.wl_types.specs.declared.words.Reason.{Reason}
use Rattle.wl_types.specs.Phases.{Reaches, is_end}
use Rattle.wl_cell.specs.declared.view.View.{View}
use Rattle.wl_cell.specs.declared.view.View.TheVariants.{First, Keeper, Owner, Watch, Note, Spent}
use Rattle.wl_cell.specs.Rule.{Cell, Kept, Fits, UpToTaken}
use Rattle.wl_cell.specs.Laws.{Knows, IsKnown, SeatsAgree, EndsAreEqual, NoAbortOnceTaken}

settled_reaches : (m w : Phase) → UpToTaken m w → Reaches m w
settled_reaches m w s = grind arith

-- what a seat knows reaches the word
known_reaches : (n : ℕ) (w : Phase) (j : ℕ) (v : View) → Fits n w j v → (p : Phase) → Knows v p → Reaches p w
known_reaches n w j First f p k = inl (k ∙ sym f.2)
known_reaches n w j (Keeper m) f p k = subst (λ q. Reaches q w) (sym k) (settled_reaches m w f.2)
known_reaches n w j (Owner t s) f p k = subst (λ q. Reaches q w) (sym k) f.1
known_reaches n w j (Watch s told) f p k = ⊎_elim (λ (e : p ≡ s). subst (λ q. Reaches q w) (sym e) f.0)
    (λ (e : p ≡ told). subst (λ q. Reaches q w) (sym e) f.1) k
known_reaches n w j (Note s) f p k = subst (λ q. Reaches q w) (sym k) f
known_reaches n w j Spent f p k = absurd k

pub reaches_word : (cell : Cell) (kept : Kept cell) (p : Phase) → IsKnown cell p → Reaches p kept.phase
reaches_word cell kept p k = known_reaches _ kept.phase k.0 k.1 (kept.seats k.0 k.1 k.2) p k.3

chain : (p q w : Phase) → Reaches p w → Reaches q w → Reaches p q ⊎ Reaches q p
chain p q w a b = grind arith

pub seats_agree : SeatsAgree
seats_agree cell kept p q a b = chain p q kept.phase (reaches_word cell kept p a) (reaches_word cell kept q b)

same_end : (p q w : Phase) → IsTrue (is_end p) → IsTrue (is_end q) → Reaches p w → Reaches q w → p ≡ q
same_end p q w a b r s = grind arith

pub ends_are_equal : EndsAreEqual
ends_are_equal cell kept p q a b k l = same_end p q kept.phase a b (reaches_word cell kept p k)
    (reaches_word cell kept q l)

aborted_or_taken : (r : Reason) (w : Phase) → Reaches Taken w → Reaches (Aborted r) w → ⊥
aborted_or_taken r w a b = absurd (grind arith)

pub no_abort_once_taken : NoAbortOnceTaken
no_abort_once_taken cell kept j seen at r k =
    let f = kept.seats j (Owner true seen) at in aborted_or_taken r kept.phase (f.2 refl)
    (reaches_word cell kept (Aborted r) k)
